-- A token in a list of names: its place is the same by the token as by its number.
use Prim.Native.Nat.{suc}
use mathlib.Core.Path.{◌≡◌, refl, ap}
use mathlib.Core.Bool.{Bool, true, ◌&&◌}
use mathlib.Core.List.{List, [], ◌∷◌, map}
use lib.Dec.{eqb}
use lib.ListN.{length}
use Rattle.std.specs.Prelude.{position}
use Rattle.std.specs.List.{position_or_len}
use Rattle.word.proofs.Tests.{both}
use Rattle.text.specs.Text.{same}
use Rattle.token.specs.Tokens.{Token}
use Rattle.token.specs.Code.Next.{packed}
use Rattle.token.specs.Code.Numbers.{numeral}
use Rattle.token.proofs.Bytes.{Bytes}
use Rattle.token.proofs.Packed.{short, known}

abbrev all_short : List Token → Bool
all_short [] = true
all_short (v ∷ vs) = short v && all_short vs

places : (u : Token) → Bytes u → (vs : List Token) → all_short vs ≡ true
    → (position_or_len (eqb (packed u)) (map (numeral 1) vs) ≡ position_or_len (same u) vs) × (length (map (numeral 1) vs) ≡ length vs)
places u b [] e = (refl, refl)
places u b (v ∷ vs) e =
    let s = both (short v) (all_short vs) e in
    let i = places u b vs s.1 in
    (rw (known u v b s.0, i.0) refl, ap suc i.1)

pub position_known : (u : Token) → Bytes u → (vs : List Token) → all_short vs ≡ true → position (eqb (packed u)) (map (numeral 1) vs) ≡ position (same u) vs
position_known u b vs e = let p = places u b vs e in rw (p.0, p.1) refl
