-- A token's number tells it from every word of the grammar: packing is one to one up to four bytes, and longer tokens stay above.
-- Shown on the bytes in reverse, where the last byte comes off first.
use Prim.Native.Nat.{ℕ, ◌+◌, ◌*◌, ◌^◌, ◌≤◌, ◌<◌}
use mathlib.Core.Path.{◌≡◌, refl, sym, ap, ap₂, ◌∙◌}
use mathlib.Core.Bool.{Bool, true, false, ◌&&◌, false≢true}
use mathlib.Core.List.{List, [], ◌∷◌, ◌++◌, reverse, reverse_aux, reverse-reverse}
use native.Mathlib.Omega.{arith}
use borrow.Author.Tests.{eqb-true, ltb-true, ltb-false, eq-eqb, ne_eqb}
use lib.Dec.{ltb, eqb}
use Rattle.text.specs.Text.{same}
use Rattle.text.proofs.Same.{same_equal, same_itself}
use Rattle.token.specs.Code.Next.{grown, packed_after, packed}
use Rattle.token.proofs.Bytes.{Bytes}
use Rattle.word.proofs.Tests.{both}
use Rattle.token.specs.Code.Numbers.{numeral}

bytes_reverse : (t r : List ℕ) → Bytes t → Bytes r → Bytes (reverse_aux t r)
bytes_reverse [] r a b = b
bytes_reverse (c ∷ t) r a b = bytes_reverse t (c ∷ r) a.1 (a.0, b)

-- The same number, made of the bytes in reverse.
back : List ℕ → ℕ
back [] = 1
back (c ∷ t) = grown (back t) c

back_packed : (t r : List ℕ) → back (reverse_aux t r) ≡ packed_after (back r) t
unfolding back
back_packed [] r = refl
back_packed (c ∷ t) r = back_packed t (c ∷ r)

-- A number that has grown: either it has the byte behind it, or it was too large before.
data Grown (n c : ℕ) : Type 0 where
  longer : n < 2 ^ 33 → grown n c ≡ n * 256 + c → Grown n c
  full : 2 ^ 33 ≤ n → grown n c ≡ n → Grown n c

how : (n c : ℕ) → Grown n c
how n c = go (ltb n (2 ^ 33)) refl
  where
    go : (b : Bool) → ltb n (2 ^ 33) ≡ b → Grown n c
    go true e = longer (ltb-true n (2 ^ 33) e) (rw e)
    go false e = full (ltb-false n (2 ^ 33) e) (rw e)

back_some : (t : List ℕ) → 1 ≤ back t
unfolding back
back_some [] = omega arith
back_some (c ∷ t) = go (how (back t) c) (back_some t)
  where
    go : Grown (back t) c → 1 ≤ back t → 1 ≤ grown (back t) c
    go (longer l e) h = omega arith
    go (full l e) h = omega arith

back_more : (c : ℕ) (t : List ℕ) → grown (back t) c ≡ 1 → ⊥
back_more c t p = go (how (back t) c) (back_some t)
  where
    go : Grown (back t) c → 1 ≤ back t → ⊥
    go (longer l e) h = omega arith
    go (full l e) h = omega arith

back_equal : (u v : List ℕ) → Bytes u → Bytes v → back v < 2 ^ 33 → back u ≡ back v → u ≡ v
unfolding back
back_equal [] [] a b l e = refl
back_equal [] (d ∷ v) a b l e = absurd (back_more d v (sym e))
back_equal (c ∷ u) [] a b l e = absurd (back_more c u e)
back_equal (c ∷ u) (d ∷ v) a b l e = go (how (back u) c) (how (back v) d) (back_equal u v a.1 b.1)
  where
    go : Grown (back u) c → Grown (back v) d → (back v < 2 ^ 33 → back u ≡ back v → u ≡ v) → c ∷ u ≡ d ∷ v
    go (longer k p) (longer m q) f =
        let h : c < 256 = a.0 in
        let g : d < 256 = b.0 in
        let x : c ≡ d = omega arith in
        let y : back u ≡ back v = omega arith in
        ap₂ (λ (z : ℕ) (t : List ℕ). z ∷ t) x (f m y)
    go (full k p) (longer m q) f = absurd (omega arith)
    go (longer k p) (full m q) f = absurd (omega arith)
    go (full k p) (full m q) f = absurd (omega arith)

packed_equal : (u v : List ℕ) → Bytes u → Bytes v → packed v < 2 ^ 33 → packed u ≡ packed v → u ≡ v
unfolding back
packed_equal u v a b l e =
    let p : back (reverse u) ≡ packed u = back_packed u [] in
    let q : back (reverse v) ≡ packed v = back_packed v [] in
    let w : reverse u ≡ reverse v = back_equal (reverse u) (reverse v) (bytes_reverse u [] a tt) (bytes_reverse v [] b tt) (omega arith) (p ∙ e ∙ sym q) in
    sym (reverse-reverse u) ∙ ap reverse w ∙ reverse-reverse v

-- A word of the grammar: bytes whose number is small, and is that of their digits.
abbrev all_bytes : List ℕ → Bool
all_bytes [] = true
all_bytes (c ∷ t) = ltb c 256 && all_bytes t

abbrev pub short : List ℕ → Bool
short v = all_bytes v && (ltb (packed v) (2 ^ 33) && eqb (packed v) (numeral 1 v))

all_bytes_lem : (v : List ℕ) → all_bytes v ≡ true → Bytes v
all_bytes_lem [] e = tt
all_bytes_lem (c ∷ v) e = let b = both (ltb c 256) (all_bytes v) e in (ltb-true c 256 b.0, all_bytes_lem v b.1)

-- A token is known by its number.
pub known : (u v : List ℕ) → Bytes u → short v ≡ true → eqb (packed u) (numeral 1 v) ≡ same u v
known u v a s = go (same u v) refl
  where
    x : (all_bytes v ≡ true) × ((ltb (packed v) (2 ^ 33) && eqb (packed v) (numeral 1 v)) ≡ true)
    x = both (all_bytes v) _ s

    y : (ltb (packed v) (2 ^ 33) ≡ true) × (eqb (packed v) (numeral 1 v) ≡ true)
    y = both (ltb (packed v) (2 ^ 33)) (eqb (packed v) (numeral 1 v)) x.1

    z : packed v ≡ numeral 1 v
    z = eqb-true (packed v) (numeral 1 v) y.1

    go : (b : Bool) → same u v ≡ b → eqb (packed u) (numeral 1 v) ≡ b
    go true e = eq-eqb _ _ (ap packed (same_equal u v e) ∙ z)
    go false e =
        ne_eqb _ _
        (λ p. false≢true
        (sym e ∙ ap (same u) (sym (packed_equal u v a (all_bytes_lem v x.0) (ltb-true _ _ y.0) (p ∙ sym z))) ∙ same_itself u))
