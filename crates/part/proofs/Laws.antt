-- What holds of the definitions: a part's tokens taken in turn, then finished, come to the part that Grammar makes of them; and no second
-- answer satisfies a promise.
use Prim.Native.Nat.{ℕ}
use mathlib.Core.Path.{◌≡◌, refl, sym, ◌∙◌}
use mathlib.Core.List.{List, [], ◌∷◌, map}
use Rattle.std.specs.Prelude.{Option, Some, None}
use Rattle.std.specs.Option.{option_and_then}
use Rattle.token.specs.Tokens.{Token}
use Rattle.token.specs.Code.Next.{packed}
use Rattle.token.proofs.Bytes.{AllBytes}
use Rattle.part.specs.Grammar.{part}
use Rattle.part.specs.declared.Part.{Part}
use Rattle.part.proofs.Course.{rest_of, Reaches, step, finish}
use Rattle.word.proofs.Laws.{only}
use Rattle.part.specs.Code.Stage.{advance, finished}
use Rattle.part.specs.declared.Stage.{Stage}
use Rattle.part.specs.declared.Stage.TheVariants.{Start}

-- The stage behind some tokens in turn, if they come to one.
abbrev pub reached : Option Stage → List ℕ → Option Stage
reached p [] = p
reached None (t ∷ ts) = None
reached (Some p) (t ∷ ts) = reached (advance p t) ts

-- The part that ends there.
abbrev pub ended : Option Stage → Option Part
ended p = option_and_then finished p

from_stage : (p : Option Stage) → Reaches p → (ts : List Token) → AllBytes ts → ended (reached p (map packed ts)) ≡ rest_of p ts
from_stage None f [] a = refl
from_stage None f (t ∷ ts) a = refl
from_stage (Some p) f [] a = sym (finish p f.0)
from_stage (Some p) f (t ∷ ts) a =
    let s = step p f.0 t a.0 ts in
    from_stage (advance p (packed t)) s.fine ts a.1 ∙ sym s.same_part_lem

pub in_turn : (ts : List Token) → AllBytes ts → ended (reached (Some Start) (map packed ts)) ≡ part ts
in_turn [] a = sym (finish Start tt)
in_turn (t ∷ ts) a =
    let s = step Start tt t a.0 ts in
    from_stage (advance Start (packed t)) s.fine ts a.1 ∙ sym s.same_part_lem

pub only_stage : (p : Stage) (t : ℕ) (r s : Option Stage) → r ≡ advance p t → s ≡ advance p t → r ≡ s
only_stage p t r s e f = only e f

pub only_part : (p : Stage) (r s : Option Part) → r ≡ finished p → s ≡ finished p → r ≡ s
only_part p r s e f = only e f
