-- `of` packs byte after byte.
use borrow.Author.Rules.{rules}
use Prim.Native.Nat.{ℕ}
use mathlib.Core.Path.{◌≡◌, refl, sym, ap, ◌∙◌}
use mathlib.Core.List.{List, [], ◌∷◌}
use native.Mathlib.Omega.{arith}
use borrow.Author.Tests.{eqb-true, eqb-false}
use lib.ListN.{length}
use Rattle.std.specs.Prelude.{Some, None}
use Rattle.std.specs.List.{fold}
use Rattle.std.proofs.lemmas.Iterator.{YieldsList-from_slice}
use Rattle.std.proofs.lemmas.Iterator.Consumers.{fold_from_yields_List}
use Rattle.token.specs.Code.Next.{grown, packed_after, told}
use Rattle.token.specs.declared.Token.{Token as Packed}
use Rattle.token.proofs.Token.of.Goals as goal

abbrev more : Packed → ℕ → Packed
more token c = record { 0 = grown token.0 c }

packs : (t : List ℕ) (token : Packed) → fold more token t ≡ record { 0 = packed_after token.0 t }
packs [] token = refl
packs (c ∷ t) token = packs t (more token c)

told_none : (t : List ℕ) → length t ≡ 0 → None ≡ told t
unfolding told
told_none [] e = refl
told_none (c ∷ t) e = absurd (omega arith)

told_some : (t : List ℕ) (token : Packed) → (length t ≡ 0 → ⊥) → token ≡ fold more (record { 0 = 1 }) t → Some token ≡ told t
unfolding told
told_some [] token n e = absurd (n refl)
told_some (c ∷ t) token n e = ap (λ (x : Packed). Some x) (e ∙ packs (c ∷ t) (record { 0 = 1 }))

pub returns-then-is_empty : goal.returns-then-is_empty
returns-then-is_empty c = told_none c.args.bytes.now (eqb-true _ _ (sym c.is_empty.ensures ∙ c.if-is_empty.true))

pub returns : goal.returns
returns c =
    told_some c.args.bytes.now c.fold.result (eqb-false _ _ (sym c.is_empty.ensures ∙ c.if-is_empty.false))
    (fold_from_yields_List _ more _ _ c.fold.ensures.ran (YieldsList-from_slice c.args.bytes.now cc) (λ a x b q k. search rules))
