-- Whether two texts are the same: the test says that they are equal.
use Prim.Native.Nat.{ℕ}
use mathlib.Core.Path.{◌≡◌, refl, ap₂}
use mathlib.Core.Bool.{true, false≢true}
use mathlib.Core.List.{List, [], ◌∷◌}
use borrow.Author.Tests.{eqb-true, eq-eqb}
use lib.Dec.{eqb}
use Rattle.word.proofs.Tests.{both}
use Rattle.text.specs.Text.{same}

pub same_equal : (u v : List ℕ) → same u v ≡ true → u ≡ v
unfolding same
same_equal [] [] e = refl
same_equal [] (y ∷ v) e = absurd (false≢true e)
same_equal (x ∷ u) [] e = absurd (false≢true e)
same_equal (x ∷ u) (y ∷ v) e =
    let b = both (eqb x y) (same u v) e in
    ap₂ (λ (a : ℕ) (t : List ℕ). a ∷ t) (eqb-true x y b.0) (same_equal u v b.1)

pub same_itself : (u : List ℕ) → same u u ≡ true
unfolding same
same_itself [] = refl
same_itself (x ∷ u) = rw (eq-eqb x x refl, same_itself u)
