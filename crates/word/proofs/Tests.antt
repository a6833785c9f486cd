-- Tests and choices, once for the whole house: what a conjunction and a disjunction say of their halves, what holds of both sides of a
-- choice, a table of cases, a test of every number below a bound, and what holds of all in a list.
use Rattle.std.proofs.Common.{◌≡◌, ℕ, zero, suc, ◌<◌, Bool, true, false, cond, ◌&&◌, ◌||◌, eqb, List, [], ◌∷◌, refl, ap, ◌∙◌, true≢false, arith, eqb-true}
use native.Mathlib.Decide.{ℕ_discrete}
use borrow.Author.Tests.{eqb-false}

pub both : (a b : Bool) → (a && b) ≡ true → (a ≡ true) × (b ≡ true)
both true b e = (refl, e)
both false true e = (e, refl)
both false false e = (e, e)

pub neither : (a b : Bool) → (a || b) ≡ false → (a ≡ false) × (b ≡ false)
neither true b e = absurd (true≢false e)
neither false b e = (refl, e)

-- What holds of both sides holds of the choice.
pub either : {A : Type 0} (P : A → Type 0) (t : Bool) {x y : A} → P x → P y → P (cond t x y)
either P true p q = p
either P false p q = q

pub cond_same : {A : Type 0} (b : Bool) (x : A) → cond b x x ≡ x
cond_same true x = refl
cond_same false x = refl

-- A test that every number below n passes.
unfoldable pub all : ℕ → (ℕ → Bool) → Bool
all zero p = true
all (suc n) p = p n && all n p

pub all_at : (n : ℕ) (p : ℕ → Bool) → all n p ≡ true → (k : ℕ) → k < n → p k ≡ true
unfolding all
all_at zero p e k h = absurd (omega arith)
all_at (suc n) p e k h = go (eqb k n) refl (all_at n p (both (p n) (all n p) e).1 k)
  where
    go : (b : Bool) → eqb k n ≡ b → (k < n → p k ≡ true) → p k ≡ true
    go true q f = ap p (eqb-true k n q) ∙ (both (p n) (all n p) e).0
    go false q f = let d = eqb-false k n q in f (omega arith)

-- A statement for each number below n, one after the other: a table of cases.
infixl 20 ◌also◌
pub data Each (P : ℕ → Type 0) : ℕ → Type 0 where
  none : Each P 0
  ◌also◌ : {n : ℕ} → Each P n → P n → Each P (suc n)

pub each : {P : ℕ → Type 0} {n : ℕ} → Each P n → (k : ℕ) → k < n → P k
each none k h = let z : ⊥ = omega arith in absurd z
each {P} (◌also◌ {n} ps p) k h = elim (ℕ_discrete k n) [ yes e ↦ rw e p | no d ↦ each ps k (omega arith) ]

-- A property of all in a list.
abbrev pub All : {A : Type 0} → (A → Type 0) → List A → Type 0
All P [] = Unit {0}
All P (x ∷ xs) = P x × All P xs
