-- The definitions held against 01 by computing: each F at its edges, N and Z before the cut, and SQ.
use Prim.Native.Nat.{ℕ}
use mathlib.Core.Path.{◌≡◌, refl}
use mathlib.Core.Bool.{true, false}
use mathlib.Core.List.{[], ◌∷◌, map}
use Rattle.datapath.specs.Result.{alu, both, negative, is_zero, jumps, keeps}

record Case : Type 0 where
  f : ℕ
  a : ℕ
  b : ℕ

abbrev of : ℕ → ℕ → ℕ → Case
of f a b = record { f = f; a = a; b = b }

results : map (λ (c : Case). alu c.f c.a c.b)
    (of 0 7 9 ∷ of 1 65535 9 ∷ of 2 0 9 ∷ of 3 65535 2 ∷ of 4 1 2 ∷ of 5 12 10 ∷ of 6 49152 9 ∷ of 7 32769 9 ∷ [])
    ≡ 7 ∷ 0 ∷ 65535 ∷ 1 ∷ 65535 ∷ 8 ∷ 32768 ∷ 16384 ∷ []
unfolding alu both
results = refl

-- 4096 is not 0 and not negative before the cut, and CP keeps 0 of it.
cut : (is_zero 4096 ≡ false) × (negative 32768 ≡ true) × (negative 32767 ≡ false) × (keeps 0 4096 ≡ 0) × (keeps 1 4096 ≡ 4096)
unfolding keeps
cut = (refl, refl, refl, refl, refl)

sequence : map (λ (sq : ℕ). jumps sq true false) (0 ∷ 1 ∷ 2 ∷ 3 ∷ []) ≡ false ∷ true ∷ false ∷ true ∷ []
unfolding jumps
sequence = refl
