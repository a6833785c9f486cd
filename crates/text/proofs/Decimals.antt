-- Laws of decimals: a number below 100 is the same written as any number and with one digit or two.
use Prim.Native.Nat.{ℕ, ◌+◌, ◌/◌, ◌%◌, ◌<◌}
use mathlib.Core.Path.{◌≡◌, refl}
use mathlib.Core.Bool.{Bool, true, false, cond}
use mathlib.Core.List.{[], ◌∷◌}
use native.Mathlib.Omega.{arith}
use borrow.Author.Tests.{lt-ltb, ltb-true, ltb-false}
use lib.Dec.{ltb}
use Rattle.text.specs.Decimal.{digits, decimal, short_decimal}

pub short : (n : ℕ) → n < 100 → decimal n ≡ short_decimal n
unfolding digits short_decimal
short n h = go (ltb n 10) refl
  where
    go : (b : Bool) → ltb n 10 ≡ b → decimal n ≡ cond b ((48 + n) ∷ []) ((48 + n / 10) ∷ (48 + n % 10) ∷ [])
    go true e = let l = ltb-true n 10 e in let m : n % 10 ≡ n = omega arith in rw (e, m)
    go false e =
        let l = ltb-false n 10 e in
        let d : n / 10 < 10 = omega arith in
        let m : n / 10 % 10 ≡ n / 10 = omega arith in
        rw (e, lt-ltb (n / 10) 10 d, m)
