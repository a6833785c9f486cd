-- Bytes by fours: what stands from `at` on is four bytes and those behind them.
use Prim.Native.Nat.{ℕ, suc, ◌+◌, ◌≤◌}
use mathlib.Core.Path.{◌≡◌}
use mathlib.Core.List.{List, ◌∷◌}
use native.Mathlib.Numerals.{towards_suc}
use native.Mathlib.Omega.{arith}
use lib.ListN.{length, get_or, drop}
use lib.Seq.{drop-cons}

pub four : (bytes : List ℕ) (at : ℕ) → at + 4 ≤ length bytes
    → drop at bytes ≡ get_or bytes at 0 ∷ get_or bytes (at + 1) 0 ∷ get_or bytes (at + 2) 0 ∷ get_or bytes (at + 3) 0 ∷ drop (at + 4) bytes
four bytes at fits =
    simp towards_suc
    (rw (
      drop-cons bytes at 0 (omega arith),
      drop-cons bytes (suc at) 0 (omega arith),
      drop-cons bytes (suc (suc at)) 0 (omega arith),
      drop-cons bytes (suc (suc (suc at))) 0 (omega arith),
    ))
