-- What holds of the promises: no second answer satisfies one.
use Prim.Native.Nat.{ℕ}
use mathlib.Core.Path.{◌≡◌}
use mathlib.Core.List.{List}
use Rattle.std.specs.Prelude.{Option}
use Rattle.word.proofs.Laws.{only}
use Rattle.token.specs.Code.Next.{start_at, scanned}
use Rattle.token.specs.declared.Scanned.{Scanned}
use Rattle.token.specs.Code.Numbers.{decimal_of}

pub only_start : (text : List ℕ) (at r s : ℕ) → r ≡ start_at text at → s ≡ start_at text at → r ≡ s
only_start text at r s p q = only p q

pub only_scanned : (text : List ℕ) (at : ℕ) (r s : Scanned) → r ≡ scanned text at → s ≡ scanned text at → r ≡ s
only_scanned text at r s p q = only p q

pub only_decimal : (t : ℕ) (r s : Option ℕ) → r ≡ decimal_of t → s ≡ decimal_of t → r ≡ s
only_decimal t r s e f = only e f
