-- What holds of the promise of `read_line`: no second answer satisfies it.
use Prim.Native.Nat.{ℕ}
use mathlib.Core.Path.{◌≡◌}
use mathlib.Core.List.{List}
use Rattle.std.specs.Prelude.{Result}
use Rattle.word.proofs.Laws.{only}
use Rattle.microtext.specs.Reading.{reading_at}
use Rattle.microtext.specs.declared.Fault.{Fault}
use Rattle.microtext.specs.declared.Read.{Read}

pub only_reading : (text : List ℕ) (at k : ℕ) (r s : Result Read Fault) → r ≡ reading_at text at k → s ≡ reading_at text at k → r ≡ s
only_reading text at k r s p q = only p q
