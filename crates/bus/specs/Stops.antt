-- What stops a cycle or an instruction, by its answer number (01, Answer numbers).
use Rattle.std.specs.Prelude.{ℕ, Option, Some, None, Result}
use Rattle.word.specs.Answer.{answered}
use Rattle.bus.specs.declared.Stop.{Stop}
use Rattle.bus.specs.declared.Stop.TheVariants.{LogFull}

-- Nothing does.
abbrev pub goes_on : ℕ
goes_on = 0

-- It would write to 4094 with the log full.
abbrev pub log_full : ℕ
log_full = 5

-- The number of each kind.
abbrev pub number : Stop → ℕ
number LogFull = log_full

-- The number of what stopped it, if anything did.
abbrev pub number_of : Option Stop → ℕ
number_of None = goes_on
number_of (Some stop) = number stop

-- The same of what is carried out or stopped.
abbrev pub stopped : {A : Type 0} → Result A Stop → ℕ
stopped result = answered number result
