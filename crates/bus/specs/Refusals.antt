-- What a run is refused for before it begins, of what is lent to it (01, Answer numbers, 1 to 3); each caller puts them in its order.
use Rattle.std.specs.Prelude.{ℕ, Bool, not, ◌||◌, List, length, ltb, eqb}
use Rattle.bus.specs.declared.Refusal.{Refusal}
use Rattle.bus.specs.declared.Refusal.TheVariants.{WrongSize, PastEnd, OutOfRange}

-- The number of each.
abbrev pub number : Refusal → ℕ
number WrongSize = 1
number PastEnd = 2
number OutOfRange = 3

-- 1: memory not 4,096 words.
abbrev pub wrong_memory : List ℕ → Bool
wrong_memory memory = not (eqb (length memory) 4096)

-- 2: input place past its end, or log count past its length.
abbrev pub past_end : List ℕ → ℕ → List ℕ → ℕ → Bool
past_end input place log count = ltb (length input) place || ltb (length log) count

-- 3: CP, PP or REM above 4,095.
abbrev pub outside : ℕ → Bool
outside address = ltb 4095 address
