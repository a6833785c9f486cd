-- Mirrors the code: what it hands back of one instruction, with the lent lists, as the definition's record.
use Rattle.std.specs.Prelude.{List, ℕ, ◌+◌, ◌≡◌, Bool, true, length, set, ltb, Option, Some, None, Result, Ok, Err}
use Rattle.turns.specs.Turns.{Turn}
use Rattle.bus.specs.declared.Stop.{Stop}
use Rattle.bus.specs.Stops.{goes_on, number}
use Rattle.instruction.specs.Instruction.{State, state_of, state_in, instruct}
use Rattle.instruction.specs.Code.Effects.{act_of}
use Rattle.instruction.specs.declared.Core.{Core}
use Rattle.instruction.specs.declared.Cpu.{Cpu}
use Rattle.instruction.specs.declared.Effect.{Effect}
use Rattle.instruction.specs.declared.Told.{Told}
use Rattle.instruction.specs.declared.Acted.{Acted}

-- A refused instruction hands back nothing, and the registers stay as they were.
abbrev pub act_by : Cpu → Result Acted Stop → List ℕ → List ℕ → Turn State
act_by cpu (Ok a) memory log = record { next = state_of a.cpu memory log; stop = goes_on; cost = a.cycles }
act_by cpu (Err stop) memory log = record { next = state_of cpu memory log; stop = number stop; cost = 0 }

-- The state after a word for the log, if any, was told: put there, the count rises.
abbrev pub after : Option ℕ → Core → ℕ → List ℕ → List ℕ → State
after None cpu count memory log = state_in cpu count memory log
after (Some word) cpu count memory log = state_in cpu (count + 1) memory (set log count word)

-- Where it is refused the registers are these, for these cycles.
abbrev pub told_by : Core → ℕ → Result Told Stop → ℕ → List ℕ → List ℕ → Turn State
told_by cpu cycles (Ok t) count memory log = record { next = after t.sent t.cpu count memory log; stop = goes_on; cost = t.cycles }
told_by cpu cycles (Err stop) count memory log = record { next = state_in cpu count memory log; stop = number stop; cost = cycles }

abbrev pub sent_by : Result Told Stop → Option ℕ
sent_by (Ok t) = t.sent
sent_by (Err stop) = None

-- One instruction, whatever the log holds: only whether it has room is known. No word is told where it has none.
pub record Tells (input : List ℕ) (room : Bool) (cpu : Core) (memory : List ℕ) (r : Result Told Stop) (later : List ℕ) : Type 0 where
  pub same : (count : ℕ) (log : List ℕ) → ltb count (length log) ≡ room → instruct input (state_in cpu count memory log) ≡ told_by cpu 0 r count later log
  pub roomy : (word : ℕ) → sent_by r ≡ Some word → room ≡ true

-- The same of an action whose word is still to be written.
pub record Completes (room : Bool) (e : Effect) (memory : List ℕ) (r : Result Told Stop) (later : List ℕ) : Type 0 where
  pub same : (count : ℕ) (log : List ℕ) → ltb count (length log) ≡ room → act_of e count memory log ≡ told_by e.cpu e.cycles r count later log
  pub roomy : (word : ℕ) → sent_by r ≡ Some word → room ≡ true
