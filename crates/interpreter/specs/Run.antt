-- A run of instructions: the refusals before it, the instructions in turn, and what it answers (01, Instructions; Answer numbers).
use Rattle.std.specs.Prelude.{ℕ, cond, ◌||◌, List, Result, Ok, Err}
use Rattle.turns.specs.Turns.{Turned, turns, checked, told}
use Rattle.bus.specs.Stops.{number_of}
use Rattle.bus.specs.Refusals.{number, wrong_memory, past_end, outside}
use Rattle.bus.specs.declared.Refusal.{Refusal}
use Rattle.bus.specs.Log.{Sent}
use Rattle.instruction.specs.Instruction.{State, instruct, state_of}
use Rattle.instruction.specs.Writes.{completed}
use Rattle.instruction.specs.declared.Cpu.{Cpu}
use Rattle.interpreter.specs.declared.Ran.{Ran}

-- The interpreter checks 1 to 3 without control store, REM and CMP; 0 lets it run.
unfoldable pub refusal : List ℕ → State → ℕ
refusal input s =
    cond (wrong_memory s.memory) 1
    (cond (past_end input s.place s.log s.count) 2
    (cond (outside s.cp || outside s.pp) 3
    0))

-- A run is that many single instructions in turn.
unfoldable pub instructions : List ℕ → ℕ → State → Turned State
instructions input n s = turns (instruct input) n s

-- The writes that a run completes, in order, up to the first refused instruction.
unfoldable pub writes : List ℕ → ℕ → State → List Sent
writes input n s = told (instruct input) (completed input) n s

-- Counts with refusals 1 to 3 are 0, and all is left as found. Beside the instructions done a run reports the sum of the table's cycles.
unfoldable pub runs : List ℕ → ℕ → State → Turned State
runs input n s = checked (refusal input s) (instruct input) n s

-- What the code's instructions hand back, with the lent lists.
abbrev pub ended_with : Ran → List ℕ → List ℕ → Turned State
ended_with r memory log = record { state = state_of r.cpu memory log; done = r.done; cost = r.cycles; stop = number_of r.stop }

-- And the code's run. A refused one hands back nothing, and the registers stay as they were.
abbrev pub ended_by : Cpu → Result Ran Refusal → List ℕ → List ℕ → Turned State
ended_by cpu (Ok r) memory log = ended_with r memory log
ended_by cpu (Err refused) memory log = record { state = state_of cpu memory log; done = 0; cost = 0; stop = number refused }
