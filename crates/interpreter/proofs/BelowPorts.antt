-- Laws below the ports: of a read and a write, and of a run's stages, how one begins, goes on by an instruction, and ends.
use Prim.Native.Nat.{ℕ, ◌+◌, ◌≤◌, ◌<◌}
use mathlib.Core.Path.{◌≡◌, refl}
use mathlib.Core.List.{List, []}
use native.Mathlib.Nat.{sub-zero}
use native.Mathlib.Omega.{arith}
use lib.ListN.{get_or, set}
use borrow.Author.Tests.{lt-ltb}
use Rattle.std.specs.Prelude.{Some, None, Ok, Err}
use Rattle.turns.proofs.Laws as T
use Rattle.turns.proofs.Laws.{plus_none}
use Rattle.bus.specs.declared.Stop.{Stop}
use Rattle.bus.proofs.Laws.{stops_by}
use Rattle.bus.specs.Ports.{read_at, write_at, goes, sent}
use Rattle.bus.specs.Stops.{goes_on}
use Rattle.instruction.specs.Instruction.{State, at, stores, state_in, state_of, instruct}
use Rattle.instruction.specs.Code.Handed.{act_by}
use Rattle.instruction.specs.declared.Core.{Core}
use Rattle.instruction.specs.declared.Cpu.{Cpu}
use Rattle.instruction.specs.declared.Acted.{Acted}
use Rattle.instruction.proofs.Laws.{paid}
use Rattle.interpreter.specs.Code.BelowPorts.{Done, rest}
use Rattle.interpreter.specs.Run.{instructions, ended_with}
use Rattle.interpreter.specs.declared.Passed.{Passed}
use Rattle.interpreter.specs.declared.Stage.{Stage}

-- Below the ports a read is memory's word, and a write changes memory alone.
pub reads_below : (input : List ℕ) (s : State) (address : ℕ) → address < 4092 → at input s address ≡ record { word = get_or s.memory address 0; place = s.place }
unfolding read_at
reads_below input s address h = rw (lt-ltb address 4092 h)

pub stores_below : (cycles : ℕ) (s : State) (cp pp place address word : ℕ) → address < 4092
    → stores cycles s cp pp place address word
    ≡ record {
      next = record { cp = cp; pp = pp; ac = s.ac; place = place; count = s.count; memory = set s.memory address word; log = s.log };
      stop = goes_on;
      cost = cycles;
    }
unfolding stores write_at goes sent
stores_below cycles s cp pp place address word h = rw (lt-ltb address 4092 h)

-- An instruction takes at most 11 cycles, below the ports and through them.
pub paid_below : (own : Core) (memory later : List ℕ) (p : Passed) → Done instruct own memory (Some p) later → p.cycles ≤ 11
paid_below own memory later p done = paid [] (state_in own 0 memory []) _ (done [] 0 [])

pub paid_through : (input memory log later after : List ℕ) (cpu : Cpu) (a : Acted) → instruct input (state_of cpu memory log) ≡ act_by cpu (Ok a) later after → a.cycles ≤ 11
paid_through input memory log later after cpu a e = paid input (state_of cpu memory log) _ e

module _ (n : ℕ) (input : List ℕ) (count : ℕ) (memory log : List ℕ) where
  pub begins : (core : Core) → instructions input n (state_in core count memory log) ≡ rest n (record { core = core; done = 0; cycles = 0 }) input count memory log
  begins core = rw (sub-zero, plus_none)

  -- A stage that is not the last.
  module _ (at : Stage) (more : at.done < n) where
    pub goes_below : (p : Passed) (later : List ℕ) → Done instruct at.core memory (Some p) later
        → rest n at input count memory log ≡ rest n (record { core = p.core; done = at.done + 1; cycles = at.cycles + p.cycles }) input count later log
    unfolding instructions
    goes_below p later done = T.goes_on (instruct input) (state_in at.core count memory log) at.cycles more (done input count log) refl

    pub goes_through : (a : Acted) (later after : List ℕ) → instruct input (state_in at.core count memory log) ≡ act_by (record { core = at.core; count = count }) (Ok a) later after
        → rest n at input count memory log ≡ rest n (record { core = a.cpu.core; done = at.done + 1; cycles = at.cycles + a.cycles }) input a.cpu.count later after
    unfolding instructions
    goes_through a later after e = T.goes_on (instruct input) (state_in at.core count memory log) at.cycles more e refl

    pub stops : (stop : Stop) (later after : List ℕ) → instruct input (state_in at.core count memory log) ≡ act_by (record { core = at.core; count = count }) (Err stop) later after
        → rest n at input count memory log ≡ ended_with (record { cpu = record { core = at.core; count = count }; done = at.done; cycles = at.cycles; stop = Some stop }) later after
    unfolding instructions
    stops stop later after e = T.stops (instruct input) (state_in at.core count memory log) at.cycles more e (stops_by stop)

  pub ends : (at : Stage) → at.done ≡ n
      → rest n at input count memory log ≡ ended_with (record { cpu = record { core = at.core; count = count }; done = at.done; cycles = at.cycles; stop = None }) memory log
  unfolding instructions
  ends at e = T.ends (instruct input) (state_in at.core count memory log) at.cycles (omega arith)

-- What the search goes by where a stage is begun, ends, or takes cycles.
pub ruleset stages = (paid_below, begins, ends)
