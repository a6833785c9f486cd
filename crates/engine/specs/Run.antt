-- A run of cycles: the refusals before it, the cycles in turn, and what it answers (01, Instructions; Answer numbers).
use Rattle.std.specs.Prelude.{ℕ, ◌-◌, ◌^◌, Option, Some, None, Result, Ok, Err, Bool, cond, ◌||◌, List, ltb}
use Rattle.turns.specs.Turns.{Turn, Turned, turns, checked, told}
use Rattle.word.specs.declared.Line.{Line}
use Rattle.bus.specs.Stops.{number_of}
use Rattle.bus.specs.Refusals as lent
use Rattle.bus.specs.Refusals.{wrong_memory, past_end, outside}
use Rattle.bus.specs.Log.{Sent}
use Rattle.store.specs.Store.{wrong_store, control_word, first_bad}
use Rattle.cycle.specs.Cycle.{State, register, cycle_of, written_by}
use Rattle.engine.specs.declared.Refusal.{Refusal}
use Rattle.engine.specs.declared.Refusal.TheVariants.{Lent, BadWord}
use Rattle.engine.specs.declared.Machine.{Machine}
use Rattle.engine.specs.declared.Ran.{Ran}

-- An answer number, and for 4 the first bad line (else 0).
pub record Said : Type 0 where
  pub number : ℕ
  pub line : ℕ

abbrev pub says : ℕ → Said
says number = record { number = number; line = 0 }

-- The number of each refusal of the code, and the line that it names.
abbrev pub number : Refusal → ℕ
number (Lent refusal) = lent.number refusal
number (BadWord line) = 4

abbrev pub named_line : Refusal → Option Line
named_line (Lent refusal) = None
named_line (BadWord line) = Some line

abbrev pub named : Refusal → ℕ
named (Lent refusal) = 0
named (BadWord line) = line.0

-- What is said of a call that is done or refused.
abbrev pub saying : {A : Type 0} → Result A Refusal → Said
saying (Ok done) = says 0
saying (Err refusal) = record { number = number refusal; line = named refusal }

-- Order for a run: 1, 2, 3, 4, before any cycle; 0 lets it run. Lines have so many bits; whether the control store has the wrong size,
-- and its first bad line, are known.
unfoldable pub refusal_by : ℕ → Bool → ℕ → List ℕ → State → Said
refusal_by bits wrong bad input s =
    cond (wrong_memory s.memory || wrong) (says 1)
    (cond (past_end input s.place s.log s.count) (says 2)
    (cond (outside (register 0 s) || outside (register 2 s) || outside (register 6 s) || ltb (2 ^ bits - 1) s.line) (says 3)
    (cond (ltb bad (2 ^ bits)) (record { number = 4; line = bad })
    (says 0))))

unfoldable pub refusal : List ℕ → List ℕ → State → Said
unfolding refusal_by
refusal store input s = refusal_by 6 (wrong_store store) (first_bad store) input s

-- One cycle: that of the control word at the state's line.
abbrev pub cycle : List ℕ → List ℕ → State → Turn State
cycle store input s = cycle_of (control_word store s.line) input s

-- A run is that many single cycles in turn.
unfoldable pub cycles : List ℕ → List ℕ → ℕ → State → Turned State
cycles store input n s = turns (cycle store input) n s

-- The writes that a run completes, in order.
unfoldable pub writes : List ℕ → List ℕ → ℕ → State → List Sent
writes store input n s = told (cycle store input) (λ s. written_by (control_word store s.line) s) n s

-- What a run comes to: the state, how many cycles it carried out, and its answer.
pub record Ended : Type 0 where
  pub state : State
  pub done : ℕ
  pub said : Said

unfoldable pub ended : ℕ → Turned State → Ended
ended line t = record { state = t.state; done = t.done; said = record { number = t.stop; line = line } }

-- Counts with refusals 1 to 4 are 0, and all is left as found.
unfoldable pub runs : List ℕ → List ℕ → ℕ → State → Ended
runs store input n s = ended (refusal store input s).line (checked (refusal store input s).number (cycle store input) n s)

-- The machine record and the lent lists, as one state.
abbrev pub state_of : Machine → List ℕ → List ℕ → State
state_of m memory log =
    record {
      line = m.line.0;
      registers = m.registers;
      half = m.half;
      place = m.place;
      count = m.count;
      memory = memory;
      log = log;
    }

-- What the code's run hands back, with the lent lists: what it did, or its refusal of the machine that was lent.
abbrev pub ended_by : Machine → Result Ran Refusal → List ℕ → List ℕ → Ended
ended_by machine (Ok ran) memory log = record { state = state_of ran.machine memory log; done = ran.done; said = says (number_of ran.stop) }
ended_by machine (Err refusal) memory log =
    record { state = state_of machine memory log; done = 0; said = record { number = number refusal; line = named refusal } }
