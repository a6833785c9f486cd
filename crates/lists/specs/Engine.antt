-- The engine's machine as lists of numbers, and what a run leaves in them (01, Registers and microwords; Answer numbers).
use Rattle.std.specs.Prelude.{ℕ, Result, Ok, Err, Bool, cond, ◌&&◌, List, [], ◌∷◌, get_or, ltb, eqb}
use Rattle.datapath.specs.Halves.{half_number}
use Rattle.datapath.specs.declared.Half.{Half}
use Rattle.datapath.specs.declared.Half.TheVariants.{Nothing, Read, Write}
use Rattle.bus.specs.Stops.{number_of}
use Rattle.engine.specs.declared.Machine.{Machine}
use Rattle.engine.specs.declared.Ran.{Ran}
use Rattle.engine.specs.declared.Refusal.{Refusal}
use Rattle.panel.specs.declared.Pressed.{Pressed}
use Rattle.engine.specs.Run.{Ended}
use Rattle.lists.specs.Called.{Called}

-- Half done by its number: 0 nothing, 1 a read, else a write.
unfoldable pub half_of : ℕ → Half
half_of number = cond (eqb number 0) Nothing (cond (eqb number 1) Read Write)

-- A half done above 2 and a line above 63 are none of the machine's: they go as line 64, which the engine refuses by 3, in its order.
unfoldable pub line_of : ℕ → ℕ → ℕ
line_of line half = cond (ltb 2 half) 64 (cond (ltb line 64) line 64)

-- `state` is the input place, the log count, the control line and half done.
abbrev pub state_list : ℕ → ℕ → ℕ → Half → List ℕ
state_list place count line half = place ∷ count ∷ line ∷ half_number half ∷ []

-- The machine that a caller's registers and state stand for.
unfoldable pub machine_of : List ℕ → List ℕ → Machine
machine_of registers state =
    record {
      line = record { 0 = line_of (get_or state 2 0) (get_or state 3 0) };
      registers = registers;
      half = half_of (get_or state 3 0);
      place = get_or state 0 0;
      count = get_or state 1 0;
    }

-- Answers 1 to 4 refuse a call before its first cycle, and leave registers and state as found.
unfoldable pub refuses : ℕ → Bool
refuses number = ltb 0 number && ltb number 5

-- What a run's end is to the caller: told are the cycles carried out and the line that answer 4 names.
unfoldable pub leaves : Ended → List ℕ → List ℕ → Called
leaves e registers state =
    record {
      answer = e.said.number;
      registers = cond (refuses e.said.number) registers e.state.registers;
      state = cond (refuses e.said.number) state (state_list e.state.place e.state.count e.state.line e.state.half);
      memory = e.state.memory;
      log = e.state.log;
      told = e.done ∷ e.said.line ∷ [];
    }

-- A press as the run of 1 that it is: it carried out its cycle where nothing stopped it.
abbrev pub counted : Result Pressed Refusal → Result Ran Refusal
counted (Ok pressed) = Ok (record { machine = pressed.machine; done = cond (eqb (number_of pressed.stop) 0) 1 0; stop = pressed.stop })
counted (Err refusal) = Err refusal
