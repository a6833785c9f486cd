-- The interpreter's registers as lists of numbers, and what a run leaves in them (01, Instructions; Answer numbers).
use Rattle.std.specs.Prelude.{ℕ, List, [], ◌∷◌, get_or}
use Rattle.instruction.specs.declared.Cpu.{Cpu}
use Rattle.turns.specs.Turns.{Turned}
use Rattle.instruction.specs.Instruction.{State}
use Rattle.lists.specs.Called.{Called}

-- `registers` is CP, AC and PP, `state` the input place and the log count.
abbrev pub cpu_of : List ℕ → List ℕ → Cpu
cpu_of registers state =
    record {
      core =
          record {
            cp = record { 0 = get_or registers 0 0 };
            ac = get_or registers 1 0;
            pp = record { 0 = get_or registers 2 0 };
            place = get_or state 0 0;
          };
      count = get_or state 1 0;
    }

-- What a run's end is to the caller: told are the instructions carried out and the sum of their cycles.
abbrev pub leaves : Turned State → Called
leaves e =
    record {
      answer = e.stop;
      registers = e.state.cp ∷ e.state.ac ∷ e.state.pp ∷ [];
      state = e.state.place ∷ e.state.count ∷ [];
      memory = e.state.memory;
      log = e.state.log;
      told = e.done ∷ e.cost ∷ [];
    }
