-- The engine and the interpreter called from C: a run from what the caller's lists stand for (01, What the promises say: every number
-- returned and every lent word afterwards).
use Rattle.std.specs.Prelude.{ℕ, List}
use Rattle.engine.specs.Run.{runs, state_of}
use Rattle.instruction.specs.Instruction.{state_of as interpreter_state_of}
use Rattle.interpreter.specs.Run.{runs as interpreter_runs}
use Rattle.lists.specs.Called.{Called}
use Rattle.lists.specs.Engine.{machine_of, leaves}
use Rattle.lists.specs.Interpreter.{cpu_of, leaves as interpreter_leaves}

-- A run of n cycles.
unfoldable pub engine_called : List ℕ → List ℕ → ℕ → List ℕ → List ℕ → List ℕ → List ℕ → Called
engine_called store input n registers state memory log = leaves (runs store input n (state_of (machine_of registers state) memory log)) registers state

-- A run of n instructions.
unfoldable pub interpreter_called : List ℕ → ℕ → List ℕ → List ℕ → List ℕ → List ℕ → Called
interpreter_called input n registers state memory log = interpreter_leaves (interpreter_runs input n (interpreter_state_of (cpu_of registers state) memory log))
