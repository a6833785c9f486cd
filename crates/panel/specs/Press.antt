-- The operator's panel: one cycle a press, which equals the engine's run of 1 on the same values, refusals included (01, Instructions).
use Rattle.std.specs.Prelude.{List, ℕ, Option, Result, Ok, Err}
use Rattle.bus.specs.declared.Stop.{Stop}
use Rattle.bus.specs.Stops.{number_of}
use Rattle.cycle.specs.Cycle.{State}
use Rattle.engine.specs.Run.{Said, says, number, named, runs, state_of}
use Rattle.engine.specs.declared.Machine.{Machine}
use Rattle.engine.specs.declared.Refusal.{Refusal}
use Rattle.panel.specs.declared.Pressed.{Pressed}

-- What a press comes to.
pub record Press : Type 0 where
  pub state : State
  pub said : Said

unfoldable pub press : List ℕ → List ℕ → State → Press
press store input s = record { state = (runs store input 1 s).state; said = (runs store input 1 s).said }

-- What is said of a press that was carried out or stopped, or refused before it began.
abbrev pub saying : Result (Option Stop) Refusal → Said
saying (Ok stop) = says (number_of stop)
saying (Err refusal) = record { number = number refusal; line = named refusal }

-- What the code hands back of it, with the lent lists.
abbrev pub pressed_by : Result (Option Stop) Refusal → Machine → List ℕ → List ℕ → Press
pressed_by result machine memory log = record { state = state_of machine memory log; said = saying result }

-- The same where the machine goes in and out by value; refused it is the one that went in.
abbrev pub passed_by : Machine → Result Pressed Refusal → List ℕ → List ℕ → Press
passed_by machine (Ok pressed) memory log = pressed_by (Ok pressed.stop) pressed.machine memory log
passed_by machine (Err refusal) memory log = pressed_by (Err refusal) machine memory log
