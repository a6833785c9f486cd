-- `pass_below` by a loop invariant: from here on the run comes to what it comes to from the stage that it was given.
use mathlib.Core.Path.{◌≡◌}
use mathlib.Core.List.{List}
use Prim.Native.Nat.{ℕ, ◌*◌, ◌≤◌}
use Rattle.interpreter.specs.Code.BelowPorts.{rest}
use Rattle.interpreter.proofs.pass_below.Given as goal

abbrev pub invariant-loop-done : goal.invariant-loop-done
invariant-loop-done l =
    record {
      spent : l.cycles ≤ 11 * l.done;
      same : (input : List ℕ) (count : ℕ) (log : List ℕ) → rest l.n l.fn.from input count l.initial.memory log ≡ rest l.n (record { core = l.core; done = l.done; cycles = l.cycles }) input count l.memory log;
    }
