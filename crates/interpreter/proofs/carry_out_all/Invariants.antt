-- `carry_out_all` by a loop invariant: from here on the run comes to what the whole run comes to.
use mathlib.Core.Path.{◌≡◌}
use Prim.Native.Nat.{◌-◌, ◌*◌, ◌≤◌}
use Rattle.interpreter.specs.Run.{instructions}
use Rattle.instruction.specs.Instruction.{state_of}
use Rattle.interpreter.specs.Code.BelowPorts.{rest}
use Rattle.interpreter.proofs.carry_out_all.Given as goal

abbrev pub invariant-loop-stage : goal.invariant-loop-stage
invariant-loop-stage l =
    record {
      within : l.stage.done ≤ l.n;
      spent : l.stage.cycles ≤ 11 * l.stage.done;
      same : instructions l.input l.n (state_of l.fn.cpu l.initial.memory l.initial.log) ≡ rest l.n l.stage l.input l.count l.memory l.log;
    }

abbrev pub decreases-loop-stage : goal.decreases-loop-stage
decreases-loop-stage l = l.n - l.stage.done
