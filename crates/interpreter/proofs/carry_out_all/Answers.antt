-- `carry_out_all`: the run comes to the same after each stage below the ports, and after the instruction through them that follows it.
use mathlib.Core.Path.{◌∙◌}
use Prim.Native.Nat.{◌≤◌, ◌<◌}
use native.Mathlib.Omega.{arith}
use Rattle.interpreter.proofs.BelowPorts.{paid_through, goes_through, stops}
use Rattle.interpreter.proofs.carry_out_all.Goals as goal

pub returns-in-Err : goal.returns-in-Err
returns-in-Err c =
    let more : c.pass_below-stage.result.done < c.args.n = omega arith in
    rw c.ended-in-Err.ensures (c.loop-stage.invariant.same ∙ c.pass_below-stage.ensures.same _ _ _ ∙ stops _ _ _ _ _ _ more _ _ _ c.in-Err.ensures)

pub overflow_add-stage-in-loop-stage : goal.overflow_add-stage-in-loop-stage
overflow_add-stage-in-loop-stage c = let least : c.in-Ok.acted.cycles ≤ 11 = paid_through _ _ _ _ _ _ _ c.in-Ok.ensures in omega arith

pub loop-stage-preserved : goal.loop-stage-preserved
loop-stage-preserved c =
    let least : c.in-Ok.acted.cycles ≤ 11 = paid_through _ _ _ _ _ _ _ c.in-Ok.ensures in
    let more : c.pass_below-stage.result.done < c.args.n = omega arith in
    record {
      within = omega arith;
      spent = omega arith;
      same = c.loop-stage.invariant.same ∙ c.pass_below-stage.ensures.same _ _ _ ∙ goes_through _ _ _ _ _ _ more _ _ _ c.in-Ok.ensures;
    }
