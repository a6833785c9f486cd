-- `pass_below`: an instruction that is done takes the stage one on.
use mathlib.Core.Path.{◌∙◌}
use Prim.Native.Nat.{◌≤◌}
use native.Mathlib.Omega.{arith}
use Rattle.interpreter.proofs.BelowPorts.{paid_below, goes_below}
use Rattle.interpreter.proofs.pass_below.Goals as goal

pub loop-done-preserved : goal.loop-done-preserved
loop-done-preserved c =
    let least : c.in-Some.passed.cycles ≤ 11 = paid_below _ _ _ _ c.in-Some.ensures.done in
    record {
      spent = omega arith;
      same = λ input count log. c.loop-done.invariant.same input count log ∙ goes_below _ _ _ _ _ _ c.loop-done-test.true _ _ c.in-Some.ensures.done;
    }
