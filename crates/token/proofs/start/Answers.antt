-- `start` stops at the first byte that is no space: behind each one before it the same token begins and is scanned.
use mathlib.Core.Path.{◌∙◌}
use native.Mathlib.Omega.{arith}
use Rattle.token.proofs.Scan.{one_space, space_passed}
use Rattle.token.proofs.start.Goals as goal

pub loop-i-preserved : goal.loop-i-preserved
loop-i-preserved c =
    let l = c.loop-i in
    let text = c.args.text.now in
    let h = c.loop-i-test.true in
    (space_passed text l.i h (omega arith) ∙ l.invariant.0, one_space text l.i h (omega arith) ∙ l.invariant.1)
