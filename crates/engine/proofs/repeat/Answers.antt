-- `repeat`: the loop holds its invariant by the laws of a run: it begins, goes on, stops at a refused cycle and ends.
use Rattle.std.proofs.Common.{◌∙◌, refl}
use Rattle.bus.proofs.Laws.{stops_by, still}
use Rattle.engine.proofs.Laws.{begins, goes_on, stops, ends}
use Rattle.engine.proofs.repeat.Goals as goal

pub loop-done-init : goal.loop-done-init
loop-done-init c = record { stays = record { memory = refl; log = refl; input = refl }; same = begins _ _ _ _ }

pub loop-done-preserved : goal.loop-done-preserved
loop-done-preserved c =
    record {
      stays = still c.loop-done.invariant.stays c.step.ensures.stays;
      same = c.loop-done.invariant.same ∙ goes_on _ _ _ _ _ c.loop-done-test.true (rw (c.word_at-word.ensures, c.in-Ok.is, c.loop-done.invariant.stays.input) at c.step.ensures.steps) refl;
    }

pub returns-in-Err-clause-repeats : goal.returns-in-Err-clause-repeats
returns-in-Err-clause-repeats c =
    rw c.machine_of.ensures (c.loop-done.invariant.same ∙ stops _ _ _ _ _ c.loop-done-test.true (rw (c.word_at-word.ensures, c.in-Err.is, c.loop-done.invariant.stays.input) at c.step.ensures.steps) (stops_by c.in-Err.stop))

pub returns-clause-repeats : goal.returns-clause-repeats
returns-clause-repeats c = rw c.machine_of-2.ensures (c.loop-done.invariant.same ∙ ends _ _ _ _ _ c.loop-done-test.false c.loop-done.auto.done-end)
