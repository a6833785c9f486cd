-- `lay`: the records to come have no fault, and laid over memory they give the memory of all.
use Rattle.std.proofs.Common.{◌≡◌, ◌+◌, ℕ, List, ◌∷◌, replicate, sym, ap, ◌∙◌, length-set, arith}
use Rattle.image.specs.declared.Record.{Record}
use Rattle.image.specs.Records.{fault, first_fault, laid}
use Rattle.image.proofs.Records.{record_next, records_end, sound, passed, head_passes}
use Rattle.image.proofs.lay.Goals as goal

-- The record that is laid next, with those after it, has no fault.
next_faultless : (least : ℕ) {rs : List Record} {r : Record} {rest : List Record} → rs ≡ r ∷ rest → first_fault least rs ≡ 0 → fault least r ≡ 0
next_faultless least here h = head_passes least _ _ (ap (first_fault least) (sym here) ∙ h)

pub loop-four-init : goal.loop-four-init
loop-four-init c =
    let cleared = c.fill.ensures.after (λ y e. e) ∙ ap (λ (n : ℕ). replicate n 0) c.requires.1 in
    record { least = 0; faultless = c.requires.0; words = omega (arith, c.fill.ensures.len); rest = ap (laid _) cleared }

pub bounds-memory-from : goal.bounds-memory-from
bounds-memory-from c =
    let here = c.loop-four in
    let next = record_next _ here.four-index c.loop-four-test.true c.from-next.ensures in
    let low = sound here.invariant.least _ (next_faultless here.invariant.least next here.invariant.faultless) in
    omega (arith, low.low)

pub loop-four-preserved : goal.loop-four-preserved
unfolding laid
loop-four-preserved c =
    let here = c.loop-four in
    let next = record_next _ here.four-index c.loop-four-test.true c.from-next.ensures in
    record {
      least = c.from-next.result.address.0 + 1;
      faultless = sym (passed here.invariant.least _ _ (next_faultless here.invariant.least next here.invariant.faultless) (omega arith)) ∙ sym (ap (first_fault here.invariant.least) next) ∙ here.invariant.faultless;
      words = simp length-set here.invariant.words;
      rest = rw c.from.ensures (ap (λ (rs : List Record). laid rs here.memory) (sym next) ∙ here.invariant.rest);
    }

pub returns : goal.returns
unfolding laid
returns c = rw (records_end c.args.records.now c.loop-four.four-index (omega arith)) at c.loop-four.invariant.rest
