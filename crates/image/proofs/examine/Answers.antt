-- `examine`: the record that was read last and those to come have by themselves the fault that all have.
use Rattle.std.proofs.Common.{◌≡◌, Bool, List, ◌∷◌, ℕ, ◌/◌, ◌%◌, sym, ap, ap₂, ◌∙◌, arith}
use Rattle.std.proofs.lemmas.Result.{err_from_is_err_and}
use Rattle.image.specs.declared.Record.{Record}
use Rattle.image.specs.Records.{fault, first_fault}
use Rattle.image.proofs.Records.{record_next, records_end, stopped}
use Rattle.image.proofs.Following.{following, one_judged, followed, not_followed}
use Rattle.image.proofs.Refusals.{no_zero}
use Rattle.image.proofs.examine.Goals as goal

-- The record that a number is.
abbrev numbered : ℕ → Record
numbered n = record { address = record { 0 = n / 65536 }; value = n % 65536 }

asked : {r s : Record} (last next : ℕ) {before answer : Bool} → r ≡ numbered last → s ≡ numbered next → before ≡ following r s → before ≡ answer
    → following (numbered last) (numbered next) ≡ answer
asked last next l n b a = ap₂ following (sym l) (sym n) ∙ sym b ∙ a

pub returns-in_default : goal.returns-in_default
unfolding first_fault
returns-in_default c = rw (records_end c.args.records.now 0 (omega (arith, c.in_default.ensures.cases)))

pub returns-in_err-judge : goal.returns-in_err-judge
returns-in_err-judge c =
    let here = c.loop-four in
    let out = err_from_is_err_and c.from_residual.result c.from_residual.ensures.1 in
    let judged = c.in_err-judge.ensures ∙ ap (fault 0) c.of-then-not-goes_before.ensures in
    rw (out.1, out.2) (sym (stopped 0 (numbered here.last) _ judged (no_zero _)) ∙ here.invariant)

pub returns-then-not-goes_before : goal.returns-then-not-goes_before
returns-then-not-goes_before c =
    let here = c.loop-four in
    let next = record_next _ here.four-index c.loop-four-test.true c.number_of-next.ensures in
    let not_before = asked here.last c.number_of-next.result c.of.ensures c.of-in-loop-four.ensures c.goes_before.ensures c.if-not-goes_before.true in
    let judged = sym (c.in_ok-judge.ensures ∙ ap (fault 0) c.of-then-not-goes_before.ensures) in
    sym (not_followed (numbered here.last) (numbered c.number_of-next.result) _ not_before judged)
    ∙ sym (ap (λ (rs : List Record). first_fault 0 (numbered here.last ∷ rs)) next)
    ∙ here.invariant

pub loop-four-preserved : goal.loop-four-preserved
loop-four-preserved c =
    let here = c.loop-four in
    let next = record_next _ here.four-index c.loop-four-test.true c.number_of-next.ensures in
    let before = asked here.last c.number_of-next.result c.of.ensures c.of-in-loop-four.ensures c.goes_before.ensures c.if-not-goes_before.false in
    followed (numbered here.last) (numbered c.number_of-next.result) _ before
    ∙ sym (ap (λ (rs : List Record). first_fault 0 (numbered here.last ∷ rs)) next)
    ∙ here.invariant

pub returns : goal.returns
returns c =
    let here = c.loop-four in
    c.judge-2.ensures ∙ ap (fault 0) c.of-2.ensures ∙ sym (one_judged (numbered here.last)) ∙ rw (records_end c.in-Some.rest.now here.four-index (omega arith)) at here.invariant
