-- `read_parts` takes the tokens of a line one by one: the loop holds what `Reached` says.
use mathlib.Core.Path.{refl, sym, ◌∙◌}
use Rattle.std.proofs.lemmas.Result.{err_from_is_err_and}
use Rattle.std.specs.Prelude.{Ok, Err}
use Rattle.microtext.proofs.Reached.{reached_start, reached_next, reached_fault, remaining_less, line_refused, line_read}
use Rattle.microtext.proofs.read_parts.Goals as goal

pub loop-next-init : goal.loop-next-init
loop-next-init c =
    let e = c.default-parts.ensures in
    let g = e.0 in
    let m = g.1.1.1 in
    rw (e.1, g.0, g.1.0, g.1.1.0, m.0, m.1.0, m.1.1.0, m.1.1.1.0, m.1.1.1.1.0, m.1.1.1.1.1.0, m.1.1.1.1.1.1.0, m.1.1.1.1.1.1.1.0, m.1.1.1.1.1.1.1.1) (reached_start c.args.text.now c.args.at c.next_token-next.result c.next_token-next.ensures)

pub loop-next-smaller : goal.loop-next-smaller
loop-next-smaller c =
    let l = c.loop-next in
    let n = c.next_token-next-in-Some in
    remaining_less c.args.text.now c.args.at l.parts l.next n.result c.in-Some.token l.invariant c.in-Some.is n.ensures

pub loop-next-preserved : goal.loop-next-preserved
loop-next-preserved c =
    let l = c.loop-next in
    let n = c.next_token-next-in-Some in
    reached_next c.args.text.now c.args.at l.parts l.next c.in-Some.token l.invariant c.in-Some.is c.in_ok-parts.parts n.result
    (sym c.in_ok-parts.was ∙ c.taken.ensures) n.ensures

pub returns-in_err-parts : goal.returns-in_err-parts
returns-in_err-parts c =
    let l = c.loop-next in
    let p = err_from_is_err_and c.from_residual.result c.from_residual.ensures.1 in
    rw (p.1, p.2)
    (line_refused c.args.text.now c.args.at _ _
    (reached_fault c.args.text.now c.args.at l.parts l.next c.in-Some.token l.invariant c.in-Some.is _ (sym c.in_err-parts.was ∙ c.taken.ensures)))

pub returns-in_err-word : goal.returns-in_err-word
returns-in_err-word c =
    let l = c.loop-next in
    let p = err_from_is_err_and c.from_residual-in_err-word.result c.from_residual-in_err-word.ensures.1 in
    rw (p.1, p.2)
    (line_read c.args.text.now c.args.at _ l.parts l.next (Err c.in_err-word.field-0.0) l.invariant c.in_default.is
    (sym c.in_err-word.was ∙ c.concluded.ensures) refl)

pub returns : goal.returns
returns c =
    let l = c.loop-next in
    line_read c.args.text.now c.args.at c.behind_line.result l.parts l.next (Ok c.in_ok-word.word) l.invariant c.in_default.is
    (sym c.in_ok-word.was ∙ c.concluded.ensures) c.behind_line.ensures
