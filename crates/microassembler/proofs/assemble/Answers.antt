-- `assemble` reads line after line: what is filled already and the lines to come make up the whole text.
use Prim.Native.Nat.{ℕ, ◌+◌, ◌<◌}
use mathlib.Core.Path.{◌≡◌, sym, ap, ◌∙◌}
use mathlib.Core.List.{List}
use lib.ListN.{length, drop}
use native.Mathlib.Omega.{arith}
use Rattle.std.specs.Prelude.{Ok, Err}
use Rattle.std.proofs.lemmas.Result.{err_from_is_err_and}
use Rattle.text.specs.Text.{lines}
use Rattle.microtext.specs.Reading.{reading_at}
use Rattle.microassembler.specs.Assembled.{filled}
use Rattle.microassembler.proofs.Filled.{word_line, filled_word, filled_fault, filled_done, by_lines, line_next}
use Rattle.microassembler.proofs.assemble.Goals as goal

pub returns-in_err-read : goal.returns-in_err-read
returns-in_err-read c =
    let l = c.loop-at in
    let t = c.args.text.now in
    let f = c.in_err-read.field-0.0 in
    let p = err_from_is_err_and c.from_residual.result c.from_residual.ensures.1 in
    rw (p.1, p.2)
    (by_lines t c.args.store.now (sym c.is_wrong.ensures ∙ c.if-is_wrong.false) (Err f) (omega arith)
    (sym l.invariant.3 ∙ filled_fault t l.at l.k l.made f c.loop-at-test.true (sym c.read_line.ensures ∙ c.in_err-read.was)))

pub loop-at-smaller : goal.loop-at-smaller
loop-at-smaller c =
    let l = c.loop-at in
    let t = c.args.text.now in
    let n = line_next t l.at l.k c.in_ok-read.read c.loop-at-test.true (sym c.read_line.ensures ∙ c.in_ok-read.was) in
    omega (arith, n.0, n.1)

pub loop-at-preserved : goal.loop-at-preserved
loop-at-preserved c =
    let l = c.loop-at in
    let p = c.put_word in
    let t = c.args.text.now in
    let r = c.in_ok-read.read in
    let h : l.at < length t = c.loop-at-test.true in
    let e : reading_at t l.at l.k ≡ Ok r = sym c.read_line.ensures ∙ c.in_ok-read.was in (
      (line_next t l.at l.k r h e).1,
      omega (arith, word_line t l.at l.k r e),
      p.auto.store ∙ l.invariant.2,
      ap (λ (ws : List ℕ). filled (l.k + 1) ws (lines (drop r.next t))) p.ensures ∙ filled_word t l.at l.k l.made r h e ∙ l.invariant.3,
    )

pub returns : goal.returns
returns c =
    let l = c.loop-at in
    let t = c.args.text.now in
    by_lines t c.args.store.now (sym c.is_wrong.ensures ∙ c.if-is_wrong.false) (Ok l.made) (omega arith)
    (sym l.invariant.3 ∙ filled_done t l.made l.k l.at c.loop-at-test.false)
    ∙ ap (λ (ws : List ℕ). record { answer = 0; store = ws }) (sym (rw (sym c.is_wrong.ensures ∙ c.if-is_wrong.false) at c.put_words.ensures))
