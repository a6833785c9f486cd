-- `lines`: each turn puts a word and byte 10 behind the lines so far.
use Rattle.std.proofs.Common.{ap, take_all, arith}
use Rattle.console.specs.Text.{lines}
use Rattle.console.proofs.Laws.{lines_more}
use Rattle.console.proofs.Pages.{◌and◌, renamed, nothing_put}
use Rattle.console.proofs.Page.lines.Goals as goal

pub loop-word-init : goal.loop-word-init
unfolding lines
loop-word-init c = nothing_put

pub loop-word-preserved : goal.loop-word-preserved
loop-word-preserved c =
    renamed (lines_more c.args.words.now c.loop-word.word-index c.loop-word-test.true) (omega arith) (c.loop-word.invariant and (c.signed.ensures and c.bytes.ensures))

pub returns : goal.returns
returns c = renamed (ap lines (take_all c.loop-word.word-index c.args.words.now c.loop-word-test.false)) (omega arith) c.loop-word.invariant
