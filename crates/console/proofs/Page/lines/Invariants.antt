-- `lines`: the lines of the words so far have been put.
use Rattle.std.proofs.Common.{◌*◌, take}
use Rattle.console.specs.Text.{lines}
use Rattle.console.specs.Code.Page.{Puts}
use Rattle.console.proofs.Page.lines.Given as goal

abbrev pub invariant-loop-word : goal.invariant-loop-word
invariant-loop-word l = Puts l.initial.self (lines (take l.word-index l.words)) (22 * l.word-index) l.self
