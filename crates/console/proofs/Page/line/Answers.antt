-- `line` puts the pieces of the line in turn.
use Rattle.console.specs.Text.{line}
use Rattle.console.proofs.Pages.{◌and◌}
use Rattle.console.proofs.Page.line.Goals as goal

pub returns : goal.returns
unfolding line
returns c = c.counts.ensures and c.registers.ensures and c.labelled.ensures and c.bytes.ensures
