-- `registers` puts the fields in turn.
use Rattle.console.specs.Text.{registers}
use Rattle.console.proofs.Pages.{◌and◌}
use Rattle.console.proofs.Page.registers.Goals as goal

pub returns : goal.returns
unfolding registers
returns c = c.labelled.ensures and c.labelled-2.ensures and c.bytes.ensures and c.signed.ensures
