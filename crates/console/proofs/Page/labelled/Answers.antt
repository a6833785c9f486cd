-- `labelled` puts the label, then the number behind it.
use Rattle.console.proofs.Pages.{◌and◌}
use Rattle.console.proofs.Page.labelled.Goals as goal

pub returns : goal.returns
returns c = c.bytes.ensures and c.decimal.ensures
