-- `counts` puts the three fields in turn.
use Rattle.console.specs.Text.{counts}
use Rattle.console.proofs.Pages.{◌and◌}
use Rattle.console.proofs.Page.counts.Goals as goal

pub returns : goal.returns
unfolding counts
returns c = c.labelled.ensures and c.labelled-2.ensures and c.labelled-3.ensures
