-- `bytes` lays the text, which is stored where it fits.
use Rattle.std.proofs.Common.{refl, arith}
use Rattle.text.proofs.Laid.{wrote}
use Rattle.console.proofs.Page.bytes.Goals as goal

pub returns : goal.returns
returns c = record { short = omega arith; wrote = λ fits. wrote fits c.put-self.ensures; same = refl }
