-- `pieces` takes the operation's and the jump's pieces apart, and they spell what they spelt.
use native.Mathlib.Omega.{arith}
use mathlib.Core.List.{append_assoc}
use Rattle.microline.proofs.Laws.{two_spelt, seven_spelt}
use Rattle.microline.proofs.pieces.Goals as goal

pub returns : goal.returns
returns c =
    rw (seven_spelt c.operation.result _ (omega arith), two_spelt c.jump.result _ (omega arith), c.operation.ensures, c.transfer-moved.ensures, c.jump.ensures)
    (simp append_assoc)
