-- `carry_out` puts the word that is told into the log.
use Rattle.instruction.proofs.Apart.{puts, has_room, leaves_log}
use Rattle.instruction.proofs.carry_out.Goals as goal
use Rattle.instruction.proofs.carry_out.Goals.{in-Some+in_ok-count-in-Some, in-None}

pub returns-in_err-count-in-Some : goal.returns-in_err-count-in-Some
returns-in_err-count-in-Some c = absurd (has_room _ _ _ _ _ _ _ c.in_ok-told.ensures _ _ _ _ c.in-Some.is c.in_err-count-in-Some.ensures)

pub returns : goal.returns
returns c =
    elim c.match-told.branch [
      | in-Some+in_ok-count-in-Some w ↦ rw (w.count-is, w.log-is) (puts _ _ _ _ _ _ _ c.in_ok-told.ensures _ _ _ w.in-Some.is w.in_ok-count-in-Some.ensures)
      | in-None w ↦ rw (w.count-is, w.log-is) (leaves_log _ _ _ _ _ _ _ c.in_ok-told.ensures w.in-None.is)
    ]
