-- `put_lines`: the lines so far stand at the room's start.
use lib.ListN.{take}
use Rattle.text.specs.Laid.{Wrote}
use Rattle.microtext.specs.Listing.{lines}
use Rattle.lister.proofs.put_lines.Given as goal

abbrev pub invariant-loop-i : goal.invariant-loop-i
invariant-loop-i l = Wrote l.initial.room 0 (lines 0 (take l.i l.words)) l.room l.at
