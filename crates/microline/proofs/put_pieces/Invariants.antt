-- `put_pieces`: the pieces so far stand at the room's start.
use lib.ListN.{take}
use Rattle.text.specs.Laid.{Wrote}
use Rattle.microline.specs.Code.Pieces.{spelt}
use Rattle.microline.proofs.put_pieces.Given as goal

abbrev pub invariant-loop-piece : goal.invariant-loop-piece
invariant-loop-piece l = Wrote l.initial.room 0 (spelt (take l.piece-index l.pieces)) l.room l.at
