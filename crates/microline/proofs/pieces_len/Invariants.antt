-- `pieces_len`: so long are the pieces so far.
use mathlib.Core.Path.{◌≡◌}
use lib.ListN.{length, take}
use Rattle.microline.specs.Code.Pieces.{spelt}
use Rattle.microline.proofs.pieces_len.Given as goal

abbrev pub invariant-loop-piece : goal.invariant-loop-piece
invariant-loop-piece l = l.len ≡ length (spelt (take l.piece-index l.pieces))
