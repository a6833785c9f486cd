-- `put_pieces` puts one piece more behind the pieces so far.
use Prim.Native.Nat.{◌+◌}
use mathlib.Core.List.{[]}
use mathlib.Core.Path.{sym, ap}
use native.Mathlib.Omega.{arith}
use lib.ListN.{length, length-append}
use Rattle.text.proofs.Laid.{wrote, same_text, ◌then◌}
use Rattle.microline.proofs.Laws.{spelt_more, spelt_le}
use Rattle.microline.proofs.put_pieces.Goals as goal

pub loop-piece-preserved : goal.loop-piece-preserved
loop-piece-preserved c =
    let pieces = c.args.pieces.now in
    let i = c.loop-piece.piece-index in
    let more = spelt_more pieces i (record { ref_ptr = (0, 0); now = [] }) (omega arith) in
    let long = simp length-append at (ap length more) in
    let put = wrote (omega (arith, long, spelt_le pieces (i + 1), c.loop-piece.invariant.behind)) c.put-at.ensures in
    same_text (sym more) (c.loop-piece.invariant then put)
