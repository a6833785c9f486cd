-- `pieces_len` adds the length of one piece more.
use Prim.Native.Nat.{◌+◌}
use mathlib.Core.List.{[]}
use mathlib.Core.Path.{ap}
use native.Mathlib.Omega.{arith}
use lib.ListN.{length, length-append}
use Rattle.microline.proofs.Laws.{spelt_more, spelt_le}
use Rattle.microline.proofs.pieces_len.Goals as goal

pub overflow_add-len : goal.overflow_add-len
overflow_add-len c =
    let pieces = c.args.pieces.now in
    let i = c.loop-piece.piece-index in
    let more = simp length-append at (ap length (spelt_more pieces i (record { ref_ptr = (0, 0); now = [] }) (omega arith))) in
    omega (arith, more, spelt_le pieces (i + 1), c.loop-piece.invariant)

pub loop-piece-preserved : goal.loop-piece-preserved
loop-piece-preserved c =
    let pieces = c.args.pieces.now in
    let i = c.loop-piece.piece-index in
    let more = simp length-append at (ap length (spelt_more pieces i (record { ref_ptr = (0, 0); now = [] }) (omega arith))) in
    omega (arith, more, c.loop-piece.invariant)
