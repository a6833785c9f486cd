-- `put_lines` puts one line more behind the lines so far: the line that stands in the buffer, and the whole fits.
use mathlib.Core.Path.{sym, ap}
use Prim.Native.Nat.{◌+◌}
use native.Mathlib.Omega.{arith}
use lib.ListN.{length, length-append}
use lib.Seq.{length-take-le}
use Rattle.text.proofs.Laid.{wrote, at_start, same_text, nothing, ◌then◌}
use Rattle.microline.proofs.Laws.{line_le, wrote_line}
use Rattle.microtext.specs.Listing.{lines}
use Rattle.lister.proofs.Laws.{lines_more, lines_le}
use Rattle.lister.proofs.put_lines.Goals as goal

pub loop-i-init : goal.loop-i-init
unfolding lines
loop-i-init c = nothing

pub slice_bounds-buffer-end : goal.slice_bounds-buffer-end
slice_bounds-buffer-end c =
    omega (arith, (wrote_line c.loop-i.i _ (omega arith) (omega arith) c.put_line-n.ensures).behind, line_le c.loop-i.i)

pub slice_bounds-put-end : goal.slice_bounds-put-end
slice_bounds-put-end c =
    sym (length-take-le _ _ (omega (arith, (wrote_line c.loop-i.i _ (omega arith) (omega arith) c.put_line-n.ensures).behind, line_le c.loop-i.i)))

pub loop-i-preserved : goal.loop-i-preserved
loop-i-preserved c =
    let words = c.args.words.now in
    let i = c.loop-i.i in
    let more = lines_more words i (omega arith) in
    let line = at_start (wrote_line i _ (omega arith) (omega arith) c.put_line-n.ensures) (omega (arith, line_le i)) in
    let room = simp length-append at (ap length more) in
    let put = wrote (omega (arith, ap length line, room, lines_le words (i + 1), c.loop-i.invariant.behind)) c.put-at.ensures in
    same_text (sym more) (c.loop-i.invariant then same_text line put)
