-- `lines_length` adds up the lengths of the lines.
use mathlib.Core.Path.{refl, ap}
use native.Mathlib.Omega.{arith}
use lib.ListN.{length, length-append}
use Rattle.microline.proofs.Laws.{line_le, length_of_line}
use Rattle.microtext.specs.Listing.{lines}
use Rattle.lister.proofs.Laws.{lines_more}
use Rattle.lister.proofs.lines_length.Goals as goal

pub loop-i-init : goal.loop-i-init
unfolding lines
loop-i-init c = record { few = omega arith; so_far = refl }

pub overflow_add-sum : goal.overflow_add-sum
overflow_add-sum c =
    let long = length_of_line c.loop-i.i _ (omega arith) c.line_len-sum.ensures in
    omega (arith, long, line_le c.loop-i.i)

pub loop-i-preserved : goal.loop-i-preserved
loop-i-preserved c =
    let long = length_of_line c.loop-i.i _ (omega arith) c.line_len-sum.ensures in
    let more = simp length-append at (ap length (lines_more c.args.words.now c.loop-i.i (omega arith))) in
    record { few = omega (arith, long, line_le c.loop-i.i); so_far = omega (arith, long, more) }
