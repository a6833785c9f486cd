-- `say_failed`: what was laid of the name and the stream ends within the 64 bytes.
use Rattle.std.proofs.Common.{◌≤◌, length, sym, arith}
use lib.Seq.{length-take-le}
use Rattle.text.proofs.Laid.{laid_within}
use Rattle.console.proofs.Program.say_failed.Goals as goal

pub slice_bounds-what-end : goal.slice_bounds-what-end
slice_bounds-what-end c =
    let fits = laid_within _ 0 _ (omega arith) c.put-at.ensures in
    omega (arith, c.put-at.auto.room, c.put-end.auto.room, laid_within _ _ _ (omega (arith, c.put-at.auto.room, fits)) c.put-end.ensures)

pub slice_bounds-write_all-end : goal.slice_bounds-write_all-end
slice_bounds-write_all-end c =
    let fits = laid_within _ 0 _ (omega arith) c.put-at.ensures in
    let ends : c.put-end.result ≤ length c.put-end.new.room =
    omega (arith, c.put-at.auto.room, c.put-end.auto.room, laid_within _ _ _ (omega (arith, c.put-at.auto.room, fits)) c.put-end.ensures) in
    sym (length-take-le _ _ ends)
