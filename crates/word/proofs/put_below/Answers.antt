-- `put_below` joins by `|` what is moved up and the field below, which share no bit.
use Rattle.std.proofs.Common.{le_of_lt, zero-add}
use Rattle.word.proofs.Laws.{moved_out}
use Rattle.word.proofs.Laws.{kept_wide, or_placed}
use Rattle.word.proofs.put_below.Goals as goal

pub returns-then-width-ge32 : goal.returns-then-width-ge32
returns-then-width-ge32 c = rw (moved_out {w = 32} c.args.high c.if-width-ge32.true, zero-add, kept_wide c.if-width-ge32.true c.ranges.value.fits)

pub returns : goal.returns
returns c = rw c.low_bits.ensures (or_placed {w = 32} _ _ (le_of_lt c.if-width-ge32.false))
