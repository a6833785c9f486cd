-- `low_bits` keeps the low bits by the mask 2 ^ width - 1; at 32 bits and more it keeps all.
use lib.Bits.{and_mask}
use Rattle.std.proofs.Common.{sym}
use Rattle.word.proofs.Laws.{kept_wide, one_up}
use Rattle.word.proofs.low_bits.Goals as goal

pub returns-then-width-ge32 : goal.returns-then-width-ge32
returns-then-width-ge32 c = sym (kept_wide c.if-width-ge32.true c.ranges.number.fits)

pub returns : goal.returns
returns c = rw (one_up {w = 32} c.if-width-ge32.false) (and_mask _ _)
