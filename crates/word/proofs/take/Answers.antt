-- `take` moves the field down and keeps its width; past bit 31 there is nothing.
use Rattle.std.proofs.Common.{◌^◌, ◌<◌, sym, arith, pow_mono}
use native.Mathlib.Nat.{div-eq_of_lt, zero-mod}
use Rattle.word.proofs.take.Goals as goal

pub returns-then-low-ge32 : goal.returns-then-low-ge32
returns-then-low-ge32 c = let h : c.args.number < 2 ^ c.args.low = omega (arith, pow_mono c.if-low-ge32.true) in
    rw (div-eq_of_lt h) (sym (zero-mod _))
