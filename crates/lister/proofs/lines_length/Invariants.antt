-- `lines_length`: the sum so far is the length of the lines so far.
use Prim.Native.Nat.{◌*◌, ◌≤◌}
use mathlib.Core.Path.{◌≡◌}
use lib.ListN.{length, take}
use Rattle.microtext.specs.Listing.{lines}
use Rattle.lister.proofs.lines_length.Given as goal

abbrev pub invariant-loop-i : goal.invariant-loop-i
invariant-loop-i l = record { few : l.sum ≤ 44 * l.i; so_far : l.sum ≡ length (lines 0 (take l.i l.words)) }
