-- `put` lays byte after byte where the text fits: what is left to lay, laid from where the loop stands, gives the whole.
use Prim.Native.Nat.{◌+◌, ◌≤◌}
use mathlib.Core.Path.{◌≡◌}
use lib.ListN.{length, drop}
use lib.Seq.{sets}
use Rattle.text.proofs.put.Given as goal

abbrev pub invariant-loop-i : goal.invariant-loop-i
invariant-loop-i l =
    (l.at + length l.text ≤ length l.initial.room) × (length l.room ≡ length l.initial.room) × (sets l.room (l.at + l.i) (drop l.i l.text) ≡ sets l.initial.room l.at l.text)
