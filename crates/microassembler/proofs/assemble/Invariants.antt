-- `assemble` reads line after line: what is filled already and the lines to come make up the whole text.
use Prim.Native.Nat.{◌-◌, ◌≤◌}
use mathlib.Core.Path.{◌≡◌}
use lib.ListN.{length, drop}
use Rattle.text.specs.Text.{lines}
use Rattle.microassembler.specs.Assembled.{filled, zero_words}
use Rattle.microassembler.proofs.assemble.Given as goal

abbrev pub invariant-loop-at : goal.invariant-loop-at
invariant-loop-at l =
    (l.at ≤ length l.text) × (l.k ≤ 64) × (length l.made ≡ 64) × (filled l.k l.made (lines (drop l.at l.text)) ≡ filled 0 zero_words (lines l.text))

abbrev pub decreases-loop-at : goal.decreases-loop-at
decreases-loop-at l = length l.text - l.at
