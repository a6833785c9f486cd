-- `fill`: the words so far stand at their lines.
use mathlib.Core.Path.{◌≡◌}
use lib.ListN.{take}
use Rattle.list.specs.Listing.{words_of, with_words}
use Rattle.list.proofs.fill.Given as goal

abbrev pub invariant-loop-line : goal.invariant-loop-line
invariant-loop-line l = l.store ≡ with_words l.initial.store 0 (take l.line (words_of l.input))
