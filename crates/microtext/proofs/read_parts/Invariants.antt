-- `read_parts` takes the tokens of a line one by one: the loop holds what `Reached` says.
use Rattle.microtext.proofs.Reached.{Reached, remaining}
use Rattle.microtext.proofs.read_parts.Given as goal

abbrev pub invariant-loop-next : goal.invariant-loop-next
invariant-loop-next l = Reached l.text l.at l.parts l.next

abbrev pub decreases-loop-next : goal.decreases-loop-next
decreases-loop-next l = remaining l.text l.next
