-- `start` stops at the first byte that is no space: behind each one before it the same token begins and is scanned.
use mathlib.Core.Path.{◌≡◌}
use Rattle.token.specs.Code.Next.{start_at, scanned}
use Rattle.token.proofs.start.Given as goal

abbrev pub invariant-loop-i : goal.invariant-loop-i
invariant-loop-i l = (start_at l.text l.i ≡ start_at l.text l.at) × (scanned l.text l.i ≡ scanned l.text l.at)
