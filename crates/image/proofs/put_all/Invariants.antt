-- `put_all`: the records of the words from an address on, laid where the last one ended, give the whole image laid.
use Rattle.std.proofs.Common.{◌*◌, ◌≤◌, ℕ, List}
use Rattle.text.proofs.Laid.{Still}
use Rattle.image.proofs.Putting.{after}
use Rattle.image.proofs.put_all.Given as goal

pub record Putting (words room₀ room : List ℕ) (at address : ℕ) : Type 0 where
  pub fits : at ≤ 4 * address
  pub still : Still room₀ 0 (after words 0) room at (after words address)

abbrev pub invariant-loop-address : goal.invariant-loop-address
invariant-loop-address l = Putting l.words l.initial.room l.room l.at l.address
