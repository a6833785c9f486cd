-- `run`: the bytes so far are of the kind, and the token is theirs.
use Prim.Native.Nat.{ℕ}
use mathlib.Core.Path.{◌≡◌}
use mathlib.Core.Bool.{Bool}
use Rattle.token.proofs.Runs.{SoFar}
use Rattle.token.proofs.run.Given as goal

abbrev pub invariant-loop-n : goal.invariant-loop-n
invariant-loop-n g l = (kind : ℕ → Bool) → ((c : ℕ) (b : Bool) → g.F.Fn.post l.belongs (c, tt) b → b ≡ kind c) → SoFar kind l.rest l.n l.token.0
