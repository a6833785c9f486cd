-- `run` goes on as long as the bytes are of the kind.
use mathlib.Core.Path.{refl, sym, ◌∙◌}
use native.Mathlib.Nat.{zero-add}
use native.Mathlib.Omega.{arith}
use Rattle.token.proofs.Runs.{run_more, run_stops, run_over}
use Rattle.token.proofs.run.Goals as goal

pub loop-n-init : goal.loop-n-init
loop-n-init g c = λ kind tells. record { long = sym (zero-add _); read = refl }

pub loop-n-preserved : goal.loop-n-preserved
loop-n-preserved g c = λ kind tells. rw c.grown-token.ensures (run_more kind _ _ _ (c.loop-n.invariant kind tells) c.loop-n-test.true (sym (tells _ _ c.belongs.ensures) ∙ c.if-not-belongs.false))

pub returns-then-not-belongs : goal.returns-then-not-belongs
returns-then-not-belongs g c = λ kind tells. run_stops kind _ _ _ (c.loop-n.invariant kind tells) c.loop-n-test.true (sym (tells _ _ c.belongs.ensures) ∙ c.if-not-belongs.true)

pub returns : goal.returns
returns g c = λ kind tells. run_over kind _ _ _ (c.loop-n.invariant kind tells) (omega arith)
