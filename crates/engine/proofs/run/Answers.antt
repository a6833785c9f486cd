-- `run`: where the check refuses nothing the cycles run; what it refuses is handed on with everything as found.
use Rattle.std.proofs.lemmas.Result.{err_from_is_err_and}
use Rattle.std.proofs.Common.{rules}
use Rattle.engine.proofs.Laws.{lets_run, refuses}
use Rattle.engine.proofs.run.Goals as goal

pub returns-in_err-check : goal.returns-in_err-check
returns-in_err-check c =
    let p = err_from_is_err_and c.from_residual.result c.from_residual.ensures.1 in
    rw (p.1, p.2) (refuses _ _ _ _ _ (rw c.in_err-check.was at c.check.ensures))

pub returns : goal.returns
returns c = lets_run _ _ _ _ (rw c.in_ok-check.was at c.check.ensures) (search rules)
