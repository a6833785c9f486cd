-- `operation` takes the formula's pieces apart, and they spell what they spelt.
use native.Mathlib.Omega.{arith}
use mathlib.Core.Path.{sym, ◌∙◌}
use Rattle.microline.proofs.Laws.{operation_spelt}
use Rattle.microline.proofs.operation.Goals as goal

pub returns : goal.returns
returns c =
    operation_spelt c.args.m _ c.formula.result (sym c.is_idle.ensures ∙ c.if-is_idle.false) c.destination.ensures (omega arith) c.formula.ensures
