-- `step`: after its beginning a cycle goes on by its transfer; without RD and WR nothing is transferred, and a refused cycle puts back
-- what stood in S.
use Rattle.std.proofs.Common.{◌≡◌, cond, eqb, set, eq-eqb, ne_eqb}
use Rattle.cycle.proofs.Laws.{began_within, rests, carried, refused}
use Rattle.cycle.proofs.step.Goals as goal
use Rattle.cycle.proofs.step.Goals.{then-m-eq1, else-m-eq1}

pub returns-then-m-ne1-2-clause-steps : goal.returns-then-m-ne1-2-clause-steps
returns-then-m-ne1-2-clause-steps c = rests _ _ _ _ c.begin-first.ensures (rw (ne_eqb _ _ c.if-m-ne1.true, ne_eqb _ _ c.if-m-ne1-2.true))

pub bounds-registers-m : goal.bounds-registers-m
bounds-registers-m c = (began_within _ _ _ c.begin-first.ensures).s

pub returns-after-m-eq1-clause-steps : goal.returns-after-m-eq1-clause-steps
returns-after-m-eq1-clause-steps c =
    let written : c.if-m-eq1.registers ≡ cond (eqb c.begin-first.result.m.rd 1) (set c.begin-first.new.registers 7 c.in-Ok.moved.rdm) c.begin-first.new.registers =
    elim c.if-m-eq1.branch [ then-m-eq1 w ↦ rw (w.registers-is, eq-eqb _ _ w.if-m-eq1.true) | else-m-eq1 w ↦ rw (w.registers-is, ne_eqb _ _ w.if-m-eq1.false) ] in
    rw written (carried _ _ _ _ c.begin-first.ensures _ _ c.in-Ok.moved (rw c.in-Ok.is at c.transfer.ensures.moves))

pub returns-in-Err-clause-steps : goal.returns-in-Err-clause-steps
returns-in-Err-clause-steps c = refused _ _ _ _ c.begin-first.ensures _ _ c.in-Err.stop (rw c.in-Err.is at c.transfer.ensures.moves)
