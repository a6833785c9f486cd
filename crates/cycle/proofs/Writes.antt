-- What a cycle does to memory and log: the write that it completes, and nothing where it is refused.
use Prim.Native.Nat.{ℕ, ◌≤◌}
use mathlib.Core.Path.{◌≡◌, sym, ◌∙◌, ap}
use mathlib.Core.Bool.{false}
use mathlib.Core.List.{List}
use lib.ListN.{length}
use lib.Dec.{eqb}
use Rattle.turns.specs.Turns.{Turn, settled}
use Rattle.turns.proofs.Laws.{settles, refuses, settled_stop}
use Rattle.bus.specs.Stops.{goes_on}
use Rattle.bus.specs.Ports.{Left}
use Rattle.bus.specs.Log.{after, to_log, room}
use Rattle.datapath.specs.Transfer.{sends}
use Rattle.bus.proofs.Laws.{Kind}
use Rattle.datapath.proofs.Laws.{transfer_leaves, sends_fit, transfer_kind}
use Rattle.microword.specs.declared.Fields.{Fields}
use Rattle.cycle.specs.Cycle.{State, result, stored, found, transfer, driven, cycle_on, writes_on}

-- Memory and log of a state.
abbrev pub held : State → Left
held s = record { memory = s.memory; log = s.log; count = s.count; stop = goes_on }

-- A cycle that was not refused is what its word drives.
unrefused : (s : State) (t : Turn State) → (settled s t).stop ≡ 0 → (settled s t ≡ t) × (t.stop ≡ 0)
unrefused s t f = let e : t.stop ≡ 0 = sym (settled_stop s t) ∙ f in (settles s t e, e)

-- A cycle that was refused is the state before it.
pub stays : (bits : ℕ) (m : Fields) (input : List ℕ) (s : State) → eqb (cycle_on bits m input s).stop 0 ≡ false → (cycle_on bits m input s).next ≡ s
unfolding cycle_on
stays bits m input s f =
    let t : Turn State = driven bits m input s in
    ap (λ (x : Turn State). x.next) (refuses s t (ap (λ (k : ℕ). eqb k 0) (sym (settled_stop s t)) ∙ f))

driven_writes : (bits : ℕ) (m : Fields) (input : List ℕ) (s : State) → (driven bits m input s).stop ≡ 0
    → held (driven bits m input s).next ≡ after (sends (eqb m.rd 1) (eqb m.wr 1) s.half (found (stored m (result m s.registers) s.registers) s)) (held s)
unfolding driven transfer
driven_writes bits m input s f =
    let at = found (stored m (result m s.registers) s.registers) s in
    ap (λ (x : ℕ). record { memory = (driven bits m input s).next.memory; log = (driven bits m input s).next.log; count = (driven bits m input s).next.count; stop = x }) (sym f)
    ∙ transfer_leaves (eqb m.rd 1) (eqb m.wr 1) input s.half at

-- What one cycle does to memory and log is the write that it completes.
pub cycle_writes : (bits : ℕ) (m : Fields) (input : List ℕ) (s : State) → (cycle_on bits m input s).stop ≡ 0
    → held (cycle_on bits m input s).next ≡ after (writes_on m s) (held s)
unfolding cycle_on writes_on
cycle_writes bits m input s f =
    let u = unrefused s (driven bits m input s) f in
    rw u.0 (driven_writes bits m input s u.1)

-- There was room for the word that it sent to the log.
pub cycle_fits : (bits : ℕ) (m : Fields) (input : List ℕ) (s : State) → (cycle_on bits m input s).stop ≡ 0 → length (to_log (writes_on m s)) ≤ room (held s)
unfolding cycle_on writes_on driven transfer
cycle_fits bits m input s f =
    let u = unrefused s (driven bits m input s) f in
    sends_fit (eqb m.rd 1) (eqb m.wr 1) input s.half (found (stored m (result m s.registers) s.registers) s) u.1

-- What stops a cycle is one of the kinds.
pub cycle_kind : (bits : ℕ) (m : Fields) (input : List ℕ) (s : State) → Kind (cycle_on bits m input s).stop
unfolding cycle_on driven transfer
cycle_kind bits m input s =
    rw (settled_stop s (driven bits m input s))
    (transfer_kind (eqb m.rd 1) (eqb m.wr 1) input s.half (found (stored m (result m s.registers) s.registers) s))
