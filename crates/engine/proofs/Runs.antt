-- Laws of the engine's runs: what a run does to memory and log, and no second answer.
use Prim.Native.Nat.{ℕ, ◌-◌, ◌≤◌}
use mathlib.Core.Path.{◌≡◌, refl, sym, ◌∙◌, ap}
use mathlib.Core.Bool.{cond}
use mathlib.Core.List.{List, ◌++◌}
use Rattle.std.specs.Prelude.{Option, Result, Ok, Err}
use native.Mathlib.Omega.{arith}
use lib.ListN.{length, get_or, take, drop, length-append}
use lib.Seq.{take_all}
use lib.Dec.{eqb}
use Rattle.bus.specs.Stops.{number_of}
use Rattle.bus.specs.Ports.{Left}
use Rattle.bus.specs.Log.{after, to_log, room, Took}
use Rattle.bus.specs.declared.Stop.{Stop}
use Rattle.bus.specs.declared.Refusal.TheVariants.{WrongSize, PastEnd, OutOfRange}
use Rattle.bus.proofs.Laws.{number_only, number_apart, kept, after_append, after_ports, to_log_append}
use Rattle.microword.specs.Microword.{fields_of}
use Rattle.turns.proofs.Laws as T
use Rattle.store.specs.Store.{control_word}
use Rattle.cycle.specs.Cycle.{State, written_by}
use Rattle.cycle.proofs.Writes.{held, stays, cycle_writes, cycle_fits}
use Rattle.engine.specs.Run.{number, named, Said, Ended, cycle, cycles, writes, ended_by}
use Rattle.engine.specs.declared.Refusal.{Refusal}
use Rattle.engine.specs.declared.Refusal.TheVariants.{Lent, BadWord}
use Rattle.engine.specs.declared.Machine.{Machine}
use Rattle.engine.specs.declared.Ran.{Ran}

-- What a run does to memory and log is the writes that it completes.
pub run_writes : (store input : List ℕ) (n : ℕ) (s : State) → held (cycles store input n s).state ≡ after (writes store input n s) (held s)
unfolding cycles writes after
run_writes store input n s =
    T.tells (cycle store input) (λ s. written_by (control_word store s.line) s) held after (λ y. refl) after_append
    (λ s f. cycle_writes 6 (fields_of (control_word store s.line)) input s f)
    (λ s f. ap held (stays 6 (fields_of (control_word store s.line)) input s f)) n s

-- The words under the ports are never changed by a run.
pub run_ports : (store input : List ℕ) (n : ℕ) (s : State) (x : ℕ) → 4092 ≤ x
    → get_or (cycles store input n s).state.memory x 0 ≡ get_or s.memory x 0
run_ports store input n s x h =
    ap (λ (l : Left). get_or l.memory x 0) (run_writes store input n s) ∙ after_ports (writes store input n s) (held s) x h

-- There was room for every word that a run sent to the log.
run_fits : (store input : List ℕ) (n : ℕ) (s : State) → s.count ≤ length s.log → length (to_log (writes store input n s)) ≤ room (held s)
unfolding writes to_log
run_fits store input n s h =
    T.fits (cycle store input) (λ s. written_by (control_word store s.line) s) (λ s. s.count ≤ length s.log) (λ l. length (to_log l)) (λ s. room (held s)) refl
    (λ a b. rw (to_log_append a b, length-append (to_log a) (to_log b))) one n s h
  where
    one : (s : State) → (cycle store input s).stop ≡ 0 → s.count ≤ length s.log
        → (length (to_log (written_by (control_word store s.line) s)) ≤ room (held s))
        × (room (held (cycle store input s).next) ≡ room (held s) - length (to_log (written_by (control_word store s.line) s)))
        × ((cycle store input s).next.count ≤ length (cycle store input s).next.log)
    one s f h =
        let m = fields_of (control_word store s.line) in
        let t : Took (to_log (written_by (control_word store s.line) s)) (held s) (held (cycle store input s).next) = rw (cycle_writes 6 m input s f) (kept (written_by (control_word store s.line) s) (held s) h) in
        (cycle_fits 6 m input s f, t.left, t.within)

-- After a run the log is its former words followed, in order, by every word that the completed writes sent to 4094, and nothing else;
-- the room past them is as found.
pub record Grown (words : List ℕ) (before later : State) : Type 0 where
  pub holds : take later.count later.log ≡ take before.count before.log ++ words
  pub past : drop later.count later.log ≡ drop later.count before.log
  pub size : length later.log ≡ length before.log

pub run_log : (store input : List ℕ) (n : ℕ) (s : State) → s.count ≤ length s.log
    → Grown (to_log (writes store input n s)) s (cycles store input n s).state
run_log store input n s h =
    let words : List ℕ = to_log (writes store input n s) in
    let t : Took words (held s) (held (cycles store input n s).state) = rw (run_writes store input n s) (kept (writes store input n s) (held s) h) in
    record {
      holds = t.holds ∙ ap (λ (l : List ℕ). take s.count s.log ++ l) (take_all (room (held s)) words (run_fits store input n s h));
      past = t.past;
      size = t.size;
    }

-- The refusal that an answer number and a line stand for.
refusal_of : Said → Refusal
refusal_of s =
    cond (eqb s.number 1) (Lent WrongSize)
    (cond (eqb s.number 2) (Lent PastEnd)
    (cond (eqb s.number 3) (Lent OutOfRange)
    (BadWord (record { 0 = s.line }))))

abbrev pub told_by : Refusal → Said
told_by r = record { number = number r; line = named r }

refusal_back : (r : Refusal) → refusal_of (told_by r) ≡ r
unfolding refusal_of
refusal_back (Lent WrongSize) = refl
refusal_back (Lent PastEnd) = refl
refusal_back (Lent OutOfRange) = refl
refusal_back (BadWord line) = refl

-- Each refusal has a number and a line of its own.
pub same_refusal : (r r' : Refusal) → told_by r ≡ told_by r' → r ≡ r'
same_refusal r r' e = sym (refusal_back r) ∙ ap refusal_of e ∙ refusal_back r'

-- The machine record of a state; a control line is fixed by its number.
abbrev pub machine_in : State → Machine
machine_in s = record { line = record { 0 = s.line }; registers = s.registers; half = s.half; place = s.place; count = s.count }

-- No number of a refusal is that of a run that is done or stopped.
pub apart : (stop : Option Stop) (r : Refusal) → number_of stop ≡ number r → ⊥
apart stop (Lent WrongSize) e = number_apart stop 1 (omega arith) (omega arith) e
apart stop (Lent PastEnd) e = number_apart stop 2 (omega arith) (omega arith) e
apart stop (Lent OutOfRange) e = number_apart stop 3 (omega arith) (omega arith) e
apart stop (BadWord line) e = number_apart stop 4 (omega arith) (omega arith) e

same_result : (machine : Machine) (r r' : Result Ran Refusal) (memory memory' log log' : List ℕ) → ended_by machine r memory log ≡ ended_by machine r' memory' log' → r ≡ r'
same_result machine (Ok ran) (Ok ran') memory memory' log log' e =
    rw (← number_only ran.stop ran'.stop (ap (λ (x : Ended). x.said.number) e))
    (ap (λ (x : Ended). Ok (record { machine = machine_in x.state; done = x.done; stop = ran.stop })) e)
same_result machine (Ok ran) (Err r') memory memory' log log' e = absurd (apart ran.stop r' (ap (λ (x : Ended). x.said.number) e))
same_result machine (Err r) (Ok ran') memory memory' log log' e = absurd (apart ran'.stop r (sym (ap (λ (x : Ended). x.said.number) e)))
same_result machine (Err r) (Err r') memory memory' log log' e = ap (λ (x : Refusal). Err x) (same_refusal r r' (ap (λ (x : Ended). x.said) e))

ended_memory : (machine : Machine) (r : Result Ran Refusal) (memory log : List ℕ) → (ended_by machine r memory log).state.memory ≡ memory
ended_memory machine (Ok ran) memory log = refl
ended_memory machine (Err r) memory log = refl

ended_log : (machine : Machine) (r : Result Ran Refusal) (memory log : List ℕ) → (ended_by machine r memory log).state.log ≡ log
ended_log machine (Ok ran) memory log = refl
ended_log machine (Err r) memory log = refl

-- No second answer: a run's promise fixes the answer, the count, the machine and both lent lists.
pub run_only : {d : Ended} (machine : Machine) (r r' : Result Ran Refusal) {memory memory' log log' : List ℕ} → d ≡ ended_by machine r memory log → d ≡ ended_by machine r' memory' log'
    → (r ≡ r') × (memory ≡ memory') × (log ≡ log')
run_only machine r r' {memory} {memory'} {log} {log'} p q =
    let e = sym p ∙ q in (
      same_result machine r r' memory memory' log log' e,
      sym (ended_memory machine r memory log) ∙ ap (λ (x : Ended). x.state.memory) e ∙ ended_memory machine r' memory' log',
      sym (ended_log machine r memory log) ∙ ap (λ (x : Ended). x.state.log) e ∙ ended_log machine r' memory' log',
    )
