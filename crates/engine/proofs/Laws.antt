-- Laws of a run on its way: how it begins by the check's result, goes on, stops and ends, with the cycles' worth left out of what is told.
use Rattle.std.proofs.Common.{◌≡◌, ℕ, ◌+◌, ◌-◌, ◌<◌, ◌≤◌, List, false, eqb, ap, ◌∙◌, arith}
use native.Mathlib.Nat.{sub-zero}
use Rattle.turns.specs.Turns.{Turn, plus, checked}
use Rattle.turns.proofs.Laws as T
use Rattle.store.specs.Store.{control_word}
use Rattle.cycle.specs.Cycle.{State, cycle_of}
use Rattle.engine.specs.Run.{number, named, says, refusal, Ended, cycle, cycles, ended, runs}
use Rattle.engine.specs.declared.Refusal.{Refusal}
use Rattle.bus.specs.declared.Refusal.TheVariants.{WrongSize, PastEnd, OutOfRange}
use Rattle.engine.specs.declared.Refusal.TheVariants.{Lent, BadWord}

-- At the beginning none of a run's cycles is done.
pub begins : (store input : List ℕ) (n : ℕ) (s : State) → ended 0 (cycles store input n s) ≡ ended 0 (plus 0 0 (cycles store input (n - 0) s))
begins store input n s = rw (sub-zero, T.plus_none)

-- A run of n cycles of which some are done, at a cycle that is carried out, at one that is refused, and at its end.
module _ (store input : List ℕ) (n done : ℕ) (s : State) where
  pub goes_on : {a : Turn State} → done < n → cycle_of (control_word store s.line) input s ≡ a → a.stop ≡ 0
      → ended 0 (plus done 0 (cycles store input (n - done) s)) ≡ ended 0 (plus (done + 1) 0 (cycles store input (n - (done + 1)) a.next))
  unfolding cycles ended plus
  goes_on {a} h e f = ap (ended 0) (T.goes_on (cycle store input) s {n = n} {done = done} 0 {t = a} h e f)

  pub stops : {a : Turn State} → done < n → cycle_of (control_word store s.line) input s ≡ a → eqb a.stop 0 ≡ false
      → ended 0 (plus done 0 (cycles store input (n - done) s)) ≡ record { state = a.next; done = done; said = says a.stop }
  unfolding cycles ended
  stops {a} h e f = ap (ended 0) (T.stops (cycle store input) s {n = n} {done = done} 0 {t = a} h e f)

  pub ends : n ≤ done → done ≤ n → ended 0 (plus done 0 (cycles store input (n - done) s)) ≡ record { state = s; done = n; said = says 0 }
  unfolding cycles ended
  ends h k = let all : done ≡ n = omega arith in ap (ended 0) (T.ends (cycle store input) s {n = n} {done = done} 0 h) ∙ rw all

-- Where the check refuses nothing the cycles run; what it refuses is handed on with everything as found.
module _ (store input : List ℕ) (n : ℕ) (s : State) where
  pub lets_run : {x : Ended} → says 0 ≡ refusal store input s → ended 0 (cycles store input n s) ≡ x → runs store input n s ≡ x
  unfolding runs checked cycles
  lets_run e p = rw (← e) p

  pub refuses : (r : Refusal) → record { number = number r; line = named r } ≡ refusal store input s
      → runs store input n s ≡ record { state = s; done = 0; said = record { number = number r; line = named r } }
  unfolding runs checked ended
  refuses (Lent WrongSize) e = rw (← e)
  refuses (Lent PastEnd) e = rw (← e)
  refuses (Lent OutOfRange) e = rw (← e)
  refuses (BadWord line) e = rw (← e)
