-- Laws of the interpreter's runs: no second answer; what a run does to memory and log.
use Prim.Native.Nat.{ℕ, ◌-◌, ◌≤◌}
use mathlib.Core.Path.{◌≡◌, refl, sym, ◌∙◌, ap}
use mathlib.Core.List.{List, [], ◌∷◌, ◌++◌}
use mathlib.Core.Bool.{Bool, true, false, cond, not}
use lib.Dec.{eqb}
use native.Mathlib.Omega.{arith}
use lib.ListN.{length, get_or, take, drop, length-append}
use lib.Seq.{take_all}
use borrow.Author.Tests.{ne_eqb, eqb-true}
use Rattle.bus.specs.Ports.{Left}
use Rattle.bus.specs.Log.{Sent, after, to_log, room, Took}
use Rattle.bus.specs.Stops.{number_of}
use Rattle.bus.proofs.Laws as bus
use Rattle.bus.proofs.Laws.{number_only, number_apart}
use Rattle.turns.specs.Turns.{Turned, checked}
use Rattle.turns.proofs.Laws as T
use Rattle.instruction.specs.Instruction.{State, state_of, instruct}
use Rattle.std.specs.Prelude.{Option, Result, Ok, Err}
use Rattle.bus.specs.declared.Stop.{Stop}
use Rattle.bus.specs.declared.Refusal.{Refusal}
use Rattle.bus.specs.declared.Refusal.TheVariants.{WrongSize, PastEnd, OutOfRange}
use Rattle.bus.specs.Refusals.{number}
use Rattle.instruction.specs.declared.Cpu.{Cpu}
use Rattle.interpreter.specs.Run.{refusal, instructions, runs, writes, ended_with, ended_by}
use Rattle.instruction.specs.Writes.{completed, found_in}
use Rattle.interpreter.specs.declared.Ran.{Ran}
use Rattle.instruction.proofs.Laws.{refused_leaves, instruct_leaves, completed_one}

-- Each refusal has a number of its own, from 1 to 3.
number_below : (refused : Refusal) → (1 ≤ number refused) × (number refused ≤ 4)
number_below WrongSize = (omega arith, omega arith)
number_below PastEnd = (omega arith, omega arith)
number_below OutOfRange = (omega arith, omega arith)

-- What answers 1 to 3 let through has a memory of 4,096 words.
pub has_words : (input : List ℕ) (s : State) → refusal input s ≡ 0 → length s.memory ≡ 4096
unfolding refusal
has_words input s e = by (eqb (length s.memory) 4096) _ refl e
  where
    by : (b : Bool) (rest : ℕ) → eqb (length s.memory) 4096 ≡ b → cond (not b) 1 rest ≡ 0 → length s.memory ≡ 4096
    by true rest t e = eqb-true (length s.memory) 4096 t
    by false rest t e = let z : ⊥ = omega arith in absurd z

-- What nothing refuses lets the instructions run; what is refused leaves all as found.
module _ (input : List ℕ) (n : ℕ) (cpu : Cpu) (memory log : List ℕ) where
  pub lets_run : {x : Turned State} → refusal input (state_of cpu memory log) ≡ 0 → instructions input n (state_of cpu memory log) ≡ x → runs input n (state_of cpu memory log) ≡ x
  unfolding runs instructions
  lets_run e p = T.goes (instruct input) n (state_of cpu memory log) e ∙ p

  pub refused : (r : Refusal) → refusal input (state_of cpu memory log) ≡ number r → runs input n (state_of cpu memory log) ≡ ended_by cpu (Err r) memory log
  unfolding runs checked
  refused r e = rw (e, ne_eqb (number r) 0 (λ z. omega (arith, number_below r)))

  pub wrong_size : (length memory ≡ 4096 → ⊥) → runs input n (state_of cpu memory log) ≡ ended_by cpu (Err WrongSize) memory log
  unfolding refusal
  wrong_size h = refused WrongSize (rw (ne_eqb (length memory) 4096 h))

-- No second answer: a run's promise fixes what it hands back and both lent lists. What a run that was not refused hands back is read off
-- the definition's record.
abbrev ran_of : Turned State → Option Stop → Ran
ran_of e stop =
    record {
      cpu = record { core = record { cp = record { 0 = e.state.cp }; ac = e.state.ac; pp = record { 0 = e.state.pp }; place = e.state.place }; count = e.state.count };
      done = e.done;
      cycles = e.cost;
      stop = stop;
    }

refusal_only : (a b : Refusal) → number a ≡ number b → a ≡ b
refusal_only WrongSize WrongSize e = refl
refusal_only WrongSize PastEnd e = absurd (omega (arith, e))
refusal_only WrongSize OutOfRange e = absurd (omega (arith, e))
refusal_only PastEnd WrongSize e = absurd (omega (arith, e))
refusal_only PastEnd PastEnd e = refl
refusal_only PastEnd OutOfRange e = absurd (omega (arith, e))
refusal_only OutOfRange WrongSize e = absurd (omega (arith, e))
refusal_only OutOfRange PastEnd e = absurd (omega (arith, e))
refusal_only OutOfRange OutOfRange e = refl

pub run_only : {e : Turned State} (cpu : Cpu) (r r' : Result Ran Refusal) {memory memory' log log' : List ℕ} → e ≡ ended_by cpu r memory log → e ≡ ended_by cpu r' memory' log'
    → (r ≡ r') × (memory ≡ memory') × (log ≡ log')
run_only cpu r r' {memory} {memory'} {log} {log'} p q = by r r' (sym p ∙ q)
  where
    apart : (stop : Option Stop) (refused : Refusal) → number_of stop ≡ number refused → ⊥
    apart stop refused e = let b = number_below refused in number_apart stop (number refused) b.0 b.1 e

    by : (r r' : Result Ran Refusal) → ended_by cpu r memory log ≡ ended_by cpu r' memory' log' → (r ≡ r') × (memory ≡ memory') × (log ≡ log')
    by (Ok x) (Ok y) e =
        let stop : x.stop ≡ y.stop = number_only x.stop y.stop (ap (λ (t : Turned State). t.stop) e) in (
          ap (λ (t : Turned State). Ok (ran_of t x.stop)) e ∙ ap (λ (o : Option Stop). Ok (ran_of (ended_with y memory' log') o)) stop,
          ap (λ (t : Turned State). t.state.memory) e,
          ap (λ (t : Turned State). t.state.log) e,
        )
    by (Ok x) (Err refused) e = absurd (apart x.stop refused (ap (λ (t : Turned State). t.stop) e))
    by (Err refused) (Ok y) e = absurd (apart y.stop refused (sym (ap (λ (t : Turned State). t.stop) e)))
    by (Err refused) (Err refused') e =
        (ap Err (refusal_only refused refused' (ap (λ (t : Turned State). t.stop) e)), ap (λ (t : Turned State). t.state.memory) e, ap (λ (t : Turned State). t.state.log) e)

-- Memory keeps its length and the words under its ports.
pub record Spared (before later : List ℕ) : Type 0 where
  pub words : length later ≡ length before
  pub ports : (x : ℕ) → 4092 ≤ x → get_or later x 0 ≡ get_or before x 0

spared : (ss : List Sent) (at : Left) → Spared at.memory (after ss at).memory
spared ss at = record { words = bus.after_words ss at; ports = bus.after_ports ss at }

-- A word that was not refused found room.
found_room : (ss : List Sent) → length ss ≤ 1 → (at : Left) → (after ss at).stop ≡ 0 → length (to_log ss) ≤ room at
unfolding after to_log
found_room [] h at f = omega arith
found_room (sent ∷ []) h at f = bus.has_room at.memory at.log at.count sent.address sent.word f
found_room (sent ∷ other ∷ ss) h at f = let z : ⊥ = omega arith in absurd z

-- Of a run: memory, log and count are what its completed writes, in turn, make of them.
pub run_leaves : (input : List ℕ) (n : ℕ) (s : State) → found_in (instructions input n s).state ≡ after (writes input n s) (found_in s)
unfolding instructions writes after
run_leaves input n s =
    T.tells (instruct input) (completed input) found_in after (λ y. refl) bus.after_append
    (λ s f. instruct_leaves input s)
    (λ s f. rw (refused_leaves input s f)) n s

-- Every word that a run sent to the log found room there.
all_fit : (input : List ℕ) (n : ℕ) (s : State) → s.count ≤ length s.log → length (to_log (writes input n s)) ≤ room (found_in s)
unfolding writes to_log
all_fit input n s h =
    T.fits (instruct input) (completed input) (λ s. s.count ≤ length s.log) (λ l. length (to_log l)) (λ s. room (found_in s)) refl
    (λ a b. rw (bus.to_log_append a b, length-append (to_log a) (to_log b))) one n s h
  where
    one : (s : State) → (instruct input s).stop ≡ 0 → s.count ≤ length s.log
        → (length (to_log (completed input s)) ≤ room (found_in s)) × (room (found_in (instruct input s).next) ≡ room (found_in s) - length (to_log (completed input s)))
        × ((instruct input s).next.count ≤ length (instruct input s).next.log)
    one s f h =
        let took : Took (to_log (completed input s)) (found_in s) (found_in (instruct input s).next) = rw (instruct_leaves input s) (bus.kept (completed input s) (found_in s) h) in
        (found_room (completed input s) (completed_one input s) (found_in s) (ap (λ (l : Left). l.stop) (sym (instruct_leaves input s))), took.left, took.within)

-- After any run the log is its former words followed, in order, by every word that the completed writes sent to 4094, and nothing
-- else; the room past them is as found.
pub record Logged (words : List ℕ) (before later : State) : Type 0 where
  pub holds : take later.count later.log ≡ take before.count before.log ++ words
  pub past : drop later.count later.log ≡ drop later.count before.log
  pub size : length later.log ≡ length before.log
  pub within : later.count ≤ length later.log

pub log_kept : (input : List ℕ) (n : ℕ) (s : State) → s.count ≤ length s.log
    → Logged (to_log (writes input n s)) s (instructions input n s).state
log_kept input n s h =
    let took : Took (to_log (writes input n s)) (found_in s) (found_in (instructions input n s).state) =
    rw (run_leaves input n s) (bus.kept (writes input n s) (found_in s) h) in
    record {
      holds = took.holds ∙ rw (take_all (room (found_in s)) (to_log (writes input n s)) (all_fit input n s h));
      past = took.past;
      size = took.size;
      within = took.within;
    }

-- No run changes the words under the ports, or the length of memory.
pub ports_kept : (input : List ℕ) (n : ℕ) (s : State) → Spared s.memory (instructions input n s).state.memory
ports_kept input n s = rw (ap (λ (l : Left). l.memory) (run_leaves input n s)) (spared (writes input n s) (found_in s))

pub ruleset begun = (lets_run, refused, wrong_size)
