-- Laws of refused calls: 1 to 4 leave all as found, and a half done above 2 or a line above 63 is refused by 3.
use Prim.Native.Nat.{ℕ, ◌≤◌, ◌<◌}
use mathlib.Core.Path.{◌≡◌, refl, ap}
use mathlib.Core.Bool.{Bool, true, false, cond, ◌||◌}
use mathlib.Core.List.{List, [], ◌∷◌}
use mathlib.Core.Logic.{◌⊎◌, inl, inr}
use native.Mathlib.Omega.{arith}
use borrow.Author.Tests.{lt-ltb, le-ltb, eq-eqb}
use lib.Dec.{ltb, eqb}
use lib.ListN.{length, get_or}
use Rattle.turns.specs.Turns.{Turn, Turned, turns, checked}
use Rattle.turns.proofs.Laws as T
use Rattle.bus.proofs.Laws.{stop_of, Kind, kind_apart}
use Rattle.microword.specs.Microword.{fields_of}
use Rattle.store.specs.Store.{control_word}
use Rattle.cycle.specs.Cycle.{State}
use Rattle.cycle.proofs.Writes.{cycle_kind}
use Rattle.engine.specs.Run.{refusal, cycle, ended, runs, state_of}
use Rattle.instruction.specs.Instruction.{State as InterpreterState, instruct, state_of as interpreter_state_of}
use Rattle.instruction.proofs.Laws.{instruct_kind}
use Rattle.interpreter.specs.Run.{refusal as interpreter_refusal, runs as interpreter_runs}
use Rattle.lists.specs.Called.{Called}
use Rattle.lists.specs.Engine.{line_of, machine_of, refuses, leaves}
use Rattle.lists.specs.Interpreter.{cpu_of, leaves as interpreter_leaves}
use Rattle.facetgrove.specs.Runs.{engine_called, interpreter_called}

-- A run that answers 1 to 4 was refused before its first step, and did nothing: no step is refused by such a number.
refused_run : {S : Type 0} (refusal : ℕ) (step : S → Turn S) (n : ℕ) (s : S) → ((s : S) → Kind (step s).stop)
    → 1 ≤ (checked refusal step n s).stop → (checked refusal step n s).stop ≤ 4
    → checked refusal step n s ≡ record { state = s; done = 0; cost = 0; stop = (checked refusal step n s).stop }
unfolding checked stop_of
refused_run {S} refusal step n s kinds low high = by (eqb refusal 0) low high
  where
    end : Bool → Turned S
    end fine = cond fine (turns step n s) (record { state = s; done = 0; cost = 0; stop = refusal })

    by : (fine : Bool) → 1 ≤ (end fine).stop → (end fine).stop ≤ 4 → end fine ≡ record { state = s; done = 0; cost = 0; stop = (end fine).stop }
    by true l h = absurd (kind_apart (turns step n s).stop (T.answers step Kind refl kinds n s) l h)
    by false l h = refl

-- Such an answer leaves the caller's registers and state as found.
is_refused : (number : ℕ) → 1 ≤ number → number ≤ 4 → refuses number ≡ true
unfolding refuses
is_refused number low high = rw (lt-ltb 0 number low, lt-ltb number 5 (omega arith))

-- A half done above 2 and a line above 63 go as line 64.
nowhere : (line half : ℕ) → (2 < half) ⊎ (64 ≤ line) → line_of line half ≡ 64
unfolding line_of
nowhere line half (inl h) = rw (lt-ltb _ _ h)
nowhere line half (inr h) = by (ltb 2 half)
  where
    by : (above : Bool) → cond above 64 (cond (ltb line 64) line 64) ≡ 64
    by true = refl
    by false = rw (le-ltb _ _ h)

-- A line of 64 is one range of the four too many.
last : (a b c : Bool) → (a || b || c || true) ≡ true
last true b c = refl
last false true c = refl
last false false true = refl
last false false false = refl

-- The engine's answers 1 to 4 leave registers, state, memory and log as found, and count nothing.
module _ (store input : List ℕ) (n : ℕ) (registers state memory log : List ℕ) where
  abbrev call : Called
  call = engine_called store input n registers state memory log

  pub as_found : 1 ≤ call.answer → call.answer ≤ 4
      → call ≡ record { answer = call.answer; registers = registers; state = state; memory = memory; log = log; told = 0 ∷ get_or call.told 1 0 ∷ [] }
  unfolding engine_called leaves runs ended
  as_found low high =
      let s : State = state_of (machine_of registers state) memory log in
      let word : ℕ → ℕ = λ line. control_word store line in
      let found = refused_run (refusal store input s).number (cycle store input) n s (λ s. cycle_kind 6 (fields_of (word s.line)) input s) low high in
      rw (is_refused _ low high, ap (λ (t : Turned State). t.state) found, ap (λ (t : Turned State). t.done) found)

  -- What has no place in the machine is refused by 3 where 1 and 2 do not come first.
  pub refused_by_3 : (length memory ≡ 4096) × (length store ≡ 64) → (get_or state 0 0 ≤ length input) × (get_or state 1 0 ≤ length log)
      → (2 < get_or state 3 0) ⊎ (64 ≤ get_or state 2 0) → call.answer ≡ 3
  unfolding engine_called leaves runs ended checked refusal machine_of
  refused_by_3 sizes places far =
      rw (eq-eqb _ _ sizes.0, eq-eqb _ _ sizes.1, le-ltb _ _ places.0, le-ltb _ _ places.1, nowhere _ _ far, last (ltb 4095 (get_or registers 0 0)) (ltb 4095 (get_or registers 2 0)) (ltb 4095 (get_or registers 6 0)))

-- The interpreter's answers 1 to 3 leave all as found, and count nothing.
module _ (input : List ℕ) (n cp ac pp place count : ℕ) (memory log : List ℕ) where
  abbrev ran : Called
  ran = interpreter_called input n (cp ∷ ac ∷ pp ∷ []) (place ∷ count ∷ []) memory log

  pub interpreter_as_found : 1 ≤ ran.answer → ran.answer ≤ 3
      → ran ≡ record { answer = ran.answer; registers = cp ∷ ac ∷ pp ∷ []; state = place ∷ count ∷ []; memory = memory; log = log; told = 0 ∷ 0 ∷ [] }
  unfolding interpreter_called interpreter_runs
  interpreter_as_found low high =
      let s : InterpreterState = interpreter_state_of (cpu_of (cp ∷ ac ∷ pp ∷ []) (place ∷ count ∷ [])) memory log in
      ap interpreter_leaves (refused_run (interpreter_refusal input s) (instruct input) n s (instruct_kind input) low (omega arith))
