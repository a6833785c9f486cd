-- Laws of the calls from C: a press is a run of 1, and no second answer.
use Prim.Native.Nat.{ℕ}
use mathlib.Core.Path.{◌≡◌, refl, sym, ◌∙◌, ap}
use mathlib.Core.Bool.{Bool, true, false, cond}
use mathlib.Core.List.{List}
use lib.Dec.{eqb}
use Rattle.turns.specs.Turns.{Turn, Turned, turns, checked, onwards, plus}
use Rattle.cycle.specs.Cycle.{State}
use Rattle.std.specs.Prelude.{Result, Ok, Err}
use Rattle.bus.specs.declared.Refusal.TheVariants.{WrongSize, PastEnd, OutOfRange}
use Rattle.engine.specs.declared.Machine.{Machine}
use Rattle.engine.specs.declared.Refusal.{Refusal}
use Rattle.engine.specs.declared.Refusal.TheVariants.{Lent, BadWord}
use Rattle.engine.specs.Run.{ended, cycle, refusal, runs, ended_by}
use Rattle.panel.specs.Press.{Press, press, passed_by}
use Rattle.panel.specs.declared.Pressed.{Pressed}
use Rattle.lists.specs.Engine.{counted}
use Rattle.microassembler.specs.Assembled.{Outcome}
use Rattle.image.specs.Image.{Reading}
use Rattle.facetgrove.specs.Rooms.{Filled}

-- A run of 1 carried out its cycle where it answers 0, and none where it answers anything else.
once : (store input : List ℕ) (s : State) → (runs store input 1 s).done ≡ cond (eqb (runs store input 1 s).said.number 0) 1 0
unfolding runs ended checked turns onwards plus
once store input s = by (refusal store input s).number (eqb (refusal store input s).number 0) refl (cycle store input s) (eqb (cycle store input s).stop 0) refl
  where
    end : ℕ → Bool → Turn State → Bool → Turned State
    end refused fine t goes =
        cond fine (cond goes (plus 1 t.cost (turns (cycle store input) 0 t.next)) (record { state = t.next; done = 0; cost = 0; stop = t.stop }))
        (record { state = s; done = 0; cost = 0; stop = refused })

    by : (refused : ℕ) (fine : Bool) → eqb refused 0 ≡ fine → (t : Turn State) (goes : Bool) → eqb t.stop 0 ≡ goes
        → (end refused fine t goes).done ≡ cond (eqb (end refused fine t goes).stop 0) 1 0
    by refused true e t true f = refl
    by refused true e t false f = rw f
    by refused false e t goes f = rw e

-- A press, counted, is what the run of 1 hands back.
pub pressed : (store input memory log : List ℕ) (m : Machine) (s : State) (p : Result Pressed Refusal) → press store input s ≡ passed_by m p memory log
    → runs store input 1 s ≡ ended_by m (counted p) memory log
unfolding press
pressed store input memory log m s p e =
    ap (λ (done : ℕ). record { state = (runs store input 1 s).state; done = done; said = (runs store input 1 s).said }) (once store input s)
    ∙ ap (λ (q : Press). record { state = q.state; done = cond (eqb q.said.number 0) 1 0; said = q.said }) e
    ∙ with_count p
  where
    with_count : (p : Result Pressed Refusal)
        → record {
          state = (passed_by m p memory log).state;
          done = cond (eqb (passed_by m p memory log).said.number 0) 1 0;
          said = (passed_by m p memory log).said;
        }
        ≡ ended_by m (counted p) memory log
    with_count (Ok pressed) = refl
    with_count (Err (Lent WrongSize)) = refl
    with_count (Err (Lent PastEnd)) = refl
    with_count (Err (Lent OutOfRange)) = refl
    with_count (Err (BadWord line)) = refl

-- No second answer: a call's equation fixes the answer and every lent list; of a run, `called_only` of `lists` says it.
-- Of a listing and of an image written:
pub filled_only : {d : Filled} {answer answer' : ℕ} {room room' told told' : List ℕ}
    → d ≡ record { answer = answer; room = room; told = told } → d ≡ record { answer = answer'; room = room'; told = told' }
    → (answer ≡ answer') × (room ≡ room') × (told ≡ told')
filled_only p q =
    let e = sym p ∙ q in
    (ap (λ (x : Filled). x.answer) e, ap (λ (x : Filled). x.room) e, ap (λ (x : Filled). x.told) e)

-- Of a text assembled:
pub assembled_only : {d : Outcome} {answer answer' : ℕ} {store store' : List ℕ} → d ≡ record { answer = answer; store = store }
    → d ≡ record { answer = answer'; store = store' } → (answer ≡ answer') × (store ≡ store')
assembled_only p q = let e = sym p ∙ q in (ap (λ (x : Outcome). x.answer) e, ap (λ (x : Outcome). x.store) e)

-- Of an image read:
pub read_only : {d : Reading} {answer answer' : ℕ} {memory memory' : List ℕ} → d ≡ record { answer = answer; memory = memory }
    → d ≡ record { answer = answer'; memory = memory' } → (answer ≡ answer') × (memory ≡ memory')
read_only p q = let e = sym p ∙ q in (ap (λ (x : Reading). x.answer) e, ap (λ (x : Reading). x.memory) e)
