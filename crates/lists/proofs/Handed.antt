-- What a run leaves its caller, by how it ended: it ran, and machine and counts go back; or it was refused, and all is as found.
use Prim.Native.Nat.{ℕ}
use mathlib.Core.Path.{◌≡◌, refl}
use mathlib.Core.List.{List, [], ◌∷◌}
use mathlib.Core.Bool.{Bool, true, false, ◌&&◌}
use native.Mathlib.Omega.{arith}
use borrow.Author.Tests.{ltb-true}
use lib.Dec.{ltb}
use Rattle.std.specs.Prelude.{Option, Ok, Err}
use Rattle.bus.specs.declared.Stop.{Stop}
use Rattle.bus.proofs.Laws.{number_apart}
use Rattle.bus.specs.declared.Refusal.TheVariants.{WrongSize, PastEnd, OutOfRange}
use Rattle.bus.specs.Stops.{number_of}
use Rattle.engine.specs.declared.Machine.{Machine}
use Rattle.engine.specs.declared.Refusal.{Refusal}
use Rattle.engine.specs.declared.Refusal.TheVariants.{Lent, BadWord}
use Rattle.word.specs.Answer.{named}
use Rattle.engine.specs.Run.{number, named_line, ended_by}
use Rattle.lists.specs.Engine.{leaves, refuses, state_list}

-- What stops a run is none of what refuses one.
ran_on : (stop : Option Stop) → refuses (number_of stop) ≡ false
unfolding refuses
ran_on stop = go (ltb 0 (number_of stop)) (ltb (number_of stop) 5) refl refl
  where
    go : (a b : Bool) → ltb 0 (number_of stop) ≡ a → ltb (number_of stop) 5 ≡ b → (a && b) ≡ false
    go false b p q = refl
    go true false p q = refl
    go true true p q =
        let most = ltb-true (number_of stop) 5 q in
        absurd (number_apart stop (number_of stop) (ltb-true 0 (number_of stop) p) (omega arith) refl)

pub ran_leaves : (before machine : Machine) (done : ℕ) (stop : Option Stop) (memory log registers state : List ℕ)
    → leaves (ended_by before (Ok (record { machine = machine; done = done; stop = stop })) memory log) registers state
    ≡ record {
      answer = number_of stop;
      registers = machine.registers;
      state = state_list machine.place machine.count machine.line.0 machine.half;
      memory = memory;
      log = log;
      told = done ∷ 0 ∷ [];
    }
unfolding leaves
ran_leaves before machine done stop memory log registers state = rw (ran_on stop) refl

pub refused_leaves : (before : Machine) (refusal : Refusal) (memory log registers state : List ℕ)
    → leaves (ended_by before (Err refusal) memory log) registers state
    ≡ record { answer = number refusal; registers = registers; state = state; memory = memory; log = log; told = 0 ∷ named (named_line refusal) ∷ [] }
unfolding leaves refuses
refused_leaves before (Lent WrongSize) memory log registers state = refl
refused_leaves before (Lent PastEnd) memory log registers state = refl
refused_leaves before (Lent OutOfRange) memory log registers state = refl
refused_leaves before (BadWord line) memory log registers state = refl
