-- Laws of a caller's lists: what a state handed on stands for, and no second answer.
use Prim.Native.Nat.{ℕ, ◌<◌}
use mathlib.Core.Path.{◌≡◌, refl, sym, ◌∙◌, ap}
use mathlib.Core.Bool.{false}
use mathlib.Core.List.{List}
use borrow.Author.Tests.{lt-ltb}
use lib.Dec.{ltb}
use Rattle.datapath.specs.declared.Half.{Half}
use Rattle.datapath.specs.declared.Half.TheVariants.{Nothing, Read, Write}
use Rattle.engine.specs.declared.Machine.{Machine}
use Rattle.lists.specs.Called.{Called}
use Rattle.datapath.specs.Halves.{half_number}
use Rattle.lists.specs.Engine.{half_of, line_of, state_list, machine_of}

-- Half done comes back from its number, which is at most 2.
half_back : (half : Half) → half_of (half_number half) ≡ half
unfolding half_of
half_back Nothing = refl
half_back Read = refl
half_back Write = refl

known : (half : Half) → ltb 2 (half_number half) ≡ false
known Nothing = refl
known Read = refl
known Write = refl

-- What a run left stands for the machine that it left, so the next call goes on where this one ended.
pub handed_on : (m : Machine) → m.line.0 < 64 → machine_of m.registers (state_list m.place m.count m.line.0 m.half) ≡ m
unfolding machine_of line_of
handed_on m h = rw (known m.half, lt-ltb _ _ h, half_back m.half)

-- No second answer: the equation of a run, and of what it hands back, fixes the answer and every list.
pub called_only : {d : Called} {answer answer' : ℕ} {registers registers' state state' memory memory' log log' told told' : List ℕ}
    → d ≡ record { answer = answer; registers = registers; state = state; memory = memory; log = log; told = told }
    → d ≡ record { answer = answer'; registers = registers'; state = state'; memory = memory'; log = log'; told = told' }
    → (answer ≡ answer') × (registers ≡ registers') × (state ≡ state') × (memory ≡ memory') × (log ≡ log') × (told ≡ told')
called_only p q =
    let e = sym p ∙ q in (
      ap (λ (x : Called). x.answer) e,
      ap (λ (x : Called). x.registers) e,
      ap (λ (x : Called). x.state) e,
      ap (λ (x : Called). x.memory) e,
      ap (λ (x : Called). x.log) e,
      ap (λ (x : Called). x.told) e,
    )
