-- The law of a press: no second answer. Its promise fixes what is answered, the machine record, memory and log.
use Rattle.std.proofs.Common.{◌≡◌, List, ℕ, Option, Result, Ok, Err, sym, ◌∙◌, ap}
use Rattle.bus.specs.declared.Stop.{Stop}
use Rattle.bus.proofs.Laws.{number_only}
use Rattle.engine.specs.Run.{Said}
use Rattle.engine.specs.declared.Machine.{Machine}
use Rattle.engine.specs.declared.Refusal.{Refusal}
use Rattle.engine.proofs.Runs.{same_refusal, apart, machine_in}
use Rattle.panel.specs.declared.Pressed.{Pressed}
use Rattle.panel.specs.Press.{Press, saying, pressed_by, passed_by}

same_result : (r r' : Result (Option Stop) Refusal) → saying r ≡ saying r' → r ≡ r'
same_result (Ok stop) (Ok stop') e = ap (λ (x : Option Stop). Ok x) (number_only stop stop' (ap (λ (x : Said). x.number) e))
same_result (Ok stop) (Err refusal) e = absurd (apart stop refusal (ap (λ (x : Said). x.number) e))
same_result (Err refusal) (Ok stop) e = absurd (apart stop refusal (sym (ap (λ (x : Said). x.number) e)))
same_result (Err refusal) (Err refusal') e = ap (λ (x : Refusal). Err x) (same_refusal refusal refusal' e)

-- No second answer.
pub press_only : {d : Press} (r r' : Result (Option Stop) Refusal) {machine machine' : Machine} {memory memory' log log' : List ℕ}
    → d ≡ pressed_by r machine memory log
    → d ≡ pressed_by r' machine' memory' log'
    → (r ≡ r') × (machine ≡ machine') × (memory ≡ memory') × (log ≡ log')
press_only r r' p q =
    let e = sym p ∙ q in
    (same_result r r' (ap (λ (x : Press). x.said) e), ap (λ (x : Press). machine_in x.state) e, ap (λ (x : Press). x.state.memory) e, ap (λ (x : Press). x.state.log) e)

-- The same of a press where the machine goes in and out by value.
pub passed_only : {d : Press} (machine : Machine) (r r' : Result Pressed Refusal) {memory memory' log log' : List ℕ}
    → d ≡ passed_by machine r memory log
    → d ≡ passed_by machine r' memory' log'
    → (r ≡ r') × (memory ≡ memory') × (log ≡ log')
passed_only machine r r' p q = by r r' (sym p ∙ q)
  where
    by : (r r' : Result Pressed Refusal) {memory memory' log log' : List ℕ} → passed_by machine r memory log ≡ passed_by machine r' memory' log'
        → (r ≡ r') × (memory ≡ memory') × (log ≡ log')
    by (Ok x) (Ok y) e =
        let stop : x.stop ≡ y.stop = number_only x.stop y.stop (ap (λ (d : Press). d.said.number) e) in (
          ap (λ (d : Press). Ok (record { machine = machine_in d.state; stop = x.stop })) e ∙ ap (λ (s : Option Stop). Ok (record { machine = y.machine; stop = s })) stop,
          ap (λ (d : Press). d.state.memory) e,
          ap (λ (d : Press). d.state.log) e,
        )
    by (Ok x) (Err refusal) e = absurd (apart x.stop refusal (ap (λ (d : Press). d.said.number) e))
    by (Err refusal) (Ok y) e = absurd (apart y.stop refusal (sym (ap (λ (d : Press). d.said.number) e)))
    by (Err refusal) (Err refusal') e =
        (ap Err (same_refusal refusal refusal' (ap (λ (d : Press). d.said) e)), ap (λ (d : Press). d.state.memory) e, ap (λ (d : Press). d.state.log) e)
