-- Laws of records of which each follows the one before: none but the last can be at fault.
use Rattle.std.proofs.Common.{◌≡◌, ℕ, suc, ◌≤◌, ◌<◌, Bool, true, false, cond, ltb, eqb, List, [], ◌∷◌, refl, sym, ◌∙◌, arith}
use borrow.Table.Steps.{cases}
use borrow.Author.Tests.{ltb-true, ltb-false, lt-ltb, le-ltb, eqb-true}
use Rattle.image.specs.Records.{fault, first_fault}
use Rattle.image.specs.declared.Record.{Record}
use Rattle.image.proofs.Records.{Sound, sound, no_fault, passed, stopped}

-- The first fault is the same for every `least` that the first record is not below.
by_itself : (least : ℕ) (r : Record) (rest : List Record) → least ≤ r.address.0 → first_fault 0 (r ∷ rest) ≡ first_fault least (r ∷ rest)
unfolding first_fault fault
by_itself least r rest above = simp (le-ltb _ _ above, le-ltb r.address.0 0 (omega arith))

pub one_judged : (r : Record) → first_fault 0 (r ∷ []) ≡ fault 0 r
unfolding first_fault
one_judged r =
    cases (eqb (fault 0 r) 0)
    (λ (e : eqb (fault 0 r) 0 ≡ true). passed 0 r [] (eqb-true (fault 0 r) 0 e) refl ∙ sym (eqb-true (fault 0 r) 0 e))
    (λ (e : eqb (fault 0 r) 0 ≡ false). stopped 0 r [] refl e)

-- Whether a record has a value and the next one is above it.
abbrev pub following : Record → Record → Bool
following r s = cond (eqb r.value 0) false (ltb r.address.0 s.address.0)

not_then : (b c : Bool) → cond b false c ≡ true → (b ≡ false) × (c ≡ true)
not_then true c h = let z : ◌≡◌ {A = ℕ} 0 1 = cc in absurd (omega arith)
not_then false c h = (refl, h)

module _ (r s : Record) (rest : List Record) where
  -- A record that another follows need not be judged: were it too high, so were the other.
  pub followed : following r s ≡ true → first_fault 0 (s ∷ rest) ≡ first_fault 0 (r ∷ s ∷ rest)
  unfolding first_fault fault
  followed h =
      let parts = not_then (eqb r.value 0) _ h in
      let above = ltb-true r.address.0 s.address.0 parts.1 in
      cases (ltb 4091 r.address.0)
      (λ (high : ltb 4091 r.address.0 ≡ true).
      let higher : 4091 < s.address.0 = omega (arith, ltb-true 4091 r.address.0 high) in
      simp (high, lt-ltb _ _ higher))
      (λ (low : ltb 4091 r.address.0 ≡ false).
      let fine : Sound 0 r = record { low = omega (arith, ltb-false 4091 r.address.0 low); above = omega arith; some = parts.0 } in
      by_itself (suc r.address.0) s rest (omega arith) ∙ sym (passed 0 r (s ∷ rest) (no_fault 0 r fine) refl))

  pub not_followed : following r s ≡ false → fault 0 r ≡ 0 → first_fault 0 (r ∷ s ∷ rest) ≡ 22
  unfolding fault
  not_followed h fine =
      let judged = sound 0 r fine in
      let below = ltb-false r.address.0 s.address.0 (rw judged.some at h) in
      let falls : 22 ≡ fault (suc r.address.0) s =
      simp (le-ltb 4091 s.address.0 (omega arith), lt-ltb s.address.0 (suc r.address.0) (omega arith)) in
      passed 0 r (s ∷ rest) fine refl ∙ stopped (suc r.address.0) s rest falls refl
