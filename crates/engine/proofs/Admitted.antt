-- What answers 1 to 4 let through: it gives all that demand 3 asks of a state, and the engine keeps to it, so that a run can be
-- continued by another.
use Prim.Native.Nat.{ℕ, ◌+◌, ◌-◌, ◌%◌, ◌^◌, ◌≤◌, ◌<◌}
use mathlib.Core.Path.{◌≡◌, refl, ap, sym, ◌∙◌}
use mathlib.Core.List.{List}
use mathlib.Core.Bool.{Bool, true, false, cond, not, ◌||◌}
use native.Mathlib.Omega.{arith}
use native.Mathlib.Decide.{ℕ_discrete, dec_lt}
use lib.ListN.{length, get_or, set}
use lib.Seq.{get_or-set_same, get_or-set_other, set_out}
use lib.Pow.{pow_pos}
use lib.Dec.{ltb, eqb}
use borrow.Author.Tests.{ltb-true, ltb-false, eqb-true, le-ltb, eq-eqb, not-false}
use Rattle.bus.specs.declared.Fetched.{Fetched}
use Rattle.bus.specs.Ports.{Left, next_input, read_at}
use Rattle.bus.specs.Log.{after}
use Rattle.bus.proofs.Laws.{kept, after_words}
use Rattle.datapath.specs.declared.Half.{Half}
use Rattle.datapath.specs.declared.Half.TheVariants.{Nothing, Read, Write}
use Rattle.datapath.specs.Result.{keeps}
use Rattle.datapath.specs.Transfer.{Found, Transfer, waits, completed_read, completed_write, read_cycle, write_cycle, transferred, sends, found_in, left_in}
use Rattle.datapath.proofs.Laws.{transfer_leaves}
use Rattle.microword.specs.declared.Fields.{Fields}
use Rattle.microword.specs.Microword.{fields_of}
use Rattle.microword.proofs.Laws.{fields_within}
use Rattle.word.proofs.Tests.{neither, either}
use Rattle.turns.proofs.Laws as T
use Rattle.store.specs.Store.{wrong_store, control_word, first_bad}
use Rattle.cycle.specs.Cycle.{State, register, result, stored, found, transfer, next_line, driven, cycle_on}
use Rattle.cycle.proofs.Laws.{settled_keeps, target_within}
use Rattle.engine.specs.Run.{Said, says, refusal_by, refusal, cycle, cycles}

-- The facts behind "refusal 0", for lines of any number of bits.
pub record AdmittedBy (bits : ℕ) (wrong : Bool) (bad : ℕ) (input : List ℕ) (s : State) : Type 0 where
  pub words : length s.memory ≡ 4096
  pub lines : wrong ≡ false
  pub place : s.place ≤ length input
  pub count : s.count ≤ length s.log
  pub cp : register 0 s < 4096
  pub pp : register 2 s < 4096
  pub rem : register 6 s < 4096
  pub line : s.line < 2 ^ bits
  pub good : 2 ^ bits ≤ bad

abbrev pub Admitted : List ℕ → List ℕ → State → Type 0
Admitted store input s = AdmittedBy 6 (wrong_store store) (first_bad store) input s

-- Four tests in turn let a state through only where none holds.
tests_pass : (a b c d : Bool) (k : ℕ) → cond a (says 1) (cond b (says 2) (cond c (says 3) (cond d (record { number = 4; line = k }) (says 0)))) ≡ says 0
    → (a ≡ false) × (b ≡ false) × (c ≡ false) × (d ≡ false)
tests_pass true b c d k e = let z : ⊥ = omega (arith, ap (λ (x : Said). x.number) e) in absurd z
tests_pass false true c d k e = let z : ⊥ = omega (arith, ap (λ (x : Said). x.number) e) in absurd z
tests_pass false false true d k e = let z : ⊥ = omega (arith, ap (λ (x : Said). x.number) e) in absurd z
tests_pass false false false true k e = let z : ⊥ = omega (arith, ap (λ (x : Said). x.number) e) in absurd z
tests_pass false false false false k e = (refl, refl, refl, refl)

pub admitted_by : (bits : ℕ) (wrong : Bool) (bad : ℕ) (input : List ℕ) (s : State) → refusal_by bits wrong bad input s ≡ says 0 → AdmittedBy bits wrong bad input s
unfolding refusal_by
admitted_by bits wrong bad input s e =
    let a : Bool = not (eqb (length s.memory) 4096) in
    let p : Bool = ltb (length input) s.place in
    let q : Bool = ltb (length s.log) s.count in
    let u : Bool = ltb 4095 (register 0 s) in
    let v : Bool = ltb 4095 (register 2 s) in
    let w : Bool = ltb 4095 (register 6 s) in
    let l : Bool = ltb (2 ^ bits - 1) s.line in
    let t = tests_pass (a || wrong) (p || q) (u || v || w || l) (ltb bad (2 ^ bits)) bad e in
    let uvw : (u || v || w) ≡ false = (neither (u || v || w) l t.2).0 in
    let uv : (u || v) ≡ false = (neither (u || v) w uvw).0 in
    record {
      words = eqb-true (length s.memory) 4096 (not-false _ (neither a wrong t.0).0);
      lines = (neither a wrong t.0).1;
      place = ltb-false (length input) s.place (neither p q t.1).0;
      count = ltb-false (length s.log) s.count (neither p q t.1).1;
      cp = omega (arith, ltb-false 4095 (register 0 s) (neither u v uv).0);
      pp = omega (arith, ltb-false 4095 (register 2 s) (neither u v uv).1);
      rem = omega (arith, ltb-false 4095 (register 6 s) (neither (u || v) w uvw).1);
      line = omega (arith, pow_pos bits, ltb-false (2 ^ bits - 1) s.line (neither (u || v || w) l t.2).1);
      good = ltb-false bad (2 ^ bits) t.3;
    }

pub unrefused_by : (bits : ℕ) (wrong : Bool) (bad : ℕ) (input : List ℕ) (s : State) → AdmittedBy bits wrong bad input s → refusal_by bits wrong bad input s ≡ says 0
unfolding refusal_by
unrefused_by bits wrong bad input s a =
    rw (
      eq-eqb _ _ a.words,
      a.lines,
      le-ltb _ _ a.place,
      le-ltb _ _ a.count,
      le-ltb 4095 (register 0 s) (omega (arith, a.cp)),
      le-ltb 4095 (register 2 s) (omega (arith, a.pp)),
      le-ltb 4095 (register 6 s) (omega (arith, a.rem)),
      le-ltb (2 ^ bits - 1) s.line (omega (arith, a.line)),
      le-ltb _ _ a.good,
    )

-- With 64 control words.
pub admitted : (store input : List ℕ) (s : State) → refusal store input s ≡ says 0 → Admitted store input s
unfolding refusal
admitted store input s e = admitted_by 6 (wrong_store store) (first_bad store) input s e

pub unrefused : (store input : List ℕ) (s : State) → Admitted store input s → refusal store input s ≡ says 0
unfolding refusal
unrefused store input s a = unrefused_by 6 (wrong_store store) (first_bad store) input s a

-- The input place stays within the input.
record Placed (input : List ℕ) (r : Fetched) : Type 0 where
  within : r.place ≤ length input

next_placed : (input : List ℕ) (place : ℕ) → place ≤ length input → Placed input (next_input input place)
unfolding next_input
next_placed input place h = by (ltb place (length input)) refl
  where
    by : (waits : Bool) → ltb place (length input) ≡ waits → Placed input (cond waits (record { word = get_or input place 0; place = place + 1 }) (record { word = 0; place = place }))
    by true e = record { within = omega (arith, ltb-true place (length input) e) }
    by false e = record { within = h }

read_placed : (memory input : List ℕ) (place : ℕ) (room : Bool) (x : ℕ) → place ≤ length input → Placed input (read_at memory input place room x)
unfolding read_at
read_placed memory input place room x h = search (either (Placed input), next_placed) depth 9

transfer_placed : (rd wr : Bool) (input : List ℕ) (half : Half) (at : Found) → at.place ≤ length input → (transferred rd wr input half at).place ≤ length input
unfolding transferred read_cycle write_cycle waits completed_read completed_write
transfer_placed true wr input Nothing at h = h
transfer_placed true wr input Read at h = (read_placed at.memory input at.place _ at.rem h).within
transfer_placed true wr input Write at h = h
transfer_placed false true input Nothing at h = h
transfer_placed false true input Read at h = h
transfer_placed false true input Write at h = h
transfer_placed false false input half at h = h

-- A register that keeps 12 bits stays below 4,096 in a cycle; RDM is not one of them.
stays_low : (m : Fields) (value word : ℕ) (registers : List ℕ) (r : ℕ) → (r ≡ 7 → ⊥) → keeps r value < 4096 → get_or registers r 0 < 4096
    → get_or (set (stored m value registers) 7 word) r 0 < 4096
unfolding stored
stays_low m value word registers r other low h = rw (get_or-set_other (stored m value registers) 7 r word 0 other) (by (eqb m.hs 1))
  where
    at : Dec (m.s ≡ r) → Dec (r < length registers) → get_or (set registers m.s (keeps m.s value)) r 0 < 4096
    at (yes e) (yes l) = rw (e, get_or-set_same registers r (keeps r value) 0 l) low
    at (yes e) (no k) = rw (e, set_out registers r (keeps r value) (omega arith)) h
    at (no d) l = rw (get_or-set_other registers m.s r (keeps m.s value) 0 (λ q. d (sym q))) h

    by : (hs : Bool) → get_or (cond hs (set registers m.s (keeps m.s value)) registers) r 0 < 4096
    by true = at (ℕ_discrete m.s r) (dec_lt r (length registers))
    by false = h

-- What a good control word drives is admitted again.
driven_admitted : (bits : ℕ) (wrong : Bool) (bad : ℕ) (m : Fields) (input : List ℕ) (s : State) → m.end < 2 ^ bits → AdmittedBy bits wrong bad input s
    → AdmittedBy bits wrong bad input (driven bits m input s).next
unfolding driven transfer next_line
driven_admitted bits wrong bad m input s h a =
    let value : ℕ = result m s.registers in
    let at : Found = found (stored m value s.registers) s in
    let t : Transfer = transferred (eqb m.rd 1) (eqb m.wr 1) input s.half at in
    let e : left_in t ≡ after (sends (eqb m.rd 1) (eqb m.wr 1) s.half at) (found_in at) = transfer_leaves (eqb m.rd 1) (eqb m.wr 1) input s.half at in
    record {
      words = ap (λ (l : Left). length l.memory) e ∙ after_words (sends (eqb m.rd 1) (eqb m.wr 1) s.half at) (found_in at) ∙ a.words;
      lines = a.lines;
      place = transfer_placed (eqb m.rd 1) (eqb m.wr 1) input s.half at a.place;
      count = rw (← e) at (kept (sends (eqb m.rd 1) (eqb m.wr 1) s.half at) (found_in at) a.count).within;
      cp = stays_low m value t.rdm s.registers 0 (λ q. omega arith) (unfold keeps in (cut value)) a.cp;
      pp = stays_low m value t.rdm s.registers 2 (λ q. omega arith) (unfold keeps in (cut value)) a.pp;
      rem = stays_low m value t.rdm s.registers 6 (λ q. omega arith) (unfold keeps in (cut value)) a.rem;
      line = target_within bits m _ s.line h;
      good = a.good;
    }
  where
    cut : (n : ℕ) → n % 4096 < 4096
    cut n = omega arith

-- And so is what a cycle by such a word leaves.
pub cycle_admitted_by : (bits : ℕ) (wrong : Bool) (bad : ℕ) (m : Fields) (input : List ℕ) (s : State) → m.end < 2 ^ bits → AdmittedBy bits wrong bad input s
    → AdmittedBy bits wrong bad input (cycle_on bits m input s).next
unfolding cycle_on
cycle_admitted_by bits wrong bad m input s h a =
    settled_keeps (AdmittedBy bits wrong bad input) s (driven bits m input s) a (driven_admitted bits wrong bad m input s h a)

cycle_admitted : (store input : List ℕ) (s : State) → Admitted store input s → Admitted store input (cycle store input s).next
cycle_admitted store input s a =
    cycle_admitted_by 6 (wrong_store store) (first_bad store) (fields_of (control_word store s.line)) input s (fields_within (control_word store s.line)).end a

-- A run from an admitted state ends in an admitted state.
pub cycles_admitted : (store input : List ℕ) (n : ℕ) (s : State) → Admitted store input s → Admitted store input (cycles store input n s).state
unfolding cycles
cycles_admitted store input n s a = T.keeps (cycle store input) (Admitted store input) (cycle_admitted store input) n s a
