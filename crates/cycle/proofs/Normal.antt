-- A word and its normal form give the same cycle from every state (01, Micro text and images): what a field without use holds is never asked.
use Prim.Native.Nat.{ℕ, ◌<◌}
use mathlib.Core.Path.{◌≡◌, refl, sym, ◌∙◌}
use mathlib.Core.Bool.{Bool, true, false, cond, not, ◌&&◌, ◌||◌, true≢false}
use mathlib.Core.List.{List}
use lib.ListN.{get_or, set}
use lib.Dec.{eqb}
use borrow.Author.Tests.{eqb-true}
use Rattle.word.proofs.Tests.{both}
use Rattle.datapath.specs.Result.{alu, negative, is_zero, jumps, keeps}
use Rattle.microword.specs.declared.Fields.{Fields}
use Rattle.microword.specs.Microword.{fields_of, idle, binary, normal_fields, normal_form}
use Rattle.microword.proofs.Laws.{fields_within, normal_fields_lem}
use Rattle.cycle.specs.Cycle.{State, result, stored, transfer, target, next_line, driven, cycle_on, cycle_of}

-- F other than 3, 4 and 5 does not ask for B.
unary : (f a b b' : ℕ) → (eqb f 3 || eqb f 4 || eqb f 5) ≡ false → alu f a b ≡ alu f a b'
unfolding alu
unary f a b b' e = by (eqb f 3) (eqb f 4) (eqb f 5) refl refl refl e
  where
    by : (three four five : Bool) → eqb f 3 ≡ three → eqb f 4 ≡ four → eqb f 5 ≡ five → (three || four || five) ≡ false → alu f a b ≡ alu f a b'
    by true four five p q r e = absurd (true≢false e)
    by false true five p q r e = absurd (true≢false e)
    by false false true p q r e = absurd (true≢false e)
    by false false false p q r e = rw (p, q, r)

-- Where something asks for the result, it is the same.
same_result : (m : Fields) (registers : List ℕ) → idle m ≡ false → result (normal_fields m) registers ≡ result m registers
unfolding result normal_fields
same_result m registers e = rw e (by (binary m) refl)
  where
    by : (two : Bool) → binary m ≡ two → alu m.f (get_or registers m.a 0) (get_or registers (cond (not two) 0 m.b) 0) ≡ alu m.f (get_or registers m.a 0) (get_or registers m.b 0)
    by true b = refl
    by false b = unary m.f _ _ _ (unfold binary in b)

-- A value is stored where HS is 1, and there S stands.
same_stored : (m : Fields) (value : ℕ) (registers : List ℕ) → m.hs < 2 → stored (normal_fields m) value registers ≡ stored m value registers
unfolding stored normal_fields
same_stored m value registers h = by (eqb m.hs 0) refl
  where
    by : (none : Bool) → eqb m.hs 0 ≡ none
        → cond (eqb m.hs 1) (set registers (cond none 0 m.s) (keeps (cond none 0 m.s) value)) registers
        ≡ cond (eqb m.hs 1) (set registers m.s (keeps m.s value)) registers
    by true e = let z : m.hs ≡ 0 = eqb-true m.hs 0 e in rw z
    by false e = refl

-- Where SQ is 0 no jump asks for END, and else END stands.
same_line : (bits : ℕ) (m : Fields) (value line : ℕ) → next_line bits (normal_fields m) value line ≡ next_line bits m value line
unfolding next_line target jumps normal_fields
same_line bits m value line = by (eqb m.sq 0) refl
  where
    by : (none : Bool) → eqb m.sq 0 ≡ none
        → target bits (record { a = 0; b = 0; s = 0; hs = 0; f = 0; rd = 0; wr = 0; sq = 0; end = cond none 0 m.end }) (jumps m.sq (negative value) (is_zero value)) line
        ≡ target bits m (jumps m.sq (negative value) (is_zero value)) line
    by true e = rw e
    by false e = refl

-- Where nothing asks for the result, any value gives the same store and the same line.
module _ (m : Fields) (quiet : idle m ≡ true) where
  no_store : eqb m.hs 1 ≡ false
  no_store = let z : m.hs ≡ 0 = eqb-true m.hs 0 (both (eqb m.hs 0) (eqb m.sq 0 || eqb m.sq 3) (unfold idle in quiet)).0 in rw z

  idle_stored : (value value' : ℕ) (registers : List ℕ) → stored m value registers ≡ stored m value' registers
  unfolding stored
  idle_stored value value' registers = rw no_store

  idle_line : (bits value value' line : ℕ) → next_line bits m value line ≡ next_line bits m value' line
  unfolding next_line jumps
  idle_line bits value value' line = by (eqb m.hs 0) (eqb m.sq 0) (eqb m.sq 3) refl refl (unfold idle in quiet)
    where
      by : (off none all : Bool) → eqb m.sq 0 ≡ none → eqb m.sq 3 ≡ all → (off && (none || all)) ≡ true
          → target bits m (jumps m.sq (negative value) (is_zero value)) line ≡ target bits m (jumps m.sq (negative value') (is_zero value')) line
      by false none all p q e = absurd (true≢false (sym e))
      by true true all p q e = rw p
      by true false true p q e = let z : m.sq ≡ 3 = eqb-true m.sq 3 q in rw z
      by true false false p q e = absurd (true≢false (sym e))

same_driven : (bits : ℕ) (m : Fields) → m.hs < 2 → (input : List ℕ) (s : State) (quiet : Bool) → idle m ≡ quiet → driven bits (normal_fields m) input s ≡ driven bits m input s
unfolding driven
same_driven bits m h input s quiet q =
    let value : ℕ = result m s.registers in
    let value' : ℕ = result (normal_fields m) s.registers in
    let kept : stored (normal_fields m) value' s.registers ≡ stored m value s.registers =
    same_stored m value' s.registers h ∙ stores quiet q in
    let line : next_line bits (normal_fields m) value' s.line ≡ next_line bits m value s.line =
    same_line bits m value' s.line ∙ goes quiet q in
    rw (kept, line) (unfold transfer normal_fields in refl)
  where
    stores : (quiet : Bool) → idle m ≡ quiet → stored m (result (normal_fields m) s.registers) s.registers ≡ stored m (result m s.registers) s.registers
    stores true q = idle_stored m q _ _ s.registers
    stores false q = rw (same_result m s.registers q)

    goes : (quiet : Bool) → idle m ≡ quiet → next_line bits m (result (normal_fields m) s.registers) s.line ≡ next_line bits m (result m s.registers) s.line
    goes true q = idle_line m q bits _ _ s.line
    goes false q = rw (same_result m s.registers q)

pub same_cycle : (w : ℕ) (input : List ℕ) (s : State) → cycle_of (normal_form w) input s ≡ cycle_of w input s
unfolding cycle_on
same_cycle w input s = rw (normal_fields_lem w, same_driven 6 (fields_of w) (fields_within w).hs input s (idle (fields_of w)) refl)
