-- Laws of the control word: fields and word turn back into each other, and the normal form is what its name says.
-- The turning back is the law of `word` over any layout, at this one; the normal form goes by what is without use.
use Prim.Native.Nat.{ℕ, suc, ◌/◌, ◌^◌, ◌≤◌, ◌<◌}
use mathlib.Core.Path.{◌≡◌, refl, sym, ◌∙◌}
use mathlib.Core.Bool.{Bool, true, false, cond, not, ◌&&◌, ◌||◌}
use native.Mathlib.Nat.{div-eq_of_lt, zero-add}
use native.Mathlib.Omega.{arith}
use lib.ListN.{get_or, drop}
use lib.Pow.{pow_mono}
use lib.Dec.{ltb, eqb}
use borrow.Author.Tests.{lt-ltb, ltb-true, eqb-true}
use Rattle.word.specs.Number.{field, kept, joined, total, widths}
use Rattle.word.proofs.Laws.{kept_below, kept_whole, joined_below, joined_at, empty, joined_taken, taken}
use Rattle.word.proofs.Tests.{both}
use Rattle.microword.specs.Microword.{Layout, widths_of, bits_of, fields_by, layout_by, word_by, bad_by, narrow, fields_of, word_of, bad_word, idle, binary, normal_fields, normal_form, clear, unused_clear, is_normal}
use Rattle.microword.specs.Code.Within.{WithinBy, Within}
use Rattle.microword.specs.declared.Fields.{Fields}

-- The fields of a word are below their bounds.
pub within_by : (l : Layout) (w : ℕ) → WithinBy l (fields_by l w)
unfolding fields_by
within_by l w =
    record {
      a = kept_below l.register_bits _;
      b = kept_below l.register_bits _;
      s = kept_below l.register_bits _;
      hs = kept_below 1 _;
      f = kept_below 3 _;
      rd = kept_below 1 _;
      wr = kept_below 1 _;
      sq = kept_below 2 _;
      end = kept_below l.line_bits _;
    }

-- For every layout of at most 32 bits.
module _ (l : Layout) (fits : bits_of l ≤ 32) where
  -- Placing what was taken gives the word back.
  pub word_back_by : (w : ℕ) → w < 2 ^ bits_of l → word_by l (fields_by l w) ≡ w
  unfolding word_by fields_by taken
  word_back_by w h =
      let z : w / 2 ^ bits_of l ≡ 0 = div-eq_of_lt h in
      rw z at (joined_taken (widths_of l) w (omega (arith, pow_mono fits)))

  -- Taking what was placed gives the fields back.
  pub fields_back_by : (m : Fields) → WithinBy l m → fields_by l (word_by l m) ≡ m
  unfolding word_by fields_by total widths
  fields_back_by m v =
      rw (
        at 0 (omega arith) ∙ kept_whole l.register_bits v.a,
        at 1 (omega arith) ∙ kept_whole l.register_bits v.b,
        at 2 (omega arith) ∙ kept_whole l.register_bits v.s,
        at 3 (omega arith) ∙ kept_whole 1 v.hs,
        at 4 (omega arith) ∙ kept_whole 3 v.f,
        at 5 (omega arith) ∙ kept_whole 1 v.rd,
        at 6 (omega arith) ∙ kept_whole 1 v.wr,
        at 7 (omega arith) ∙ kept_whole 2 v.sq,
        at 8 (omega arith) ∙ kept_whole l.line_bits v.end,
      )
    where
      at : (i : ℕ) → i < 9
          → field (total (drop (suc i) (layout_by l m))) (get_or (layout_by l m) i empty).width (joined 0 (layout_by l m)) ≡ kept (get_or (layout_by l m) i empty).width (get_or (layout_by l m) i empty).value
      at i h = joined_at (layout_by l m) i 0 0 h (omega arith) (omega arith)

  -- A word made of fields has that many bits.
  pub word_below_by : (m : Fields) → word_by l m < 2 ^ bits_of l
  unfolding word_by total widths
  word_below_by m = rw zero-add at (joined_below (layout_by l m) 0 0 (omega arith) (omega arith))

-- At 23 bits.
pub bad_by_lem : (w : ℕ) → bad_word w ≡ bad_by narrow w
unfolding bad_word bad_by fields_of fields_by widths
bad_by_lem w = refl

pub fields_within : (w : ℕ) → Within (fields_of w)
unfolding fields_of
fields_within w = within_by narrow w

pub word_back : (w : ℕ) → w < 8388608 → word_of (fields_of w) ≡ w
unfolding word_of fields_of
word_back w h = word_back_by narrow (omega arith) w h

pub fields_back : (m : Fields) → Within m → fields_of (word_of m) ≡ m
unfolding word_of fields_of
fields_back m v = fields_back_by narrow (omega arith) m v

pub word_below : (m : Fields) → word_of m < 8388608
unfolding word_of widths
word_below m = word_below_by narrow (omega arith) m

-- A choice between 0 and a number stays below a bound.
cleared : (unused : Bool) {value bound : ℕ} → 0 < bound → value < bound → cond unused 0 value < bound
cleared true h l = h
cleared false h l = l

normal_within : (m : Fields) → Within m → Within (normal_fields m)
unfolding normal_fields
normal_within m v =
    record {
      a = cleared (idle m) (omega arith) v.a;
      b = cleared (idle m || not (binary m)) (omega arith) v.b;
      s = cleared (eqb m.hs 0) (omega arith) v.s;
      hs = v.hs;
      f = cleared (idle m) (omega arith) v.f;
      rd = v.rd;
      wr = v.wr;
      sq = v.sq;
      end = cleared (eqb m.sq 0) (omega arith) v.end;
    }

-- The fields of a word's normal form.
pub normal_fields_lem : (w : ℕ) → fields_of (normal_form w) ≡ normal_fields (fields_of w)
unfolding normal_form
normal_fields_lem w = fields_back (normal_fields (fields_of w)) (normal_within (fields_of w) (fields_within w))

-- A field that was cleared is clear.
is_clear : (unused : Bool) (value : ℕ) → clear unused (cond unused 0 value) ≡ true
is_clear true value = refl
is_clear false value = refl

-- Where nothing asks for the result, B is without use whatever F is; else F stands.
b_clear : (nothing : Bool) (f b : ℕ)
    → clear (nothing || not (eqb (cond nothing 0 f) 3 || eqb (cond nothing 0 f) 4 || eqb (cond nothing 0 f) 5))
    (cond (nothing || not (eqb f 3 || eqb f 4 || eqb f 5)) 0 b) ≡ true
b_clear true f b = refl
b_clear false f b = is_clear (not (eqb f 3 || eqb f 4 || eqb f 5)) b

unused_clear_lem : (m : Fields) → unused_clear (normal_fields m) ≡ true
unfolding unused_clear normal_fields idle binary
unused_clear_lem m =
    let nothing : Bool = eqb m.hs 0 && (eqb m.sq 0 || eqb m.sq 3) in
    rw (
      b_clear nothing m.f m.b,
      is_clear (eqb m.hs 0) m.s,
      is_clear (eqb m.sq 0) m.end,
      is_clear nothing m.a,
      is_clear nothing m.f,
    )

-- The normal form is normal.
pub form_is_normal : (w : ℕ) → is_normal (normal_form w) ≡ true
unfolding is_normal normal_form
form_is_normal w =
    let m : Fields = normal_fields (fields_of w) in
    rw (lt-ltb _ _ (word_below m), fields_back m (normal_within (fields_of w) (fields_within w))) (unused_clear_lem (fields_of w))

-- Clearing what is clear changes nothing.
clear_same : (unused : Bool) (value : ℕ) → clear unused value ≡ true → cond unused 0 value ≡ value
clear_same true value e = sym (eqb-true value 0 e)
clear_same false value e = refl

clear_fields : (m : Fields) → unused_clear m ≡ true → normal_fields m ≡ m
unfolding unused_clear normal_fields
clear_fields m e =
    let b : Bool = clear (idle m || not (binary m)) m.b in
    let s : Bool = clear (eqb m.hs 0) m.s in
    let end : Bool = clear (eqb m.sq 0) m.end in
    let a : Bool = clear (idle m) m.a in
    let f : Bool = clear (idle m) m.f in
    let e₄ : (b && s && end && a) ≡ true = (both (b && s && end && a) f e).0 in
    let e₃ : (b && s && end) ≡ true = (both (b && s && end) a e₄).0 in
    let e₂ : (b && s) ≡ true = (both (b && s) end e₃).0 in
    rw (
      clear_same (idle m) m.a (both (b && s && end) a e₄).1,
      clear_same (idle m || not (binary m)) m.b (both b s e₂).0,
      clear_same (eqb m.hs 0) m.s (both b s e₂).1,
      clear_same (idle m) m.f (both (b && s && end && a) f e).1,
      clear_same (eqb m.sq 0) m.end (both (b && s) end e₃).1,
    )

-- The normal form is the word itself exactly when the word is normal.
pub normal_same : (w : ℕ) → is_normal w ≡ true → normal_form w ≡ w
unfolding is_normal normal_form
normal_same w e =
    let short : w < 8388608 = ltb-true w 8388608 (both (ltb w 8388608) (unused_clear (fields_of w)) e).0 in
    rw (clear_fields (fields_of w) (both (ltb w 8388608) (unused_clear (fields_of w)) e).1) (word_back w short)

pub same_normal : (w : ℕ) → normal_form w ≡ w → is_normal w ≡ true
same_normal w e = rw e at (form_is_normal w)

-- The normal form's normal form is itself.
pub normal_again : (w : ℕ) → normal_form (normal_form w) ≡ normal_form w
normal_again w = normal_same (normal_form w) (form_is_normal w)
