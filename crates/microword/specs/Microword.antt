-- The control word of 23 bits (01, Registers and microwords; Micro text and images): its fields, bad words, the normal form.
use Rattle.std.specs.Prelude.{ℕ, suc, ◌^◌, Bool, cond, not, ◌&&◌, ◌||◌, List, [], ◌∷◌, get_or, drop, leb, ltb, eqb}
use Rattle.word.specs.Number.{Field, field, joined, widths}
use Rattle.microword.specs.declared.Fields.{Fields}

-- What differs between machines: the bits of a register's number and those of a control line.
pub record Layout : Type 0 where
  pub register_bits : ℕ
  pub line_bits : ℕ

-- The widths of the fields, highest first: A, B, S, HS 1, F 3, RD 1, WR 1, SQ 2, END.
abbrev pub widths_of : Layout → List ℕ
widths_of l = l.register_bits ∷ l.register_bits ∷ l.register_bits ∷ 1 ∷ 3 ∷ 1 ∷ 1 ∷ 2 ∷ l.line_bits ∷ []

-- The bits of a word together.
abbrev pub bits_of : Layout → ℕ
bits_of l = widths (widths_of l)

-- The i-th field, above those that stand behind it.
abbrev pub field_at : Layout → ℕ → ℕ → ℕ
field_at l i w = field (widths (drop (suc i) (widths_of l))) (get_or (widths_of l) i 0) w

unfoldable pub fields_by : Layout → ℕ → Fields
fields_by l w =
    record {
      a = field_at l 0 w;
      b = field_at l 1 w;
      s = field_at l 2 w;
      hs = field_at l 3 w;
      f = field_at l 4 w;
      rd = field_at l 5 w;
      wr = field_at l 6 w;
      sq = field_at l 7 w;
      end = field_at l 8 w;
    }

abbrev pub wide : ℕ → ℕ → Field
wide width value = record { width = width; value = value }

-- The fields with their widths.
abbrev pub layout_by : Layout → Fields → List Field
layout_by l m =
    wide l.register_bits m.a ∷ wide l.register_bits m.b ∷ wide l.register_bits m.s ∷ wide 1 m.hs ∷ wide 3 m.f ∷ wide 1 m.rd ∷ wide 1 m.wr
    ∷ wide 2 m.sq ∷ wide l.line_bits m.end ∷ []

unfoldable pub word_by : Layout → Fields → ℕ
word_by l m = joined 0 (layout_by l m)

-- RD and WR both 1.
abbrev pub clash : Fields → Bool
clash m = eqb m.rd 1 && eqb m.wr 1

-- Answer 4: a control word of more bits, or with RD and WR both 1.
unfoldable pub bad_by : Layout → ℕ → Bool
bad_by l w = leb (2 ^ bits_of l) w || clash (fields_by l w)

-- Highest field first: A 3, B 3, S 3, HS 1, F 3, RD 1, WR 1, SQ 2, END 6.
abbrev pub narrow : Layout
narrow = record { register_bits = 3; line_bits = 6 }

-- END is bits 5 to 0 and A is bits 22 to 20.
unfoldable pub fields_of : ℕ → Fields
unfolding fields_by widths
fields_of w = fields_by narrow w

unfoldable pub word_of : Fields → ℕ
unfolding word_by
word_of m = word_by narrow m

-- Answer 4: a control word of 8,388,608 or more, or with RD and WR both 1.
unfoldable pub bad_word : ℕ → Bool
bad_word w = leb 8388608 w || clash (fields_of w)

-- HS is 0 and SQ is 0 or 3: nothing asks for the result.
unfoldable pub idle : Fields → Bool
idle m = eqb m.hs 0 && (eqb m.sq 0 || eqb m.sq 3)

-- F is 3, 4 or 5.
unfoldable pub binary : Fields → Bool
binary m = eqb m.f 3 || eqb m.f 4 || eqb m.f 5

-- Fields without use: B unless F is 3, 4 or 5; S unless HS; END unless SQ is not 0; A, B and F where HS is 0 and SQ is 0 or 3.
unfoldable pub normal_fields : Fields → Fields
normal_fields m =
    record {
      a = cond (idle m) 0 m.a;
      b = cond (idle m || not (binary m)) 0 m.b;
      s = cond (eqb m.hs 0) 0 m.s;
      hs = m.hs;
      f = cond (idle m) 0 m.f;
      rd = m.rd;
      wr = m.wr;
      sq = m.sq;
      end = cond (eqb m.sq 0) 0 m.end;
    }

-- The normal form: the same word with those fields 0.
unfoldable pub normal_form : ℕ → ℕ
normal_form w = word_of (normal_fields (fields_of w))

-- 0 wherever the field is without use.
abbrev pub clear : Bool → ℕ → Bool
clear unused value = not unused || eqb value 0

unfoldable pub unused_clear : Fields → Bool
unused_clear m =
    clear (idle m || not (binary m)) m.b
    && clear (eqb m.hs 0) m.s
    && clear (eqb m.sq 0) m.end
    && clear (idle m) m.a
    && clear (idle m) m.f

-- A word is normal when fields without use are 0.
unfoldable pub is_normal : ℕ → Bool
is_normal w = ltb w 8388608 && unused_clear (fields_of w)
