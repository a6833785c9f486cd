-- Laws of pieces, of a line's length, and of fields without use.
use Prim.Native.Nat.{ℕ, zero, suc, ◌+◌, ◌/◌, ◌%◌, ◌≤◌, ◌<◌}
use mathlib.Core.Path.{◌≡◌, refl, sym, ap, ap₂, ◌∙◌}
use mathlib.Core.Bool.{Bool, true, false, true≢false, cond, not, ◌||◌}
use mathlib.Core.List.{List, [], ◌∷◌, ◌++◌, append-nil, append_assoc}
use native.Mathlib.Numerals.{add-one}
use native.Mathlib.Omega.{arith}
use borrow.Author.Tests.{le-ltb}
use lib.Dec.{eqb, ltb}
use lib.ListN.{length, get_or, take, drop, length-append, drop_of_length-le}
use lib.Seq.{drop-cons}
use Rattle.microword.specs.Microword.{fields_of, normal_fields, idle, binary}
use Rattle.microword.specs.declared.Fields.{Fields}
use Rattle.microtext.specs.Listing.{destination, operation_part, formulas, formula, operation, jump, part, line, transfer_part, register_name, jump_texts}
use Rattle.part.specs.Grammar.{registers}
use Rattle.text.specs.Text.{bytes}
use Rattle.text.specs.Laid.{Laid, Wrote}
use Rattle.text.proofs.Laid.{wrote, laid_stored}
use Rattle.text.specs.Decimal.{short_decimal}
use Rattle.microline.specs.Line.{line_length, laid_line}
use Rattle.std.specs.Borrow.{Bor}
use Rattle.microline.specs.Code.Pieces.{spelt}

-- One piece more.
pub spelt_more : (pieces : List (Bor (List ℕ))) (i : ℕ) (none : Bor (List ℕ)) → i < length pieces
    → spelt (take (i + 1) pieces) ≡ spelt (take i pieces) ++ (get_or pieces i none).now
spelt_more pieces i none h = rw add-one (go pieces i h)
  where
    go : (pieces : List (Bor (List ℕ))) (i : ℕ) → i < length pieces → spelt (take (suc i) pieces) ≡ spelt (take i pieces) ++ (get_or pieces i none).now
    go [] i h = absurd (omega arith)
    go (piece ∷ pieces) zero h = append-nil piece.now
    go (piece ∷ pieces) (suc i) h = rw (go pieces i (omega arith)) (sym (append_assoc piece.now (spelt (take i pieces)) (get_or pieces i none).now))

-- Pieces taken apart, one after the other.
pub spelt_at : (pieces : List (Bor (List ℕ))) (i : ℕ) (none : Bor (List ℕ)) → i < length pieces
    → spelt (drop i pieces) ≡ (get_or pieces i none).now ++ spelt (drop (suc i) pieces)
spelt_at pieces i none h = rw (drop-cons pieces i none h)

pub spelt_end : (pieces : List (Bor (List ℕ))) (i : ℕ) → length pieces ≤ i → spelt (drop i pieces) ≡ []
spelt_end pieces i h = rw (drop_of_length-le pieces h)

abbrev no_piece : Bor (List ℕ)
no_piece = record { ref_ptr = (0, 0); now = [] }

abbrev piece_at : List (Bor (List ℕ)) → ℕ → List ℕ
piece_at p i = (get_or p i no_piece).now

pub two_spelt : (p : List (Bor (List ℕ))) (rest : List ℕ) → length p ≡ 2 → piece_at p 0 ++ (piece_at p 1 ++ rest) ≡ spelt p ++ rest
two_spelt p rest h =
    rw (spelt_at p 0 no_piece (omega arith), spelt_at p 1 no_piece (omega arith), spelt_end p 2 (omega arith))
    (simp (append_assoc, append-nil))

three_spelt : (p : List (Bor (List ℕ))) (rest : List ℕ) → length p ≡ 3
    → piece_at p 0 ++ (piece_at p 1 ++ (piece_at p 2 ++ rest)) ≡ spelt p ++ rest
three_spelt p rest h =
    rw (spelt_at p 0 no_piece (omega arith), spelt_at p 1 no_piece (omega arith), spelt_at p 2 no_piece (omega arith), spelt_end p 3 (omega arith))
    (simp (append_assoc, append-nil))

regrouped : (to computed : List ℕ) → bytes " " ++ (to ++ (bytes ":=" ++ (computed ++ bytes ";"))) ≡ bytes " " ++ (to ++ bytes ":=" ++ computed) ++ bytes ";"
regrouped to computed = simp append_assoc

-- An operation of where it stores and the formula's pieces.
pub operation_spelt : (m : Fields) (to : List ℕ) (x : List (Bor (List ℕ))) → idle m ≡ false → to ≡ destination m → length x ≡ 3 → spelt x ≡ formula m
    → bytes " " ++ (to ++ (bytes ":=" ++ (piece_at x 0 ++ (piece_at x 1 ++ (piece_at x 2 ++ bytes ";"))))) ≡ operation_part m
unfolding operation
operation_spelt m to x busy stores three computes = rw (three_spelt x (bytes ";") three, stores, computes, busy) (regrouped (destination m) (formula m))

pub seven_spelt : (p : List (Bor (List ℕ))) (rest : List ℕ) → length p ≡ 7
    → piece_at p 0 ++ (piece_at p 1 ++ (piece_at p 2 ++ (piece_at p 3 ++ (piece_at p 4 ++ (piece_at p 5 ++ (piece_at p 6 ++ rest)))))) ≡ spelt p ++ rest
seven_spelt p rest h =
    rw (
      spelt_at p 0 no_piece (omega arith),
      spelt_at p 1 no_piece (omega arith),
      spelt_at p 2 no_piece (omega arith),
      spelt_at p 3 no_piece (omega arith),
      spelt_at p 4 no_piece (omega arith),
      spelt_at p 5 no_piece (omega arith),
      spelt_at p 6 no_piece (omega arith),
      spelt_end p 7 (omega arith),
    )
    (simp (append_assoc, append-nil))

pub spelt_le : (pieces : List (Bor (List ℕ))) (i : ℕ) → length (spelt (take i pieces)) ≤ length (spelt pieces)
spelt_le [] zero = omega arith
spelt_le [] (suc i) = omega arith
spelt_le (piece ∷ pieces) zero = omega arith
spelt_le (piece ∷ pieces) (suc i) = simp length-append (omega (arith, spelt_le pieces i))

-- No text is longer than `most`.
unfoldable Short : ℕ → List (List ℕ) → Type 0
Short most [] = 0 ≤ most
Short most (text ∷ texts) = (length text ≤ most) × Short most texts

short_at : (most : ℕ) (texts : List (List ℕ)) (k : ℕ) → Short most texts → length (get_or texts k []) ≤ most
unfolding Short
short_at most [] k s = s
short_at most (text ∷ texts) zero s = s.0
short_at most (text ∷ texts) (suc k) s = short_at most texts k s.1

-- Lengths: of a register, of what F computes, of a number, of a part.
register_le : (r : ℕ) → length (register_name r) ≤ 4
unfolding Short
register_le r = short_at 4 registers r (omega arith)

formula_le : (m : Fields) → length (formula m) ≤ 9
unfolding formulas Short
formula_le m =
    short_at 9 (formulas (register_name m.a) (register_name m.b)) m.f
    (simp length-append (omega (arith, register_le m.a, register_le m.b)))

decimal_le : (k : ℕ) → length (short_decimal k) ≤ 2
unfolding short_decimal
decimal_le k = go (ltb k 10)
  where
    go : (b : Bool) → length (cond b ((48 + k) ∷ []) ((48 + k / 10) ∷ (48 + k % 10) ∷ [])) ≤ 2
    go true = omega arith
    go false = omega arith

cond_le : (b : Bool) (s t : List ℕ) (n : ℕ) → length s ≤ n → length t ≤ n → length (cond b s t) ≤ n
cond_le true s t n p q = p
cond_le false s t n p q = q

part_le : (b : Bool) (text : List ℕ) → length (part b text) ≤ length text + 2
part_le b text = cond_le b (bytes " " ++ text ++ bytes ";") [] (length text + 2) (simp length-append (omega arith)) (omega arith)

operation_le : (m : Fields) → length (operation m) ≤ 15
unfolding operation
operation_le m =
    simp length-append
    (omega (arith, cond_le (eqb m.hs 0) (bytes "alu") (register_name m.s) 4 (omega arith) (register_le m.s), formula_le m))

jump_le : (m : Fields) → length (jump m) ≤ 17
unfolding jump jump_texts Short
jump_le m = simp length-append (omega (arith, short_at 15 jump_texts m.sq (omega arith), decimal_le m.end))

-- A line has at most 44 bytes.
pub line_le : (number : ℕ) (m : Fields) → length (line number m) ≤ 44
unfolding line
line_le number m =
    let t : List ℕ = cond (eqb m.rd 1) (bytes "rd") (bytes "wr") in
    simp length-append
    (omega (
      arith,
      decimal_le number,
      part_le (not (idle m)) (operation m),
      operation_le m,
      part_le (eqb m.rd 1 || eqb m.wr 1) t,
      cond_le (eqb m.rd 1) (bytes "rd") (bytes "wr") 2 (omega arith) (omega arith),
      part_le (not (eqb m.sq 0)) (jump m),
      jump_le m,
    ))

-- Fields without use do not show: the line of a word's fields is that of its normal form's.
destination_same : (unused : Bool) (s : ℕ) → cond unused (bytes "alu") (register_name (cond unused 0 s)) ≡ cond unused (bytes "alu") (register_name s)
destination_same true s = refl
destination_same false s = refl

formula_same : (used : Bool) (f : ℕ) (a : List ℕ) (b : ℕ) → f < 8 → (eqb f 3 || eqb f 4 || eqb f 5) ≡ used
    → get_or (formulas a (register_name (cond (not used) 0 b))) f [] ≡ get_or (formulas a (register_name b)) f []
unfolding formulas
formula_same true f a b h e = refl
formula_same false zero a b h e = refl
formula_same false (suc zero) a b h e = refl
formula_same false (suc (suc zero)) a b h e = refl
formula_same false (suc (suc (suc zero))) a b h e = absurd (true≢false e)
formula_same false (suc (suc (suc (suc zero)))) a b h e = absurd (true≢false e)
formula_same false (suc (suc (suc (suc (suc zero))))) a b h e = absurd (true≢false e)
formula_same false (suc (suc (suc (suc (suc (suc zero)))))) a b h e = refl
formula_same false (suc (suc (suc (suc (suc (suc (suc zero))))))) a b h e = refl
formula_same false (suc (suc (suc (suc (suc (suc (suc (suc f)))))))) a b h e = absurd (omega arith)

operation_same : (unused used : Bool) (hs f a b s : ℕ) → f < 8 → (eqb f 3 || eqb f 4 || eqb f 5) ≡ used
    → part (not unused) (cond (eqb hs 0) (bytes "alu") (register_name (cond (eqb hs 0) 0 s)) ++ bytes ":="
    ++ get_or (formulas (register_name (cond unused 0 a)) (register_name (cond (unused || not used) 0 b))) (cond unused 0 f) [])
    ≡ part (not unused) (cond (eqb hs 0) (bytes "alu") (register_name s) ++ bytes ":=" ++ get_or (formulas (register_name a) (register_name b)) f [])
operation_same true used hs f a b s h e = refl
operation_same false used hs f a b s h e =
    ap₂ (λ (d : List ℕ) (t : List ℕ). part true (d ++ bytes ":=" ++ t)) (destination_same (eqb hs 0) s) (formula_same used f (register_name a) b h e)

jump_same : (unused : Bool) (words : List ℕ) (end : ℕ) → part (not unused) (words ++ short_decimal (cond unused 0 end)) ≡ part (not unused) (words ++ short_decimal end)
jump_same true words end = refl
jump_same false words end = refl

pub line_normal : (number : ℕ) (m : Fields) → m.f < 8 → line number (normal_fields m) ≡ line number m
unfolding line operation jump normal_fields idle binary
line_normal number m h =
    let o = operation_same (idle m) (binary m) m.hs m.f m.a m.b m.s h refl in
    let j = jump_same (eqb m.sq 0) (get_or jump_texts m.sq []) m.end in
    ap₂ (λ (x : List ℕ) (y : List ℕ). short_decimal number ++ bytes ":" ++ x ++ transfer_part m ++ y ++ 10 ∷ []) o j

-- A line that was put is laid; a smaller room, or one for a number above 63, is as found.
pub laid_line_lem : {room left : List ℕ} {next : ℕ} (number word : ℕ) → 44 ≤ length room → number ≤ 63 → Wrote room 0 (line number (fields_of word)) left next
    → laid_line room number word ≡ record { room = left; next = next }
unfolding laid_line
laid_line_lem number word wide below w =
    rw (le-ltb _ _ wide, le-ltb _ _ below) (laid_stored (omega (arith, line_le number (fields_of word))) w)

-- What a line's promise says where a line fits.
pub wrote_line : {room left : List ℕ} {next : ℕ} (number word : ℕ) → 44 ≤ length room → number ≤ 63 → laid_line room number word ≡ record { room = left; next = next }
    → Wrote room 0 (line number (fields_of word)) left next
unfolding laid_line
wrote_line number word wide below e =
    wrote (omega (arith, line_le number (fields_of word))) (rw (le-ltb _ _ wide, le-ltb _ _ below) at e)

-- What a length's promise says of a line's number.
pub length_of_line : {n : ℕ} (number word : ℕ) → number ≤ 63 → n ≡ line_length number word → n ≡ length (line number (fields_of word))
unfolding line_length
length_of_line number word below e = rw (le-ltb _ _ below) at e

-- No second answer: the promise fixes the room and where the line ends.
pub only : (room : List ℕ) (number word : ℕ) (left left' : List ℕ) (r r' : ℕ) → laid_line room number word ≡ record { room = left; next = r }
    → laid_line room number word ≡ record { room = left'; next = r' } → (r ≡ r') × (left ≡ left')
only room number word left left' r r' p q =
    let same = sym p ∙ q in
    (ap (λ (l : Laid). l.next) same, ap (λ (l : Laid). l.room) same)
