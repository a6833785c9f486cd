-- Going along a part token by token comes to the part that its tokens are: at each stage, `rest` says what the tokens to come make of
-- what has been read, and one token more leaves that unchanged.
use Prim.Native.Nat.{ℕ, ◌<◌}
use mathlib.Core.Path.{◌≡◌, refl, sym, ap, ◌∙◌}
use mathlib.Core.Bool.{Bool, true, false, cond, ◌&&◌, true≢false}
use mathlib.Core.List.{List, [], ◌∷◌}
use lib.Dec.{eqb}
use Rattle.std.specs.Prelude.{Option, Some, None}
use Rattle.std.specs.Option.{option_map}
use Rattle.token.specs.Tokens.{Token}
use Rattle.text.specs.Text.{bytes, same, ◌is◌}
use Rattle.text.specs.Decimal.{from_decimal}
use Rattle.text.proofs.Same.{same_equal}
use Rattle.token.proofs.Decimals.{decimal_of_lem}
use Rattle.part.specs.Grammar.{destination, formula, last, bare, jump, test, part, register_named}
use Rattle.token.specs.Code.Next.{packed}
use Rattle.part.specs.declared.Part.{Part}
use Rattle.part.specs.declared.Part.TheVariants.{Operation, Transfer, Jump}
use Rattle.part.specs.declared.Target.{Target}
use Rattle.word.proofs.Tests.{cond_same}
use Rattle.token.proofs.Bytes.{Bytes}
use Rattle.token.proofs.Packed.{known}
use Rattle.part.proofs.Words.{register_of_lem, destination_of_lem}
use Rattle.part.proofs.Formula.{name, Name, plain_name_lem, named, formula_nothing, formula_nowhere, only, closing, finishing, value, lift_foreign, lift_whole, Signed, plus, minus, and, Shifted, left, right, sign, shift, first_foreign, first_alone, first_closed, sign_foreign, sign_alone, sign_register, plus_one, minus_one, shift_alone, shift_foreign, shift_register, unclosed}
use Rattle.part.specs.Code.Stage.{completed, from_start, from_value, from_shift, from_first, from_sign, from_goto, advance, finished}
use Rattle.part.specs.declared.Stage.{Stage}
use Rattle.part.specs.declared.Stage.TheVariants.{Start, Named, Assigned, Opened, Shift, First, Sign, Closing, If, Tested, Then, Goto, Whole}

-- No part on either side of a choice is no part.
no_part : (b : Bool) → ◌≡◌ {A = Option Part} (cond b None None) None
no_part b = cond_same b None

-- What the tokens to come make of a jump's beginning.
abbrev only_if : Option Part → List Token → Option Part
only_if None ts = None
only_if (Some p) ts = only p ts

only_alone : (j : Option Part) → only_if j [] ≡ j
only_alone None = refl
only_alone (Some p) = refl

only_more : (j : Option Part) (t : Token) (ts : List Token) → only_if j (t ∷ ts) ≡ None
only_more None t ts = refl
only_more (Some p) t ts = refl

abbrev after_goto : ℕ → List Token → Option Part
after_goto sq [] = None
after_goto sq (k ∷ ts) = only_if (jump sq (from_decimal k)) ts

abbrev after_then : ℕ → List Token → Option Part
after_then sq [] = None
after_then sq (g ∷ ts) = cond (g is "goto") (after_goto sq ts) None

abbrev after_test : ℕ → List Token → Option Part
after_test sq [] = None
after_test sq (t ∷ ts) = cond (t is "then") (after_then sq ts) None

abbrev after_if : List Token → Option Part
after_if [] = None
after_if (c ∷ []) = None
after_if (c ∷ t ∷ ts) = test c t ts

abbrev after_name : Option (Option ℕ) → List Token → Option Part
after_name (Some to) (u ∷ ts) = cond (u is ":=") (value false to ts) None
after_name to ts = None

abbrev pub rest : Stage → List Token → Option Part
rest Start ts = part ts
rest (Named to) ts = after_name (Some to) ts
rest (Assigned to) ts = value false to ts
rest (Opened to) ts = value true to ts
rest (Shift g f) ts = value g.bracket g.to (shift f ∷ ts)
rest (First g a) ts = value g.bracket g.to (name a ∷ ts)
rest (Sign g f a) ts = value g.bracket g.to (name a ∷ sign f ∷ ts)
rest (Closing p) ts = closing p ts
rest If ts = after_if ts
rest (Tested sq) ts = after_test sq ts
rest (Then sq) ts = after_then sq ts
rest (Goto sq) ts = after_goto sq ts
rest (Whole p) ts = only p ts

-- Where no stage is reached, no tokens to come make a part.
abbrev pub rest_of : Option Stage → List Token → Option Part
rest_of None ts = None
rest_of (Some q) ts = rest q ts

-- What the stages of a part keep to.
abbrev pub Fine : Stage → Type 0
Fine (Shift g f) = Shifted f
Fine (First g a) = a < 8
Fine (Sign g f a) = (a < 8) × Signed f
Fine q = Unit {0}

-- A stage behind the start.
abbrev pub Begun : Stage → Type 0
Begun Start = ⊥
Begun q = Unit {0}

abbrev pub Reaches : Option Stage → Type 0
Reaches None = Unit {0}
Reaches (Some q) = Fine q × Begun q

-- One step: the tokens to come make the same part, and the stage that is reached, if one is, is fine.
pub record Step (u : Token) (ts : List Token) (before : Option Part) (q : Option Stage) : Type 0 where
  pub same_part_lem : before ≡ rest_of q ts
  pub fine : Reaches q

-- A first token that is no destination cannot be assigned to.
unassigned : (t : Token) → destination t ≡ None → (u : Token) (ts : List Token) → cond (u is ":=") (formula (destination t) ts) None ≡ None
unassigned t e u ts = rw (e, formula_nowhere ts) (no_part (u is ":="))

no_destination : (destination (bytes "rd") ≡ None) × (destination (bytes "wr") ≡ None) × (destination (bytes "goto") ≡ None)
unfolding destination register_named same
no_destination = (refl, refl, refl)

starts_rd : (ts : List Token) → part (bytes "rd" ∷ ts) ≡ only (Transfer 1 0) ts
unfolding part same
starts_rd [] = refl
starts_rd (u ∷ []) = refl
starts_rd (u ∷ v ∷ ts) = unassigned (bytes "rd") no_destination.0 u (bare (v ∷ ts))

starts_wr : (ts : List Token) → part (bytes "wr" ∷ ts) ≡ only (Transfer 0 1) ts
unfolding part same
starts_wr [] = refl
starts_wr (u ∷ []) = refl
starts_wr (u ∷ v ∷ ts) = unassigned (bytes "wr") no_destination.1 u (bare (v ∷ ts))

starts_goto : (ts : List Token) → part (bytes "goto" ∷ ts) ≡ after_goto 3 ts
unfolding part same
starts_goto [] = refl
starts_goto (u ∷ []) = sym (only_alone (jump 3 (from_decimal u)))
starts_goto (u ∷ v ∷ ts) = unassigned (bytes "goto") no_destination.2 u (bare (v ∷ ts)) ∙ sym (only_more (jump 3 (from_decimal u)) v ts)

starts_if : (ts : List Token) → part (bytes "if" ∷ ts) ≡ after_if ts
unfolding part same
starts_if [] = refl
starts_if (u ∷ []) = refl
starts_if (u ∷ v ∷ ts) = refl

starts_name : (u : Token) → u is "rd" ≡ false → u is "wr" ≡ false → u is "goto" ≡ false → u is "if" ≡ false → (d : Option (Option ℕ)) → destination u ≡ d
    → (ts : List Token) → part (u ∷ ts) ≡ after_name d ts
unfolding part formula bare
starts_name u r w g i (Some d) e [] = rw (r, w) refl
starts_name u r w g i (Some d) e (t ∷ []) = rw g (sym (no_part (t is ":=")))
starts_name u r w g i (Some d) e (t ∷ v ∷ ts) = rw (i, e) refl
starts_name u r w g i None e [] = rw (r, w) refl
starts_name u r w g i None e (t ∷ []) = rw g refl
starts_name u r w g i None e (t ∷ v ∷ ts) = rw i (unassigned u e t (bare (v ∷ ts)))

from_start_lem : (u : Token) → Bytes u → (ts : List Token) → Step u ts (part (u ∷ ts)) (from_start (packed u))
unfolding from_start
from_start_lem u b ts =
    rw (known u (bytes "rd") b refl, known u (bytes "wr") b refl, known u (bytes "goto") b refl, known u (bytes "if") b refl, destination_of_lem u b)
    (go (u is "rd") (u is "wr") (u is "goto") (u is "if") (destination u) refl refl refl refl refl)
  where
    go : (r w g i : Bool) (d : Option (Option ℕ)) → u is "rd" ≡ r → u is "wr" ≡ w → u is "goto" ≡ g → u is "if" ≡ i → destination u ≡ d
        → Step u ts (part (u ∷ ts)) (cond r (Some (Whole (Transfer 1 0))) (cond w (Some (Whole (Transfer 0 1))) (cond g (Some (Goto 3)) (cond i (Some If) (option_map (λ to. Named to) d)))))
    go true w g i d r' w' g' i' d' = record { same_part_lem = rw (same_equal u (bytes "rd") r') (starts_rd ts); fine = (tt, tt) }
    go false true g i d r' w' g' i' d' = record { same_part_lem = rw (same_equal u (bytes "wr") w') (starts_wr ts); fine = (tt, tt) }
    go false false true i d r' w' g' i' d' = record { same_part_lem = rw (same_equal u (bytes "goto") g') (starts_goto ts); fine = (tt, tt) }
    go false false false true d r' w' g' i' d' = record { same_part_lem = rw (same_equal u (bytes "if") i') (starts_if ts); fine = (tt, tt) }
    go false false false false (Some d) r' w' g' i' d' = record { same_part_lem = starts_name u r' w' g' i' (Some d) d' ts; fine = (tt, tt) }
    go false false false false None r' w' g' i' d' = record { same_part_lem = starts_name u r' w' g' i' None d' ts; fine = tt }

from_value_lem : (g : Target) (u : Token) → Bytes u → (g.bracket ≡ false → u is "(" ≡ false) → (ts : List Token)
    → Step u ts (value g.bracket g.to (u ∷ ts)) (from_value g (packed u))
unfolding from_value formula
from_value_lem g u b plain ts =
    rw (known u (bytes "<<") b refl, known u (bytes ">>") b refl, register_of_lem u b) (go (u is "<<") (u is ">>") (register_named u) refl refl refl)
  where
    go : (l s : Bool) (r : Option ℕ) → u is "<<" ≡ l → u is ">>" ≡ s → register_named u ≡ r
        → Step u ts (value g.bracket g.to (u ∷ ts)) (cond l (Some (Shift g 6)) (cond s (Some (Shift g 7)) (option_map (λ a. First g a) r)))
    go true s r l' s' r' = record { same_part_lem = rw (same_equal u (bytes "<<") l') refl; fine = (left, tt) }
    go false true r l' s' r' = record { same_part_lem = rw (same_equal u (bytes ">>") s') refl; fine = (right, tt) }
    go false false (Some a) l' s' r' =
        let h = named u a r' in
        record { same_part_lem = ap (λ (x : Token). value g.bracket g.to (x ∷ ts)) h.1; fine = (h.0, tt) }
    go false false None l' s' r' =
        record { same_part_lem = lift_foreign g.bracket g.to [] u ts plain (λ p q. refl) (formula_nothing (Some g.to) u r' l' s'); fine = tt }

-- A formula that is whole, inside a bracket or not.
completes : (g : Target) (p : Part) (ts : List Token) → finishing g.bracket p ts ≡ rest (completed g p) ts
unfolding completed
completes g p ts = go g.bracket
  where
    go : (b : Bool) → finishing b p ts ≡ rest (cond b (Closing p) (Whole p)) ts
    go true = refl
    go false = refl

completed_fine : (g : Target) (p : Part) → Fine (completed g p) × Begun (completed g p)
unfolding completed
completed_fine g p = go g.bracket
  where
    go : (b : Bool) → Fine (cond b (Closing p) (Whole p)) × Begun (cond b (Closing p) (Whole p))
    go true = (tt, tt)
    go false = (tt, tt)

-- Words that are no brackets.
shift_other : {f : ℕ} → Shifted f → (shift f is "(" ≡ false) × (shift f is ")" ≡ false)
unfolding same
shift_other left = (refl, refl)
shift_other right = (refl, refl)

sign_other : {f : ℕ} → Signed f → sign f is ")" ≡ false
unfolding same
sign_other plus = refl
sign_other minus = refl
sign_other and = refl

other_words : (bytes "1" is ")" ≡ false) × ([] is ")" ≡ false)
unfolding same
other_words = (refl, refl)

from_shift_lem : (g : Target) (f : ℕ) → Shifted f → (u : Token) → Bytes u → (ts : List Token)
    → Step u ts (value g.bracket g.to (shift f ∷ u ∷ ts)) (from_shift g f (packed u))
unfolding from_shift
from_shift_lem g f s u b ts = rw (register_of_lem u b) (go (register_named u) refl)
  where
    go : (r : Option ℕ) → register_named u ≡ r
        → Step u ts (value g.bracket g.to (shift f ∷ u ∷ ts)) (option_map (λ a. completed g (Operation g.to f a 0)) r)
    go (Some a) r =
        let h = named u a r in
        record {
          same_part_lem =
              ap (λ (x : Token). value g.bracket g.to (shift f ∷ x ∷ ts)) h.1
              ∙ lift_whole g.bracket g.to (shift f ∷ []) (name a) ts (λ e. (shift_other s).0) (Operation g.to f a 0) (plain_name_lem a h.0).no_close (shift_register g.to s a h.0)
              ∙ completes g (Operation g.to f a 0) ts;
          fine = completed_fine g (Operation g.to f a 0);
        }
    go None r =
        record { same_part_lem = lift_foreign g.bracket g.to (shift f ∷ []) u ts (λ e. (shift_other s).0) (λ p q. shift_alone g.to s) (shift_foreign g.to s u r); fine = tt }

from_first_lem : (g : Target) (a : ℕ) → a < 8 → (u : Token) → Bytes u → (ts : List Token)
    → Step u ts (value g.bracket g.to (name a ∷ u ∷ ts)) (from_first g a (packed u))
unfolding from_first
from_first_lem g a h u b ts =
    rw (known u (bytes "+") b refl, known u (bytes "-") b refl, known u (bytes "^") b refl, known u (bytes ")") b refl)
    (go (u is "+") (u is "-") (u is "^") g.bracket (u is ")") refl refl refl refl refl)
  where
    n : Name a
    n = plain_name_lem a h

    go : (p m c o d : Bool) → u is "+" ≡ p → u is "-" ≡ m → u is "^" ≡ c → g.bracket ≡ o → u is ")" ≡ d
        → Step u ts (value g.bracket g.to (name a ∷ u ∷ ts))
        (cond p (Some (Sign g 3 a)) (cond m (Some (Sign g 4 a)) (cond c (Some (Sign g 5 a)) (cond (o && d) (Some (Whole (Operation g.to 0 a 0))) None))))
    go true m c o d p' m' c' o' d' = record { same_part_lem = rw (same_equal u (bytes "+") p') refl; fine = ((h, plus), tt) }
    go false true c o d p' m' c' o' d' = record { same_part_lem = rw (same_equal u (bytes "-") m') refl; fine = ((h, minus), tt) }
    go false false true o d p' m' c' o' d' = record { same_part_lem = rw (same_equal u (bytes "^") c') refl; fine = ((h, and), tt) }
    go false false false true true p' m' c' o' d' = record { same_part_lem = rw (o', same_equal u (bytes ")") d') (first_closed g.to a h ts); fine = (tt, tt) }
    go false false false true false p' m' c' o' d' =
        record {
          same_part_lem = lift_foreign g.bracket g.to (name a ∷ []) u ts (λ e. n.no_open) (λ e z. absurd (true≢false (sym z ∙ d'))) (first_foreign g.to a n u p' m' c');
          fine = tt;
        }
    go false false false false d p' m' c' o' d' =
        record {
          same_part_lem = lift_foreign g.bracket g.to (name a ∷ []) u ts (λ e. n.no_open) (λ e z. absurd (true≢false (sym e ∙ o'))) (first_foreign g.to a n u p' m' c');
          fine = tt;
        }

from_sign_lem : (g : Target) (f a : ℕ) → a < 8 → Signed f → (u : Token) → Bytes u → (ts : List Token)
    → Step u ts (value g.bracket g.to (name a ∷ sign f ∷ u ∷ ts)) (from_sign g f a (packed u))
unfolding from_sign
from_sign_lem g f a h s u b ts = rw (register_of_lem u b, known u (bytes "1") b refl) (go (register_named u) (u is "1") refl refl s)
  where
    n : Name a
    n = plain_name_lem a h

    foreign : {f : ℕ} → Signed f → register_named u ≡ None → ((f ≡ 5 → ⊥) → u is "1" ≡ false) → Step u ts (value g.bracket g.to (name a ∷ sign f ∷ u ∷ ts)) None
    foreign {f} x r o =
        record {
          same_part_lem = lift_foreign g.bracket g.to (name a ∷ sign f ∷ []) u ts (λ e. n.no_open) (λ p q. sign_alone g.to a n x) (sign_foreign g.to a n x u r o);
          fine = tt;
        }

    one : (f : ℕ) (p : Part) → u is "1" ≡ true → ((ys : List Token) → formula (Some g.to) (name a ∷ sign f ∷ bytes "1" ∷ ys) ≡ only p ys)
        → Step u ts (value g.bracket g.to (name a ∷ sign f ∷ u ∷ ts)) (Some (completed g p))
    one f p e whole =
        record {
          same_part_lem =
              ap (λ (x : Token). value g.bracket g.to (name a ∷ sign f ∷ x ∷ ts)) (same_equal u (bytes "1") e)
              ∙ lift_whole g.bracket g.to (name a ∷ sign f ∷ []) (bytes "1") ts (λ e. n.no_open) p other_words.0 whole
              ∙ completes g p ts;
          fine = completed_fine g p;
        }

    register : {f : ℕ} → Signed f → (m : ℕ) → register_named u ≡ Some m
        → Step u ts (value g.bracket g.to (name a ∷ sign f ∷ u ∷ ts)) (Some (completed g (Operation g.to f a m)))
    register {f} x m r =
        let l = named u m r in
        record {
          same_part_lem =
              ap (λ (y : Token). value g.bracket g.to (name a ∷ sign f ∷ y ∷ ts)) l.1
              ∙ lift_whole g.bracket g.to (name a ∷ sign f ∷ []) (name m) ts (λ e. n.no_open) (Operation g.to f a m) (plain_name_lem m l.0).no_close (sign_register g.to a n x m l.0)
              ∙ completes g (Operation g.to f a m) ts;
          fine = completed_fine g (Operation g.to f a m);
        }

    go : (r : Option ℕ) (o : Bool) → register_named u ≡ r → u is "1" ≡ o → {f : ℕ} → Signed f
        → Step u ts (value g.bracket g.to (name a ∷ sign f ∷ u ∷ ts))
        (cond (o && eqb f 3) (Some (completed g (Operation g.to 1 a 0)))
        (cond (o && eqb f 4) (Some (completed g (Operation g.to 2 a 0))) (option_map (λ m. completed g (Operation g.to f a m)) r)))
    go r true r' o' plus = one 3 (Operation g.to 1 a 0) o' (plus_one g.to a n)
    go r true r' o' minus = one 4 (Operation g.to 2 a 0) o' (minus_one g.to a n)
    go (Some m) true r' o' and = register and m r'
    go None true r' o' and = foreign and r' (λ z. absurd (z refl))
    go (Some m) false r' o' x = register x m r'
    go None false r' o' x = foreign x r' (λ z. o')

-- Jumps.
from_goto_lem : (sq : ℕ) (u : Token) → Bytes u → (ts : List Token) → Step u ts (after_goto sq (u ∷ ts)) (from_goto sq (packed u))
unfolding from_goto jump
from_goto_lem sq u b ts = rw (decimal_of_lem u b) (go (from_decimal u))
  where
    go : (d : Option ℕ) → Step u ts (only_if (option_map (λ k. Jump sq k) d) ts) (option_map (λ k. Whole (Jump sq k)) d)
    go (Some k) = record { same_part_lem = refl; fine = (tt, tt) }
    go None = record { same_part_lem = refl; fine = tt }

-- A test behind its `n` or `z` is `then goto` and a number.
tested : (c : Token) (sq : ℕ) → ((k : Token) → cond (c is "n") (jump 1 (from_decimal k)) (cond (c is "z") (jump 2 (from_decimal k)) None) ≡ jump sq (from_decimal k))
    → (ts : List Token) → after_if (c ∷ ts) ≡ after_test sq ts
unfolding test
tested c sq e [] = refl
tested c sq e (t ∷ []) = sym (no_part (t is "then"))
tested c sq e (t ∷ g ∷ []) = rw (no_part (g is "goto")) (sym (no_part (t is "then")))
tested c sq e (t ∷ g ∷ k ∷ []) = rw (e k, only_alone (jump sq (from_decimal k))) (go (t is "then") (g is "goto"))
  where
    go : (a b : Bool) → cond (a && b) (jump sq (from_decimal k)) None ≡ cond a (cond b (jump sq (from_decimal k)) None) None
    go true b = refl
    go false b = refl
tested c sq e (t ∷ g ∷ k ∷ x ∷ ts) = rw (only_more (jump sq (from_decimal k)) x ts, no_part (g is "goto")) (sym (no_part (t is "then")))

untested : (c : Token) → c is "n" ≡ false → c is "z" ≡ false → (ts : List Token) → after_if (c ∷ ts) ≡ None
unfolding test
untested c n z [] = refl
untested c n z (t ∷ []) = refl
untested c n z (t ∷ g ∷ []) = refl
untested c n z (t ∷ g ∷ k ∷ []) = rw (n, z) (no_part (t is "then" && g is "goto"))
untested c n z (t ∷ g ∷ k ∷ x ∷ ts) = refl

from_if : (u : Token) → Bytes u → (ts : List Token) → Step u ts (after_if (u ∷ ts)) (advance If (packed u))
unfolding advance
from_if u b ts = rw (known u (bytes "n") b refl, known u (bytes "z") b refl) (go (u is "n") (u is "z") refl refl)
  where
    go : (n z : Bool) → u is "n" ≡ n → u is "z" ≡ z → Step u ts (after_if (u ∷ ts)) (cond n (Some (Tested 1)) (cond z (Some (Tested 2)) None))
    go true z n' z' = record { same_part_lem = tested u 1 (λ k. rw n' refl) ts; fine = (tt, tt) }
    go false true n' z' = record { same_part_lem = tested u 2 (λ k. rw (n', z') refl) ts; fine = (tt, tt) }
    go false false n' z' = record { same_part_lem = untested u n' z' ts; fine = tt }

-- Where one word alone may follow.
expected : (u : Token) (ts : List Token) (b : Bool) (q : Stage) → Fine q × Begun q → Step u ts (cond b (rest q ts) None) (cond b (Some q) None)
expected u ts true q f = record { same_part_lem = refl; fine = f }
expected u ts false q f = record { same_part_lem = refl; fine = tt }

from_assigned : (to : Option ℕ) (u : Token) → Bytes u → (ts : List Token) → Step u ts (value false to (u ∷ ts)) (advance (Assigned to) (packed u))
unfolding advance
from_assigned to u b ts = rw (known u (bytes "(") b refl) (go (u is "(") refl)
  where
    go : (o : Bool) → u is "(" ≡ o → Step u ts (value false to (u ∷ ts)) (cond o (Some (Opened to)) (from_value (record { to = to; bracket = false }) (packed u)))
    go true e = record { same_part_lem = ap (λ (x : Token). value false to (x ∷ ts)) (same_equal u (bytes "(") e); fine = (tt, tt) }
    go false e = from_value_lem (record { to = to; bracket = false }) u b (λ z. e) ts

-- One token more.
pub step : (p : Stage) → Fine p → (u : Token) → Bytes u → (ts : List Token) → Step u ts (rest p (u ∷ ts)) (advance p (packed u))
unfolding advance
step Start f u b ts = from_start_lem u b ts
step (Named to) f u b ts = rw (known u (bytes ":=") b refl) (expected u ts (u is ":=") (Assigned to) (tt, tt))
step (Assigned to) f u b ts = from_assigned to u b ts
step (Opened to) f u b ts = from_value_lem (record { to = to; bracket = true }) u b (λ z. absurd (true≢false z)) ts
step (Shift g s) f u b ts = from_shift_lem g s f u b ts
step (First g a) f u b ts = from_first_lem g a f u b ts
step (Sign g s a) f u b ts = from_sign_lem g s a f.0 f.1 u b ts
step (Closing p) f u b ts = rw (known u (bytes ")") b refl) (expected u ts (u is ")") (Whole p) (tt, tt))
step If f u b ts = from_if u b ts
step (Tested sq) f u b ts = rw (known u (bytes "then") b refl) (expected u ts (u is "then") (Then sq) (tt, tt))
step (Then sq) f u b ts = rw (known u (bytes "goto") b refl) (expected u ts (u is "goto") (Goto sq) (tt, tt))
step (Goto sq) f u b ts = from_goto_lem sq u b ts
step (Whole p) f u b ts = record { same_part_lem = refl; fine = tt }

-- The end of a part.
pub finish : (p : Stage) → Fine p → rest p [] ≡ finished p
unfolding finished part formula last
finish Start f = refl
finish (Named to) f = refl
finish (Assigned to) f = unclosed false to [] refl other_words.1
finish (Opened to) f = unclosed true to [] refl other_words.1
finish (Shift g s) f =
    unclosed g.bracket g.to (shift s ∷ []) (shift_other f).0 (shift_other f).1 ∙ rw (shift_alone g.to f) (no_part g.bracket)
finish (First g a) f =
    let n = plain_name_lem a f in
    unclosed g.bracket g.to (name a ∷ []) n.no_open n.no_close ∙ rw (first_alone g.to a n) refl
finish (Sign g s a) f =
    let n = plain_name_lem a f.0 in
    unclosed g.bracket g.to (name a ∷ sign s ∷ []) n.no_open (sign_other f.1) ∙ rw (sign_alone g.to a n f.1) (no_part g.bracket)
finish (Closing p) f = refl
finish If f = refl
finish (Tested sq) f = refl
finish (Then sq) f = refl
finish (Goto sq) f = refl
finish (Whole p) f = refl
