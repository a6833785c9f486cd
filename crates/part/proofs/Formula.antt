-- Formulas token by token: what may follow the tokens read so far, without brackets and inside a pair of them.
use Prim.Native.Nat.{ℕ, ◌-◌, ◌<◌}
use mathlib.Core.Path.{◌≡◌, refl, sym, ap, ◌∙◌}
use mathlib.Core.Bool.{Bool, true, false, cond, not, ◌&&◌, false≢true}
use mathlib.Core.List.{List, [], ◌∷◌, ◌++◌, append-nil}
use native.Mathlib.Omega.{arith}
use borrow.Author.Tests.{eqb-true, not-true}
use lib.Dec.{eqb}
use lib.ListN.{get_or}
use Rattle.std.specs.Prelude.{Option, Some, None}
use Rattle.std.proofs.lemmas.List.Quantifiers.{position-Some}
use Rattle.token.specs.Tokens.{Token}
use Rattle.text.specs.Text.{bytes, same, ◌is◌}
use Rattle.text.proofs.Same.{same_equal}
use Rattle.part.specs.Grammar.{registers, operation, formula, last, front, bare, register_named}
use Rattle.part.specs.declared.Part.{Part}
use Rattle.part.specs.declared.Part.TheVariants.{Operation}
use Rattle.word.proofs.Tests.{both, cond_same, all, all_at}

-- The register a, written out.
abbrev pub name : ℕ → Token
name a = get_or registers a []

-- Whether a register's number is a.
numbers : Option ℕ → ℕ → Bool
numbers (Some b) a = eqb b a
numbers None a = false

numbers_lem : (r : Option ℕ) (a : ℕ) → numbers r a ≡ true → r ≡ Some a
unfolding numbers
numbers_lem (Some b) a e = ap (λ (n : ℕ). Some n) (eqb-true b a e)
numbers_lem None a e = absurd (false≢true e)

-- A register's name is that of its number, and none of the other words of a formula.
plain_name : ℕ → Bool
plain_name a =
    numbers (register_named (name a)) a && not (name a is "(") && not (name a is ")") && not (name a is "1") && not (name a is "<<") && not (name a is ">>")

plain_names : all 8 plain_name ≡ true
unfolding all plain_name numbers register_named same
plain_names = refl

pub record Name (a : ℕ) : Type 0 where
  pub number : register_named (name a) ≡ Some a
  pub no_open : name a is "(" ≡ false
  pub no_close : name a is ")" ≡ false
  pub no_one : name a is "1" ≡ false
  pub no_left : name a is "<<" ≡ false
  pub no_right : name a is ">>" ≡ false

pub plain_name_lem : (a : ℕ) → a < 8 → Name a
unfolding plain_name
plain_name_lem a h =
    let e1 = both _ _ (all_at 8 plain_name plain_names a h) in
    let e2 = both _ _ e1.0 in
    let e3 = both _ _ e2.0 in
    let e4 = both _ _ e3.0 in
    let e5 = both _ _ e4.0 in
    record {
      number = numbers_lem (register_named (name a)) a e5.0;
      no_open = not-true _ e5.1;
      no_close = not-true _ e4.1;
      no_one = not-true _ e3.1;
      no_left = not-true _ e2.1;
      no_right = not-true _ e1.1;
    }

pub named : (u : Token) (a : ℕ) → register_named u ≡ Some a → (a < 8) × (u ≡ name a)
unfolding register_named
named u a e = let p = position-Some (same u) registers a [] e in (p.0, same_equal u (name a) p.1)

-- An operation wants registers and somewhere to store.
module _ (to : Option (Option ℕ)) (f : ℕ) where
  pub operation_first : (b : Option ℕ) → operation to f None b ≡ None
  unfolding operation
  operation_first b = go to
    where
      go : (t : Option (Option ℕ)) → operation t f None b ≡ None
      go (Some t) = refl
      go None = refl

  pub operation_second : (a : Option ℕ) → operation to f a None ≡ None
  unfolding operation
  operation_second a = go to a
    where
      go : (t : Option (Option ℕ)) (a : Option ℕ) → operation t f a None ≡ None
      go (Some t) (Some a) = refl
      go (Some t) None = refl
      go None a = refl

-- A formula that begins with no register and no shift, and one that stores nowhere.
pub formula_nothing : (to : Option (Option ℕ)) (u : Token) → register_named u ≡ None → u is "<<" ≡ false → u is ">>" ≡ false → (ts : List Token) → formula to (u ∷ ts) ≡ None
unfolding formula
formula_nothing to u r l g [] = rw r (operation_first to 0 (Some 0))
formula_nothing to u r l g (t ∷ []) = rw (l, g) refl
formula_nothing to u r l g (o ∷ q ∷ []) = rw r (simp (operation_first, cond_same))
formula_nothing to u r l g (o ∷ q ∷ x ∷ ts) = refl

pub formula_nowhere : (ts : List Token) → formula None ts ≡ None
unfolding formula operation
formula_nowhere [] = refl
formula_nowhere (r ∷ []) = refl
formula_nowhere (o ∷ r ∷ []) = simp cond_same
formula_nowhere (r ∷ o ∷ q ∷ []) = simp cond_same
formula_nowhere (r ∷ o ∷ q ∷ x ∷ ts) = refl

-- Nothing may follow a whole part.
abbrev pub only : Part → List Token → Option Part
only p [] = Some p
only p (t ∷ ts) = None

-- Behind a closing bracket nothing may follow.
abbrev pub closing : Part → List Token → Option Part
closing p [] = None
closing p (t ∷ ts) = cond (t is ")") (only p ts) None

abbrev pub finishing : Bool → Part → List Token → Option Part
finishing true p ts = closing p ts
finishing false p ts = only p ts

-- The tokens behind `:=`, where a bracket has been opened or not.
abbrev pub enclosed : Bool → List Token → List Token
enclosed true ts = bytes "(" ∷ ts
enclosed false ts = ts

abbrev pub value : Bool → Option ℕ → List Token → Option Part
value bracket to ts = formula (Some to) (bare (enclosed bracket ts))

-- The last token and those before it, behind others.
last_behind : (p : List Token) (t : Token) (ts : List Token) → last (p ++ t ∷ ts) ≡ last (t ∷ ts)
unfolding last
last_behind [] t ts = refl
last_behind (x ∷ []) t ts = refl
last_behind (x ∷ y ∷ p) t ts = last_behind (y ∷ p) t ts

front_behind : (p : List Token) (t : Token) (ts : List Token) → front (p ++ t ∷ ts) ≡ p ++ front (t ∷ ts)
unfolding front
front_behind [] t ts = refl
front_behind (x ∷ []) t ts = refl
front_behind (x ∷ y ∷ p) t ts = ap (λ (z : List Token). x ∷ z) (front_behind (y ∷ p) t ts)

no_register : register_named (bytes "(") ≡ None
unfolding register_named same
no_register = refl

-- Inside a bracket the formula is what stands before the closing one.
opened : (to : Option ℕ) (ts : List Token) → value true to ts ≡ cond (last ts is ")") (formula (Some to) (front ts)) None
unfolding bare same
opened to ts = go (last ts is ")")
  where
    nothing : formula (Some to) (bytes "(" ∷ ts) ≡ None
    nothing = formula_nothing (Some to) (bytes "(") no_register refl refl ts

    go : (b : Bool) → formula (Some to) (cond b (front ts) (bytes "(" ∷ ts)) ≡ cond b (formula (Some to) (front ts)) None
    go true = refl
    go false = nothing

-- A list that begins with no opening bracket is bare.
abbrev pub opens : List Token → Bool
opens [] = false
opens (t ∷ ts) = t is "("

bare_plain : (ts : List Token) → opens ts ≡ false → bare ts ≡ ts
unfolding bare
bare_plain [] e = refl
bare_plain (t ∷ ts) e = rw e

-- From formulas without brackets to those inside: what nothing can follow, and what is whole.
module _ (bracket : Bool) (to : Option ℕ) (p : List Token) (u : Token) (ts : List Token) (plain : bracket ≡ false → opens (p ++ u ∷ ts) ≡ false) where
  pub lift_foreign : (bracket ≡ true → u is ")" ≡ true → formula (Some to) p ≡ None) → ((ys : List Token) → formula (Some to) (p ++ u ∷ ys) ≡ None)
      → value bracket to (p ++ u ∷ ts) ≡ None
  unfolding last front
  lift_foreign closes none = go bracket plain closes
    where
      inside : (ys : List Token) → (u is ")" ≡ true → formula (Some to) p ≡ None) → cond (last (u ∷ ys) is ")") (formula (Some to) (p ++ front (u ∷ ys))) None ≡ None
      inside [] f = one (u is ")") refl
        where
          one : (b : Bool) → u is ")" ≡ b → cond b (formula (Some to) (p ++ [])) None ≡ None
          one true e = rw append-nil (f e)
          one false e = refl
      inside (y ∷ ys) f = rw (none (front (y ∷ ys))) (cond_same {A = Option Part} (last (y ∷ ys) is ")") None)

      go : (b : Bool) → (b ≡ false → opens (p ++ u ∷ ts) ≡ false) → (b ≡ true → u is ")" ≡ true → formula (Some to) p ≡ None) → value b to (p ++ u ∷ ts) ≡ None
      go false f g = rw (bare_plain (p ++ u ∷ ts) (f refl)) (none ts)
      go true f g = opened to (p ++ u ∷ ts) ∙ rw (last_behind p u ts, front_behind p u ts) (inside ts (g refl))

  pub lift_whole : (x : Part) → u is ")" ≡ false → ((ys : List Token) → formula (Some to) (p ++ u ∷ ys) ≡ only x ys) → value bracket to (p ++ u ∷ ts) ≡ finishing bracket x ts
  unfolding last front
  lift_whole x other whole = go bracket plain
    where
      inside : (ys : List Token) → cond (last (u ∷ ys) is ")") (formula (Some to) (p ++ front (u ∷ ys))) None ≡ closing x ys
      inside [] = rw other
      inside (y ∷ []) = rw (whole [])
      inside (y ∷ z ∷ ys) = rw (whole (y ∷ front (z ∷ ys)), cond_same {A = Option Part} (last (z ∷ ys) is ")") None) (sym (cond_same {A = Option Part} (y is ")") None))

      go : (b : Bool) → (b ≡ false → opens (p ++ u ∷ ts) ≡ false) → value b to (p ++ u ∷ ts) ≡ finishing b x ts
      go false f = rw (bare_plain (p ++ u ∷ ts) (f refl)) (whole ts)
      go true f = opened to (p ++ u ∷ ts) ∙ rw (last_behind p u ts, front_behind p u ts) (inside ts)

-- The signs that F 3, 4 and 5 are written with, and the shifts of F 6 and 7.
pub data Signed : ℕ → Type 0 where
  plus : Signed 3
  minus : Signed 4
  and : Signed 5

pub data Shifted : ℕ → Type 0 where
  left : Shifted 6
  right : Shifted 7

abbrev pub sign : ℕ → Token
sign f = get_or (bytes "+" ∷ bytes "-" ∷ bytes "^" ∷ []) (f - 3) []

abbrev pub shift : ℕ → Token
shift f = get_or (bytes "<<" ∷ bytes ">>" ∷ []) (f - 6) []

-- Behind the first register.
module _ (to : Option ℕ) (a : ℕ) (n : Name a) where
  pub first_foreign : (u : Token) → u is "+" ≡ false → u is "-" ≡ false → u is "^" ≡ false → (ys : List Token) → formula (Some to) (name a ∷ u ∷ ys) ≡ None
  unfolding formula
  first_foreign u p m c [] = rw (n.no_left, n.no_right)
  first_foreign u p m c (y ∷ []) = rw (p, m, c)
  first_foreign u p m c (y ∷ z ∷ ys) = refl

  pub sign_foreign : {f : ℕ} → Signed f → (u : Token) → register_named u ≡ None → ((f ≡ 5 → ⊥) → u is "1" ≡ false) → (ys : List Token)
      → formula (Some to) (name a ∷ sign f ∷ u ∷ ys) ≡ None
  unfolding formula same
  sign_foreign plus u r o [] = rw (o (λ e. omega arith), r) (operation_second (Some to) 3 (register_named (name a)))
  sign_foreign minus u r o [] = rw (o (λ e. omega arith), r) (operation_second (Some to) 4 (register_named (name a)))
  sign_foreign and u r o [] = rw r (operation_second (Some to) 5 (register_named (name a)))
  sign_foreign plus u r o (y ∷ ys) = refl
  sign_foreign minus u r o (y ∷ ys) = refl
  sign_foreign and u r o (y ∷ ys) = refl

  pub sign_alone : {f : ℕ} → Signed f → formula (Some to) (name a ∷ sign f ∷ []) ≡ None
  unfolding formula
  sign_alone s = rw (n.no_left, n.no_right)

  pub first_alone : formula (Some to) (name a ∷ []) ≡ Some (Operation to 0 a 0)
  unfolding formula operation
  first_alone = rw n.number refl

  pub sign_register : {f : ℕ} → Signed f → (b : ℕ) → b < 8 → (ys : List Token) → formula (Some to) (name a ∷ sign f ∷ name b ∷ ys) ≡ only (Operation to f a b) ys
  unfolding formula operation same
  sign_register plus b l [] = let m = plain_name_lem b l in rw (m.no_one, n.number, m.number) refl
  sign_register minus b l [] = let m = plain_name_lem b l in rw (m.no_one, n.number, m.number) refl
  sign_register and b l [] = let m = plain_name_lem b l in rw (n.number, m.number) refl
  sign_register plus b l (y ∷ ys) = refl
  sign_register minus b l (y ∷ ys) = refl
  sign_register and b l (y ∷ ys) = refl

  pub plus_one : (ys : List Token) → formula (Some to) (name a ∷ sign 3 ∷ bytes "1" ∷ ys) ≡ only (Operation to 1 a 0) ys
  unfolding formula operation same
  plus_one [] = rw n.number refl
  plus_one (y ∷ ys) = refl

  pub minus_one : (ys : List Token) → formula (Some to) (name a ∷ sign 4 ∷ bytes "1" ∷ ys) ≡ only (Operation to 2 a 0) ys
  unfolding formula operation same
  minus_one [] = rw n.number refl
  minus_one (y ∷ ys) = refl

-- Behind a shift.
no_shift_register : {f : ℕ} → Shifted f → register_named (shift f) ≡ None
unfolding register_named same
no_shift_register left = refl
no_shift_register right = refl

module _ (to : Option ℕ) {f : ℕ} (s : Shifted f) where
  shift_more : (o q : Token) (ys : List Token) → formula (Some to) (shift f ∷ o ∷ q ∷ ys) ≡ None
  unfolding formula
  shift_more o q [] = rw (no_shift_register s) (simp (operation_first, cond_same))
  shift_more o q (y ∷ ys) = refl

  pub shift_alone : formula (Some to) (shift f ∷ []) ≡ None
  unfolding formula
  shift_alone = rw (no_shift_register s) (operation_first (Some to) 0 (Some 0))

  shifted : (r : Token) → formula (Some to) (shift f ∷ r ∷ []) ≡ operation (Some to) f (register_named r) (Some 0)
  unfolding formula same
  shifted r = go s
    where
      go : {g : ℕ} → Shifted g → formula (Some to) (shift g ∷ r ∷ []) ≡ operation (Some to) g (register_named r) (Some 0)
      go left = refl
      go right = refl

  pub shift_foreign : (u : Token) → register_named u ≡ None → (ys : List Token) → formula (Some to) (shift f ∷ u ∷ ys) ≡ None
  shift_foreign u r [] = shifted u ∙ rw r (operation_first (Some to) f (Some 0))
  shift_foreign u r (y ∷ ys) = shift_more u y ys

  pub shift_register : (b : ℕ) → b < 8 → (ys : List Token) → formula (Some to) (shift f ∷ name b ∷ ys) ≡ only (Operation to f b 0) ys
  unfolding operation
  shift_register b l [] = shifted (name b) ∙ rw (plain_name_lem b l).number refl
  shift_register b l (y ∷ ys) = shift_more (name b) y ys

-- A register alone in a pair of brackets.
pub first_closed : (to : Option ℕ) (a : ℕ) → a < 8 → (ts : List Token) → value true to (name a ∷ bytes ")" ∷ ts) ≡ only (Operation to 0 a 0) ts
unfolding last front same
first_closed to a h [] = opened to (name a ∷ bytes ")" ∷ []) ∙ first_alone to a (plain_name_lem a h)
first_closed to a h (t ∷ ts) =
    opened to (name a ∷ bytes ")" ∷ t ∷ ts)
    ∙ rw (first_foreign to a (plain_name_lem a h) (bytes ")") refl refl refl (front (t ∷ ts))) (cond_same {A = Option Part} (last (t ∷ ts) is ")") None)

-- Where no bracket closes, a formula inside brackets is none.
pub unclosed : (bracket : Bool) (to : Option ℕ) (ts : List Token) → opens ts ≡ false → last ts is ")" ≡ false → value bracket to ts ≡ cond bracket None (formula (Some to) ts)
unclosed true to ts o c = opened to ts ∙ rw c
unclosed false to ts o c = ap (formula (Some to)) (bare_plain ts o)
