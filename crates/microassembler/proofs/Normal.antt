-- A line's word is normal: each part gives fields within their widths, and only where they have a use.
use Prim.Native.Nat.{ℕ, ◌≤◌, ◌<◌}
use mathlib.Core.Path.{◌≡◌, refl, subst}
use mathlib.Core.Bool.{Bool, true, false, cond, not, ◌&&◌, ◌||◌, true≢false, false≢true}
use mathlib.Core.List.{List, [], ◌∷◌}
use native.Mathlib.Omega.{arith}
use borrow.Author.Tests.{lt-ltb, leb-false, eqb-true, eq-eqb}
use lib.Dec.{leb, ltb, eqb}
use Rattle.std.specs.Prelude.{Option, Some, None, Ok, Err, is_some}
use Rattle.std.specs.Option.{option_map, unwrap_or}
use Rattle.part.proofs.Formula.{named}
use Rattle.microword.specs.Microword.{word_of, idle, binary, unused_clear, is_normal}
use Rattle.microword.proofs.Laws.{fields_back, word_below}
use Rattle.microword.specs.Code.Within.{Within}
use Rattle.microword.specs.declared.Fields.{Fields}
use Rattle.token.specs.Tokens.{Token, tokens}
use Rattle.part.specs.Grammar.{destination, operation, formula, bare, jump, test, part, register_named}
use Rattle.microtext.specs.Line.{last_part, parts, divided, add, nothing, clash, settled, meaning, behind_number, numbered, line, has_test}
use Rattle.part.specs.declared.Part.{Part}
use Rattle.part.specs.declared.Part.TheVariants.{Operation, Transfer, Jump}
use Rattle.microtext.specs.declared.Given.{Given}
use Rattle.microtext.specs.declared.Fault.TheVariants.{ExtraLine, WrongNumber, Ungrammatical, FarTarget, WrongParts}
use Rattle.word.proofs.Tests.{both, neither, either, All}
use Rattle.text.specs.Text.{◌is◌}
use Rattle.text.specs.Decimal.{from_decimal}

-- Fields without use are 0.
pub record Clear (m : Fields) : Type 0 where
  pub b : (idle m || not (binary m)) ≡ true → m.b ≡ 0
  pub s : eqb m.hs 0 ≡ true → m.s ≡ 0
  pub end : eqb m.sq 0 ≡ true → m.end ≡ 0
  pub a : idle m ≡ true → m.a ≡ 0
  pub f : idle m ≡ true → m.f ≡ 0

cleared : (unused : Bool) (value : ℕ) → (unused ≡ true → value ≡ 0) → (not unused || eqb value 0) ≡ true
cleared true value h = eq-eqb value 0 (h refl)
cleared false value h = refl

pub is_normal_lem : (m : Fields) → Within m → Clear m → is_normal (word_of m) ≡ true
unfolding is_normal unused_clear
is_normal_lem m h k =
    rw (
      fields_back m h,
      lt-ltb (word_of m) 8388608 (word_below m),
      cleared (idle m || not (binary m)) m.b k.b,
      cleared (eqb m.hs 0) m.s k.s,
      cleared (eqb m.sq 0) m.end k.end,
      cleared (idle m) m.a k.a,
      cleared (idle m) m.f k.f,
    )

-- What each part keeps to.
abbrev Stored : Option ℕ → Type 0
Stored None = Unit {0}
Stored (Some to) = to < 8

abbrev FinePart : Part → Type 0
FinePart (Operation to f a b) = Stored to × (f < 8) × (a < 8) × (b < 8) × ((eqb f 3 || eqb f 4 || eqb f 5) ≡ false → b ≡ 0)
FinePart (Transfer rd wr) = (rd < 2) × (wr < 2)
FinePart (Jump sq k) = (1 ≤ sq) × (sq < 4)

abbrev pub Fine : Option Part → Type 0
Fine None = Unit {0}
Fine (Some p) = FinePart p

-- A register's number, if there is one.
abbrev Register : Option ℕ → Type 0
Register None = Unit {0}
Register (Some a) = a < 8

register_fine : (t : Token) → Register (register_named t)
register_fine t = go (register_named t) refl
  where
    go : (r : Option ℕ) → register_named t ≡ r → Register r
    go None e = tt
    go (Some a) e = (named t a e).0

-- Where an operation stores, if it does.
abbrev Place : Option (Option ℕ) → Type 0
Place None = Unit {0}
Place (Some to) = Stored to

destination_fine : (t : Token) → Place (destination t)
unfolding destination
destination_fine t = go (t is "alu") (register_named t) (register_fine t)
  where
    go : (b : Bool) (r : Option ℕ) → Register r → Place (cond b (Some None) (option_map (λ x. Some x) r))
    go true r h = tt
    go false None h = tt
    go false (Some a) h = h

operation_fine : (to : Option (Option ℕ)) (f : ℕ) (a b : Option ℕ) → Place to → f < 8 → Register a → Register b
    → ((eqb f 3 || eqb f 4 || eqb f 5) ≡ false → b ≡ Some 0) → Fine (operation to f a b)
unfolding operation
operation_fine None f a b p l h k z = tt
operation_fine (Some to) f None b p l h k z = tt
operation_fine (Some to) f (Some a) None p l h k z = tt
operation_fine (Some to) f (Some a) (Some b) p l h k z = (p, l, h, k, λ e. some_same (z e))
  where
    some_same : Some b ≡ Some 0 → b ≡ 0
    some_same q = cc

formula_fine : (to : Option (Option ℕ)) → Place to → (ts : List Token) → Fine (formula to ts)
unfolding formula
formula_fine to p [] = tt
formula_fine to p (r ∷ []) = operation_fine to 0 (register_named r) (Some 0) p (omega arith) (register_fine r) (omega arith) (λ z. refl)
formula_fine to p (o ∷ r ∷ []) =
    either Fine (o is "<<") (operation_fine to 6 (register_named r) (Some 0) p (omega arith) (register_fine r) (omega arith) (λ z. refl))
    (either Fine (o is ">>") (operation_fine to 7 (register_named r) (Some 0) p (omega arith) (register_fine r) (omega arith) (λ z. refl)) tt)
formula_fine to p (r ∷ o ∷ q ∷ []) =
    either Fine (o is "+")
    (either Fine (q is "1") (operation_fine to 1 (register_named r) (Some 0) p (omega arith) (register_fine r) (omega arith) (λ z. refl))
    (operation_fine to 3 (register_named r) (register_named q) p (omega arith) (register_fine r) (register_fine q) (λ z. absurd (true≢false z))))
    (either Fine (o is "-")
    (either Fine (q is "1") (operation_fine to 2 (register_named r) (Some 0) p (omega arith) (register_fine r) (omega arith) (λ z. refl))
    (operation_fine to 4 (register_named r) (register_named q) p (omega arith) (register_fine r) (register_fine q) (λ z. absurd (true≢false z))))
    (either Fine (o is "^") (operation_fine to 5 (register_named r) (register_named q) p (omega arith) (register_fine r) (register_fine q) (λ z. absurd (true≢false z))) tt))
formula_fine to p (r ∷ o ∷ q ∷ x ∷ ts) = tt

jump_fine : (sq : ℕ) (k : Option ℕ) → 1 ≤ sq → sq < 4 → Fine (jump sq k)
unfolding jump
jump_fine sq None l h = tt
jump_fine sq (Some k) l h = (l, h)

test_fine : (c t : Token) (ts : List Token) → Fine (test c t ts)
unfolding test
test_fine c t [] = tt
test_fine c t (g ∷ []) = tt
test_fine c t (g ∷ k ∷ []) =
    either Fine (t is "then" && g is "goto")
    (either Fine (c is "n") (jump_fine 1 (from_decimal k) (omega arith) (omega arith)) (either Fine (c is "z") (jump_fine 2 (from_decimal k) (omega arith) (omega arith)) tt))
    tt
test_fine c t (g ∷ k ∷ x ∷ ts) = tt

part_fine : (ts : List Token) → Fine (part ts)
unfolding part
part_fine [] = tt
part_fine (t ∷ []) = either Fine (t is "rd") (omega arith, omega arith) (either Fine (t is "wr") (omega arith, omega arith) tt)
part_fine (t ∷ u ∷ []) = either Fine (t is "goto") (jump_fine 3 (from_decimal u) (omega arith) (omega arith)) tt
part_fine (t ∷ u ∷ v ∷ ts) =
    either Fine (t is "if") (test_fine u v ts) (either Fine (u is ":=") (formula_fine (destination t) (destination_fine t) (bare (v ∷ ts))) tt)

-- What the parts have given keeps to the widths, but for a far target, and has no field before its part.
pub record Kept (g : Given) : Type 0 where
  pub a : g.fields.a < 8
  pub b : g.fields.b < 8
  pub s : g.fields.s < 8
  pub hs : g.fields.hs < 2
  pub f : g.fields.f < 8
  pub rd : g.fields.rd < 2
  pub wr : g.fields.wr < 2
  pub sq : g.fields.sq < 4
  pub end : g.far ≡ false → g.fields.end < 64
  pub b_used : binary g.fields ≡ false → g.fields.b ≡ 0
  pub s_used : g.fields.hs ≡ 0 → g.fields.s ≡ 0
  pub end_used : g.fields.sq ≡ 0 → g.fields.end ≡ 0
  pub no_operation : g.operation ≡ false → (g.fields.a ≡ 0) × (g.fields.b ≡ 0) × (g.fields.f ≡ 0)

kept_nothing : Kept nothing
kept_nothing =
    record {
      a = omega arith;
      b = omega arith;
      s = omega arith;
      hs = omega arith;
      f = omega arith;
      rd = omega arith;
      wr = omega arith;
      sq = omega arith;
      end = λ e. omega arith;
      b_used = λ e. refl;
      s_used = λ e. refl;
      end_used = λ e. refl;
      no_operation = λ e. (refl, refl, refl);
    }

-- A register or `alu`, and whether it stores.
stored_register : (to : Option ℕ) → Stored to → unwrap_or to 0 < 8
stored_register None h = omega arith
stored_register (Some to) h = h

stores : (to : Option ℕ) → cond (is_some to) 1 0 < 2
stores None = omega arith
stores (Some to) = omega arith

stores_none : (to : Option ℕ) → ◌≡◌ {A = ℕ} (cond (is_some to) 1 0) 0 → unwrap_or to 0 ≡ 0
stores_none None e = refl
stores_none (Some to) e = absurd (omega arith)

add_kept : (g : Given) (p : Part) → Kept g → FinePart p → Kept (add g p)
unfolding add binary
add_kept g (Operation to f a b) k x =
    record {
      a = x.2;
      b = x.3;
      s = stored_register to x.0;
      hs = stores to;
      f = x.1;
      rd = k.rd;
      wr = k.wr;
      sq = k.sq;
      end = k.end;
      b_used = x.4;
      s_used = stores_none to;
      end_used = k.end_used;
      no_operation = λ e. absurd (true≢false e);
    }
add_kept g (Transfer rd wr) k x =
    record {
      a = k.a;
      b = k.b;
      s = k.s;
      hs = k.hs;
      f = k.f;
      rd = x.0;
      wr = x.1;
      sq = k.sq;
      end = k.end;
      b_used = k.b_used;
      s_used = k.s_used;
      end_used = k.end_used;
      no_operation = k.no_operation;
    }
add_kept g (Jump sq n) k x =
    record {
      a = k.a;
      b = k.b;
      s = k.s;
      hs = k.hs;
      f = k.f;
      rd = k.rd;
      wr = k.wr;
      sq = x.1;
      end = λ e. leb-false 64 n (neither g.far (leb 64 n) e).1;
      b_used = k.b_used;
      s_used = k.s_used;
      end_used = λ e. let h = x.0 in absurd (omega arith);
      no_operation = k.no_operation;
    }

abbrev AllFine : List (Option Part) → Type 0
AllFine ps = All Fine ps

parts_fine : (ps : List (List Token)) → AllFine (parts ps)
unfolding parts last_part
parts_fine [] = tt
parts_fine ([] ∷ []) = tt
parts_fine ((t ∷ p) ∷ []) = (part_fine (t ∷ p), tt)
parts_fine ([] ∷ q ∷ ps) = (part_fine [], parts_fine (q ∷ ps))
parts_fine ((t ∷ p) ∷ q ∷ ps) = (part_fine (t ∷ p), parts_fine (q ∷ ps))

-- An idle word with no clash has no operation.
not_tested : (sq : ℕ) → (eqb sq 0 || eqb sq 3) ≡ true → (eqb sq 1 || eqb sq 2) ≡ false
not_tested sq e = go (eqb sq 0) (eqb sq 3) refl refl e
  where
    go : (z t : Bool) → eqb sq 0 ≡ z → eqb sq 3 ≡ t → (z || t) ≡ true → (eqb sq 1 || eqb sq 2) ≡ false
    go true t p q e = rw (eqb-true sq 0 p)
    go false true p q e = rw (eqb-true sq 3 q)
    go false false p q e = absurd (false≢true e)

module _ (g : Given) (c : clash g ≡ false) where
  idle_none : idle g.fields ≡ true → g.operation ≡ false
  unfolding clash idle
  idle_none i =
      let h = both (eqb g.fields.hs 0) (eqb g.fields.sq 0 || eqb g.fields.sq 3) i in
      go g.operation (eqb g.fields.hs 0) (has_test g.fields) (neither (g.twice || (has_test g.fields && not g.operation)) (g.operation && eqb g.fields.hs 0 && not (has_test g.fields)) c).1 h.0
      (not_tested g.fields.sq h.1)
    where
      go : (o h t : Bool) → (o && h && not t) ≡ false → h ≡ true → t ≡ false → o ≡ false
      go false h t e p q = refl
      go true true false e p q = e
      go true false t e p q = absurd (false≢true p)
      go true true true e p q = absurd (true≢false q)

  clear : Kept g → Clear g.fields
  clear k =
      record {
        b = unused (idle g.fields) (binary g.fields) refl refl;
        s = λ e. k.s_used (eqb-true g.fields.hs 0 e);
        end = λ e. k.end_used (eqb-true g.fields.sq 0 e);
        a = λ e. (k.no_operation (idle_none e)).0;
        f = λ e. (k.no_operation (idle_none e)).2;
      }
    where
      unused : (i b : Bool) → idle g.fields ≡ i → binary g.fields ≡ b → (i || not b) ≡ true → g.fields.b ≡ 0
      unused true b p q e = (k.no_operation (idle_none p)).1
      unused false false p q e = k.b_used q
      unused false true p q e = absurd (false≢true e)

settled_normal : (g : Given) → Kept g → (w : ℕ) → settled g ≡ Ok w → is_normal w ≡ true
unfolding settled
settled_normal g k w e = go g.far (clash g) refl refl e
  where
    go : (f c : Bool) → g.far ≡ f → clash g ≡ c → cond f (Err FarTarget) (cond c (Err WrongParts) (Ok (word_of g.fields))) ≡ Ok w → is_normal w ≡ true
    go true c p q e = let o : ◌≡◌ {A = ℕ} 0 1 = cc in absurd (omega arith)
    go false true p q e = let o : ◌≡◌ {A = ℕ} 0 1 = cc in absurd (omega arith)
    go false false p q e =
        let v : word_of g.fields ≡ w = cc in
        let small : Within g.fields =
        record { a = k.a; b = k.b; s = k.s; hs = k.hs; f = k.f; rd = k.rd; wr = k.wr; sq = k.sq; end = k.end p } in
        subst (λ (x : ℕ). is_normal x ≡ true) v (is_normal_lem g.fields small (clear g q k))

meaning_normal : (ps : List (Option Part)) → AllFine ps → (g : Given) → Kept g → (w : ℕ) → meaning g ps ≡ Ok w → is_normal w ≡ true
unfolding meaning
meaning_normal [] a g k w e = settled_normal g k w e
meaning_normal (None ∷ ps) a g k w e = let o : ◌≡◌ {A = ℕ} 0 1 = cc in absurd (omega arith)
meaning_normal (Some p ∷ ps) a g k w e = meaning_normal ps a.1 (add g p) (add_kept g p k a.0) w e

-- The word of a line is normal.
pub line_normal : (k : ℕ) (s : List ℕ) (w : ℕ) → line k s ≡ Ok w → is_normal w ≡ true
unfolding line numbered behind_number
line_normal k s w e = go (ltb k 64) (tokens s) e
  where
    behind : (ts : List Token) → behind_number ts ≡ Ok w → is_normal w ≡ true
    behind [] e = let o : ◌≡◌ {A = ℕ} 0 1 = cc in absurd (omega arith)
    behind (c ∷ ts) e = one (c is ":") e
      where
        one : (b : Bool) → cond b (meaning nothing (parts (divided ts))) (Err Ungrammatical) ≡ Ok w → is_normal w ≡ true
        one true e = meaning_normal (parts (divided ts)) (parts_fine (divided ts)) nothing kept_nothing w e
        one false e = let o : ◌≡◌ {A = ℕ} 0 1 = cc in absurd (omega arith)

    number_first : (ts : List Token) → numbered k ts ≡ Ok w → is_normal w ≡ true
    number_first [] e = let o : ◌≡◌ {A = ℕ} 0 1 = cc in absurd (omega arith)
    number_first (n ∷ ts) e = one (eqb (unwrap_or (from_decimal n) 100) k) e
      where
        one : (b : Bool) → cond b (behind_number ts) (Err WrongNumber) ≡ Ok w → is_normal w ≡ true
        one true e = behind ts e
        one false e = let o : ◌≡◌ {A = ℕ} 0 1 = cc in absurd (omega arith)

    go : (b : Bool) (ts : List Token) → cond b (numbered k ts) (Err ExtraLine) ≡ Ok w → is_normal w ≡ true
    go true ts e = number_first ts e
    go false ts e = let o : ◌≡◌ {A = ℕ} 0 1 = cc in absurd (omega arith)
