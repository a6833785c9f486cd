-- What the lister prints of a part reads back as it: every operation and every jump is tried, by a test that computes.
use Prim.Native.Nat.{ℕ, zero, suc, ◌<◌}
use mathlib.Core.Path.{◌≡◌, refl, ap}
use mathlib.Core.Bool.{Bool, true, false, cond, not, ◌&&◌, ◌||◌, false≢true}
use mathlib.Core.List.{List, [], ◌∷◌, ◌++◌}
use native.Mathlib.Omega.{arith}
use borrow.Author.Tests.{eqb-true, ltb-true, lt-ltb}
use lib.Dec.{ltb, eqb}
use lib.ListN.{length}
use Rattle.std.specs.Prelude.{Option, Some, None}
use Rattle.std.specs.Option.{option_eq}
use Rattle.microword.specs.declared.Fields.{Fields}
use Rattle.token.specs.Tokens.{Token, every, one_token, under, ended, going, tokens_after, tokens, started_by}
use Rattle.part.specs.Grammar.{destination, operation, formula, last, front, bare, jump, test, part, register_named}
use Rattle.microtext.specs.Listing as listing
use Rattle.microtext.specs.Listing.{formulas, jump_texts}
use Rattle.part.specs.declared.Part.{Part}
use Rattle.part.specs.declared.Part.TheVariants.{Operation, Transfer, Jump}
use Rattle.word.proofs.Tests.{both, all, all_at}
use Rattle.text.specs.Text.{bytes, same, ◌is◌}
use Rattle.text.specs.Decimal.{from_decimal, short_decimal}
use Rattle.text.proofs.Same.{same_equal}

-- No token is a semicolon; no byte is 10.
unfoldable pub undivided : List Token → Bool
undivided [] = true
undivided (t ∷ ts) = not (t is ";") && undivided ts

unfoldable pub unbroken : List ℕ → Bool
unbroken [] = true
unbroken (c ∷ s) = not (eqb c 10) && unbroken s

-- The text of a part: it reads back, within one piece and one line, and is not long.
pub record Back (text : List ℕ) (p : Part) : Type 0 where
  pub reads : part (tokens text) ≡ Some p
  pub one_piece : undivided (tokens text) ≡ true
  pub one_line : unbroken text ≡ true
  pub short : length text < 18

-- Whether two parts are the same.
same_part : Part → Part → Bool
same_part (Operation to f a b) (Operation t g x y) = option_eq eqb to t && eqb f g && eqb a x && eqb b y
same_part (Transfer rd wr) (Transfer r v) = eqb rd r && eqb wr v
same_part (Jump sq end) (Jump q k) = eqb sq q && eqb end k
same_part p q = false

same_place : (to t : Option ℕ) → option_eq eqb to t ≡ true → to ≡ t
same_place None None e = refl
same_place None (Some t) e = absurd (false≢true e)
same_place (Some to) None e = absurd (false≢true e)
same_place (Some to) (Some t) e = ap (λ (n : ℕ). Some n) (eqb-true to t e)

same_part_lem : (p q : Part) → same_part p q ≡ true → p ≡ q
unfolding same_part
same_part_lem (Operation to f a b) (Operation t g x y) e =
    let k = both (option_eq eqb to t && eqb f g && eqb a x) (eqb b y) e in
    let l = both (option_eq eqb to t && eqb f g) (eqb a x) k.0 in
    let m = both (option_eq eqb to t) (eqb f g) l.0 in
    rw (same_place to t m.0, eqb-true f g m.1, eqb-true a x l.1, eqb-true b y k.1) refl
same_part_lem (Transfer rd wr) (Transfer r v) e = let k = both (eqb rd r) (eqb wr v) e in rw (eqb-true rd r k.0, eqb-true wr v k.1) refl
same_part_lem (Jump sq end) (Jump q k) e = let l = both (eqb sq q) (eqb end k) e in rw (eqb-true sq q l.0, eqb-true end k l.1) refl
same_part_lem p q e = absurd (false≢true e)

-- Whether tokens are that part.
is_part : Option Part → Part → Bool
is_part (Some q) p = same_part q p
is_part None p = false

is_part_lem : (q : Option Part) (p : Part) → is_part q p ≡ true → q ≡ Some p
unfolding is_part
is_part_lem (Some q) p e = ap (λ (x : Part). Some x) (same_part_lem q p e)
is_part_lem None p e = absurd (false≢true e)

-- The test of all that `Back` says.
goes : List ℕ → Part → Bool
goes text p = is_part (part (tokens text)) p && undivided (tokens text) && unbroken text && ltb (length text) 18

goes_back : (text : List ℕ) (p : Part) → goes text p ≡ true → Back text p
unfolding goes
goes_back text p e =
    let k = both (is_part (part (tokens text)) p && undivided (tokens text) && unbroken text) (ltb (length text) 18) e in
    let l = both (is_part (part (tokens text)) p && undivided (tokens text)) (unbroken text) k.0 in
    let m = both (is_part (part (tokens text)) p) (undivided (tokens text)) l.0 in
    record { reads = is_part_lem (part (tokens text)) p m.0; one_piece = m.1; one_line = l.1; short = ltb-true (length text) 18 k.1 }

-- Operations: `to` is the register stored to, or 8.
abbrev operating : ℕ → ℕ → ℕ → ℕ → Fields
operating to f a b = record { a = a; b = b; s = to; hs = cond (ltb to 8) 1 0; f = f; rd = 0; wr = 0; sq = 0; end = 0 }

-- Where such an operation stores.
abbrev place : ℕ → Option ℕ
place to = cond (ltb to 8) (Some to) None

-- B where F has a use for it.
abbrev pub second : ℕ → ℕ → ℕ
second f b = cond (eqb f 3 || eqb f 4 || eqb f 5) b 0

operates : ℕ → ℕ → ℕ → ℕ → Bool
operates to f a b = goes (listing.operation (operating to f a b)) (Operation (place to) f a (second f b))

all_operate : all 9 (λ to. all 8 (λ f. all 8 (λ a. all 8 (λ b. operates to f a b)))) ≡ true
unfolding all operates goes is_part same_part undivided unbroken tokens_after going ended under started_by one_token every same part formula bare last front operation jump test from_decimal register_named destination listing.operation formulas
all_operate = refl

operating_back : (to f a b : ℕ) → to < 9 → f < 8 → a < 8 → b < 8 → Back (listing.operation (operating to f a b)) (Operation (place to) f a (second f b))
unfolding operates
operating_back to f a b k l m n =
    goes_back (listing.operation (operating to f a b)) (Operation (place to) f a (second f b))
    (all_at 8 (λ b. operates to f a b)
    (all_at 8 (λ a. all 8 (λ b. operates to f a b))
    (all_at 8 (λ f. all 8 (λ a. all 8 (λ b. operates to f a b)))
    (all_at 9 (λ to. all 8 (λ f. all 8 (λ a. all 8 (λ b. operates to f a b)))) all_operate to k) f l) a m) b n)

-- Where a word's operation stores: nowhere without HS.
abbrev pub target : Fields → Option ℕ
target m = cond (eqb m.hs 0) None (Some m.s)

pub operation_back : (m : Fields) → m.s < 8 → m.f < 8 → m.a < 8 → m.b < 8 → Back (listing.operation m) (Operation (target m) m.f m.a (second m.f m.b))
unfolding listing.operation
operation_back m k l h n = go (eqb m.hs 0)
  where
    go : (z : Bool)
        → Back (cond z (bytes "alu") (listing.register_name m.s) ++ bytes ":=" ++ listing.formula m) (Operation (cond z None (Some m.s)) m.f m.a (second m.f m.b))
    go true = operating_back 8 m.f m.a m.b (omega arith) l h n
    go false = rw (lt-ltb m.s 8 k) at (operating_back m.s m.f m.a m.b (omega arith) l h n)

-- Transfers.
pub rd_back : Back (bytes "rd") (Transfer 1 0)
unfolding goes is_part same_part undivided unbroken tokens_after going ended under started_by one_token every same part
rd_back = goes_back (bytes "rd") (Transfer 1 0) refl

pub wr_back : Back (bytes "wr") (Transfer 0 1)
unfolding goes is_part same_part undivided unbroken tokens_after going ended under started_by one_token every same part
wr_back = goes_back (bytes "wr") (Transfer 0 1) refl

-- Jumps.
abbrev jumping : ℕ → ℕ → Fields
jumping sq k = record { a = 0; b = 0; s = 0; hs = 0; f = 0; rd = 0; wr = 0; sq = sq; end = k }

leads : ℕ → ℕ → Bool
leads n k = goes (listing.jump (jumping (suc n) k)) (Jump (suc n) k)

all_lead : all 3 (λ n. all 64 (λ k. leads n k)) ≡ true
unfolding all leads goes is_part same_part undivided unbroken tokens_after going ended under started_by one_token every same part formula bare operation jump test from_decimal register_named destination listing.jump jump_texts short_decimal
all_lead = refl

leading : (n k : ℕ) → n < 3 → k < 64 → Back (listing.jump (jumping (suc n) k)) (Jump (suc n) k)
unfolding leads
leading n k l h = goes_back (listing.jump (jumping (suc n) k)) (Jump (suc n) k) (all_at 64 (λ k. leads n k) (all_at 3 (λ n. all 64 (λ k. leads n k)) all_lead n l) k h)

pub jump_back : (m : Fields) → (m.sq ≡ 0 → ⊥) → m.sq < 4 → m.end < 64 → Back (listing.jump m) (Jump m.sq m.end)
unfolding listing.jump
jump_back m n l h = go m.sq n l
  where
    go : (sq : ℕ) → (sq ≡ 0 → ⊥) → sq < 4 → Back (lib.ListN.get_or jump_texts sq [] ++ short_decimal m.end) (Jump sq m.end)
    go zero n l = absurd (n refl)
    go (suc sq) n l = leading sq m.end (omega arith) h

-- A line's number is one token, and the number it spells.
pub record Numbered (k : ℕ) : Type 0 where
  pub token : tokens (short_decimal k) ≡ short_decimal k ∷ []
  pub value : from_decimal (short_decimal k) ≡ Some k
  pub one_line : unbroken (short_decimal k) ≡ true
  pub short : length (short_decimal k) < 3

abbrev only_token : List Token → Token → Bool
only_token [] t = false
only_token (u ∷ []) t = same u t
only_token (u ∷ v ∷ ts) t = false

only_token_lem : (ts : List Token) (t : Token) → only_token ts t ≡ true → ts ≡ t ∷ []
only_token_lem [] t e = absurd (false≢true e)
only_token_lem (u ∷ []) t e = ap (λ (x : Token). x ∷ []) (same_equal u t e)
only_token_lem (u ∷ v ∷ ts) t e = absurd (false≢true e)

numbers : ℕ → Bool
numbers k = only_token (tokens (short_decimal k)) (short_decimal k) && option_eq eqb (from_decimal (short_decimal k)) (Some k) && unbroken (short_decimal k) && ltb (length (short_decimal k)) 3

all_numbers : all 64 numbers ≡ true
unfolding all numbers unbroken tokens_after going ended under started_by one_token every same from_decimal short_decimal
all_numbers = refl

pub number_back : (k : ℕ) → k < 64 → Numbered k
unfolding numbers
number_back k h =
    let e = both (only_token (tokens (short_decimal k)) (short_decimal k) && option_eq eqb (from_decimal (short_decimal k)) (Some k) && unbroken (short_decimal k)) (ltb (length (short_decimal k)) 3) (all_at 64 numbers all_numbers k h) in
    let f = both (only_token (tokens (short_decimal k)) (short_decimal k) && option_eq eqb (from_decimal (short_decimal k)) (Some k)) (unbroken (short_decimal k)) e.0 in
    let g = both (only_token (tokens (short_decimal k)) (short_decimal k)) (option_eq eqb (from_decimal (short_decimal k)) (Some k)) f.0 in
    record { token = only_token_lem (tokens (short_decimal k)) (short_decimal k) g.0; value = same_place (from_decimal (short_decimal k)) (Some k) g.1; one_line = f.1; short = ltb-true (length (short_decimal k)) 3 e.1 }
