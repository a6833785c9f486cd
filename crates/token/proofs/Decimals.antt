-- A decimal is the same of a token as of its number: of one byte, of two, and of more, which are none.
use Prim.Native.Nat.{ℕ, ◌+◌, ◌-◌, ◌*◌, ◌/◌, ◌%◌, ◌^◌, ◌≤◌, ◌<◌}
use mathlib.Core.Path.{◌≡◌, refl, sym, ◌∙◌}
use mathlib.Core.Bool.{Bool, true, false, cond, not, ◌&&◌, and-true, and-false}
use mathlib.Core.List.{List, [], ◌∷◌}
use native.Mathlib.Omega.{arith}
use borrow.Author.Tests.{leb-true, leb-false, lt-leb, lt-ltb, eqb-true, eqb-false, ne_eqb}
use lib.Dec.{leb, ltb, eqb}
use Rattle.std.specs.Prelude.{Some, None}
use Rattle.word.proofs.Tests.{cond_same}
use Rattle.text.specs.Decimal.{digit, from_decimal}
use Rattle.token.specs.Tokens.{Token}
use Rattle.token.specs.Code.Next.{grown, packed_after, packed}
use Rattle.token.proofs.Bytes.{Bytes}
use Rattle.token.specs.Code.Numbers.{decimal_of}

leb_same : (m n k l : ℕ) → (m ≤ n → k ≤ l) → (k ≤ l → m ≤ n) → leb m n ≡ leb k l
leb_same m n k l f g = go (leb k l) (leb m n) refl refl
  where
    go : (b c : Bool) → leb k l ≡ b → leb m n ≡ c → c ≡ b
    go true true p q = refl
    go false false p q = refl
    go true false p q = let h = g (leb-true k l p) in let n = leb-false m n q in absurd (omega arith)
    go false true p q = let h = f (leb-true m n q) in let n = leb-false k l p in absurd (omega arith)

grown_small : (n c : ℕ) → n < 2 ^ 33 → grown n c ≡ n * 256 + c
grown_small n c h = rw (lt-ltb n (2 ^ 33) h)

-- A token's number is at least that of its first bytes.
grown_more : (n c : ℕ) → n ≤ grown n c
grown_more n c = go (ltb n (2 ^ 33))
  where
    go : (b : Bool) → n ≤ cond b (n * 256 + c) n
    go true = omega arith
    go false = omega arith

packed_least : (n : ℕ) (t : List ℕ) → n ≤ packed_after n t
packed_least n [] = omega arith
packed_least n (c ∷ t) = omega (arith, grown_more n c, packed_least (grown n c) t)

number_one : (a : ℕ) → a < 256 → decimal_of (256 + a) ≡ from_decimal (a ∷ [])
unfolding decimal_of from_decimal
number_one a h =
    let q : (256 + a) / 256 ≡ 1 = omega arith in
    let m : (256 + a) % 256 ≡ a = omega arith in
    rw (q, m) refl

-- A first digit that is not 0.
not_zero : (a : ℕ) → leb 49 a ≡ (leb 48 a && not (eqb a 48))
not_zero a = go (eqb a 48) refl
  where
    go : (b : Bool) → eqb a 48 ≡ b → leb 49 a ≡ (leb 48 a && not b)
    go true e = let q = eqb-true a 48 e in lt-leb 49 a (omega arith) ∙ sym (and-false (leb 48 a))
    go false e = let q = eqb-false a 48 e in leb_same 49 a 48 a (λ z. omega arith) (λ z. omega arith) ∙ sym (and-true (leb 48 a))

number_two : (a b : ℕ) → a < 256 → b < 256 → decimal_of ((256 + a) * 256 + b) ≡ from_decimal (a ∷ b ∷ [])
unfolding decimal_of from_decimal
number_two a b h l =
    let q : ((256 + a) * 256 + b) / 256 ≡ 256 + a = omega arith in
    let m : ((256 + a) * 256 + b) % 256 ≡ b = omega arith in
    let d : 256 + a - 304 ≡ a - 48 = omega arith in
    rw (
      q,
      m,
      d,
      ne_eqb (256 + a) 1 (λ z. omega arith),
      leb_same 305 (256 + a) 49 a (λ z. omega arith) (λ z. omega arith),
      leb_same (256 + a) 313 a 57 (λ z. omega arith) (λ z. omega arith),
      not_zero a,
    )
    (turned (leb 48 a) (not (eqb a 48)) (leb a 57) (digit b))
  where
    turned : (p n q r : Bool) → cond r (cond ((p && n) && q) (Some ((a - 48) * 10 + (b - 48))) None) None ≡ cond ((p && q) && r && n) (Some ((a - 48) * 10 + (b - 48))) None
    turned false n q false = refl
    turned true n false false = refl
    turned true n true false = refl
    turned false n q true = refl
    turned true false false true = refl
    turned true false true true = refl
    turned true true false true = refl
    turned true true true true = refl

number_large : (n : ℕ) → 2 ^ 24 ≤ n → decimal_of n ≡ None
unfolding decimal_of
number_large n h =
    rw (ne_eqb (n / 256) 1 (λ z. omega arith), lt-leb (n / 256) 313 (omega arith), and-false (leb 305 (n / 256))) (cond_same (digit (n % 256)) None)

pub decimal_of_lem : (u : Token) → Bytes u → decimal_of (packed u) ≡ from_decimal u
unfolding from_decimal decimal_of
decimal_of_lem [] b = refl
decimal_of_lem (a ∷ []) b = number_one a b.0
decimal_of_lem (a ∷ c ∷ []) b = let h = b.0 in rw (grown_small (256 + a) c (omega arith)) (number_two a c h b.1.0)
decimal_of_lem (a ∷ c ∷ d ∷ t) b =
    let h = b.0 in
    let g = b.1.0 in
    rw (grown_small (256 + a) c (omega arith), grown_small ((256 + a) * 256 + c) d (omega arith))
    (number_large (packed_after (((256 + a) * 256 + c) * 256 + d) t) (omega (arith, packed_least (((256 + a) * 256 + c) * 256 + d) t)))
