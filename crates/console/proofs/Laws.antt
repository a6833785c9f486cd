-- Laws of the texts: a number's fewest digits, lines of words, a text that is shown, and that no second answer satisfies a promise.
use Prim.Native.Nat.{ℕ, zero, suc, ◌+◌, ◌-◌, ◌*◌, ◌/◌, ◌%◌, ◌^◌, ◌≤◌, ◌<◌}
use mathlib.Core.Path.{◌≡◌, refl, sym, ◌∙◌, ap}
use mathlib.Core.List.{List, [], ◌∷◌, ◌++◌, append_assoc}
use native.Mathlib.Nat.{mod-lt, pow-suc, one-le-pow, pow-le-pow_right}
use mathlib.Core.Bool.{Bool, true, false}
use lib.Dec.{ltb}
use native.Mathlib.Numerals.{add-one}
use native.Mathlib.Omega.{arith}
use borrow.Author.Tests.{lt-ltb, le-ltb, ltb-true, ltb-false}
use lib.ListN.{length, get_or, take, drop, length-append, drop_of_length-le}
use lib.Seq.{drop-cons, take-suc, take-append_seam}
use Rattle.io.specs.Counts.{IsPrefixLen}
use Rattle.io.specs.Digits.{last_digits as digits_of_io, IsDigitCount}
use Rattle.text.specs.Decimal.{digits, decimal}
use Rattle.console.specs.Text.{signed, lines}
use Rattle.console.specs.Code.Shown.{Shown, shown}

-- The fewest digits that hold a number are those of its decimal.
spelt : (k most n : ℕ) → suc k ≤ most → n < 10 ^ suc k → (0 < k → 10 ^ k ≤ n) → digits_of_io 10 (suc k) n ≡ digits most n
unfolding digits
spelt k zero n h below above = absurd (omega arith)
spelt zero (suc most) n h below above = rw (lt-ltb (n % 10) 10 (mod-lt n (omega arith)), lt-ltb n 10 below)
spelt (suc k) (suc most) n h below above =
    let step : 10 ^ suc k ≡ 10 ^ k * 10 = pow-suc 10 k in
    let more : 10 ^ suc (suc k) ≡ 10 ^ suc k * 10 = pow-suc 10 (suc k) in
    let positive : 1 ≤ 10 ^ k = one-le-pow k 10 (omega arith) in
    let high : 10 ^ suc k ≤ n = above (omega arith) in
    rw (lt-ltb (n % 10) 10 (mod-lt n (omega arith)), le-ltb n 10 (omega arith))
    (ap (λ (front : List ℕ). front ++ (48 + n % 10) ∷ []) (spelt k most (n / 10) (omega arith) (omega arith) (λ p. omega arith)))

-- 20 digits are enough for a number of 64 bits.
short : (k n : ℕ) → n < 2 ^ 64 → IsDigitCount 10 1 n k → k ≤ 20
short k n wide f = go (ltb 20 k) refl
  where
    go : (past : Bool) → ltb 20 k ≡ past → k ≤ 20
    go true e =
        let more : 20 < k = ltb-true 20 k e in
        let most : 10 ^ 20 ≤ 10 ^ (k - 1) = pow-le-pow_right {n = 10} (omega arith) {i = 20} {j = k - 1} (omega arith) in
        absurd (omega (arith, f.2 (omega arith)))
    go false e = ltb-false 20 k e

pub fewest : (k n : ℕ) → n < 2 ^ 64 → IsDigitCount 10 1 n k → digits_of_io 10 k n ≡ decimal n
fewest zero n wide f = absurd (omega (arith, f.0))
fewest (suc k) n wide f =
    let e : suc k - 1 ≡ k = omega arith in
    spelt k 20 n (short (suc k) n wide f) f.1 (λ p. rw e at (f.2 (omega arith)))

-- The lines from a word on.
pub lines_next : (words : List ℕ) (i : ℕ) → i < length words
    → lines (drop i words) ≡ lines (get_or words i 0 ∷ []) ++ lines (drop (i + 1) words)
unfolding lines
lines_next words i h = rw (add-one, drop-cons words i 0 h) (sym (append_assoc (signed (get_or words i 0)) (10 ∷ []) (lines (drop (suc i) words))))

pub lines_end : (words : List ℕ) (i : ℕ) → length words ≤ i → lines (drop i words) ≡ []
unfolding lines
lines_end words i h = rw (drop_of_length-le words h)

-- The lines up to a word, and the word's.
lines_append : (words more : List ℕ) → lines (words ++ more) ≡ lines words ++ lines more
unfolding lines
lines_append [] more = refl
lines_append (word ∷ words) more = rw (lines_append words more) (sym (append_assoc (signed word) (10 ∷ lines words) (lines more)))

pub lines_more : (words : List ℕ) (i : ℕ) → i < length words → lines (take i words) ++ (signed (get_or words i 0) ++ 10 ∷ []) ≡ lines (take (i + 1) words)
unfolding lines
lines_more words i h = rw (add-one, take-suc words i 0 h) (sym (lines_append (take i words) (get_or words i 0 ∷ [])))

-- A room below 512 bytes is as found.
pub not_shown : (text room : List ℕ) → length room < 512 → shown text room ≡ record { length = 0; room = room }
unfolding shown
not_shown text room small = rw (lt-ltb _ _ small)

-- A text stands at the front of a room, and so long is it.
pub record Front (text left : List ℕ) (r : ℕ) : Type 0 where
  pub stands : take r left ≡ text
  pub counted : IsPrefixLen r left

-- What was shown in a room of 512 bytes or more stands at its front.
pub front : (text room left : List ℕ) (r : ℕ) → 512 ≤ length room → shown text room ≡ record { length = r; room = left } → Front text left r
unfolding shown
front text room left r wide e =
    let same = rw (le-ltb _ _ wide) at e in
    let long : length text ≡ r = ap (λ (s : Shown). s.length) same in
    let whole : text ++ drop (length text) room ≡ left = ap (λ (s : Shown). s.room) same in
    let stands : take r left ≡ text = rw (← long, ← whole) (take-append_seam text (drop (length text) room)) in
    record {
      stands = stands;
      counted = (omega (arith, ap length whole, length-append text (drop (length text) room)), sym long ∙ sym (ap length stands));
    }

-- No second answer: what a text's promise says fixes the length and the room.
pub only : (text room left left' : List ℕ) (r r' : ℕ) → shown text room ≡ record { length = r; room = left }
    → shown text room ≡ record { length = r'; room = left' } → (r ≡ r') × (left ≡ left')
only text room left left' r r' p q =
    let same = sym p ∙ q in
    (ap (λ (s : Shown). s.length) same, ap (λ (s : Shown). s.room) same)
