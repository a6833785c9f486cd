-- Laws of the lines of a text: where a line ends and goes on, that its bytes are the text's, and the walk along all lines from one to the next.
use Prim.Native.Nat.{ℕ, zero, suc, ◌+◌, ◌-◌, ◌≤◌, ◌<◌}
use mathlib.Core.Path.{◌≡◌, refl, ap, ◌∙◌}
use mathlib.Core.Bool.{Bool, true, false, cond}
use mathlib.Core.List.{List, [], ◌∷◌}
use native.Mathlib.Numerals.{add-one}
use native.Mathlib.Omega.{arith}
use borrow.Author.Tests.{eq-eqb, ne_eqb, lt-ltb, le-ltb, ltb-true, ltb-false}
use lib.Dec.{ltb, eqb, leb-suc-suc}
use lib.ListN.{length, get_or, take, drop, length-drop, drop_of_length-le}
use lib.Seq.{drop-cons, drop-drop}
use Rattle.text.specs.Text.{prefixed, lines, before, line_at, end_at, next_line}

-- At the end of a line, and before a byte of it.
module _ (text : List ℕ) (i : ℕ) where
  pub text_ends : length text ≤ i → line_at text i ≡ []
  unfolding before
  text_ends h = rw (drop_of_length-le text h)

  pub line_ends : i < length text → get_or text i 0 ≡ 10 → line_at text i ≡ []
  unfolding before
  line_ends h e = rw (drop-cons text i 0 h, eq-eqb (get_or text i 0) 10 e)

  pub line_goes_on : i < length text → (get_or text i 0 ≡ 10 → ⊥) → line_at text i ≡ get_or text i 0 ∷ line_at text (i + 1)
  unfolding before
  line_goes_on h n = rw (add-one, drop-cons text i 0 h, ne_eqb (get_or text i 0) 10 n)

-- A line goes on behind some of its bytes, and is no longer than the text.
pub line_behind : (n : ℕ) (s : List ℕ) → n ≤ length (before 10 s) → before 10 (drop n s) ≡ drop n (before 10 s)
unfolding before
line_behind zero s h = refl
line_behind (suc n) [] h = refl
line_behind (suc n) (c ∷ s) h = go (eqb c 10) h (line_behind n s)
  where
    go : (b : Bool) → suc n ≤ length (cond b [] (c ∷ before 10 s)) → (n ≤ length (before 10 s) → before 10 (drop n s) ≡ drop n (before 10 s))
        → before 10 (drop n s) ≡ drop (suc n) (cond b [] (c ∷ before 10 s))
    go true l f = absurd (omega arith)
    go false l f = f (omega arith)

pub line_within : (s : List ℕ) → length (before 10 s) ≤ length s
unfolding before
line_within [] = omega arith
line_within (c ∷ s) = go (eqb c 10) (line_within s)
  where
    go : (b : Bool) → length (before 10 s) ≤ length s → length (cond b [] (c ∷ before 10 s)) ≤ suc (length s)
    go true l = omega arith
    go false l = omega arith

-- The bytes of a line are the text's.
pub line_part : (n k : ℕ) (s : List ℕ) → k + n ≤ length (before 10 s) → take n (drop k (before 10 s)) ≡ take n (drop k s)
unfolding before
line_part zero k s h = refl
line_part (suc n) zero [] h = refl
line_part (suc n) zero (c ∷ s) h = go (eqb c 10) h (line_part n 0 s)
  where
    go : (b : Bool) → 0 + suc n ≤ length (cond b [] (c ∷ before 10 s)) → (0 + n ≤ length (before 10 s) → take n (before 10 s) ≡ take n s)
        → take (suc n) (cond b [] (c ∷ before 10 s)) ≡ c ∷ take n s
    go true l f = absurd (omega arith)
    go false l f = ap (λ (u : List ℕ). c ∷ u) (f (omega arith))
line_part (suc n) (suc k) [] h = refl
line_part (suc n) (suc k) (c ∷ s) h = go (eqb c 10) h (line_part (suc n) k s)
  where
    go : (b : Bool) → suc k + suc n ≤ length (cond b [] (c ∷ before 10 s)) → (k + suc n ≤ length (before 10 s) → take (suc n) (drop k (before 10 s)) ≡ take (suc n) (drop k s))
        → take (suc n) (drop (suc k) (cond b [] (c ∷ before 10 s))) ≡ take (suc n) (drop k s)
    go true l f = absurd (omega arith)
    go false l f = f (omega arith)

-- How many of n bytes a first line of l takes, with its byte 10.
taking : ℕ → ℕ → ℕ
taking l n = cond (ltb l n) (suc l) l

taking_more : (l n : ℕ) → taking (suc l) (suc n) ≡ suc (taking l n)
unfolding taking
taking_more l n = rw (leb-suc-suc (suc l) n) (go (ltb l n))
  where
    go : (b : Bool) → cond b (suc (suc l)) (suc l) ≡ suc (cond b (suc l) l)
    go true = refl
    go false = refl

-- A first line that is longer by one byte.
longer : (c : ℕ) (s l : List ℕ) (ls : List (List ℕ)) → ls ≡ l ∷ lines (drop (taking (length l) (length s)) s)
    → prefixed false c ls ≡ (c ∷ l) ∷ lines (drop (taking (suc (length l)) (suc (length s))) (c ∷ s))
unfolding prefixed
longer c s l ls e = rw (e, taking_more (length l) (length s))

-- A first line that is empty, and one that is the last byte.
ended : (c : ℕ) (s : List ℕ) (ls : List (List ℕ)) → ls ≡ lines s → prefixed true c ls ≡ [] ∷ lines (drop (taking 0 (suc (length s))) (c ∷ s))
unfolding prefixed taking
ended c s ls e = rw (lt-ltb 0 (suc (length s)) (omega arith), e)

alone : (c : ℕ) → prefixed false c [] ≡ (c ∷ []) ∷ lines (drop (taking 1 1) (c ∷ []))
unfolding prefixed taking lines
alone c = refl

-- The first line, and the lines behind it.
first_line : (c : ℕ) (s : List ℕ) → lines (c ∷ s) ≡ before 10 (c ∷ s) ∷ lines (drop (taking (length (before 10 (c ∷ s))) (suc (length s))) (c ∷ s))
unfolding lines before
first_line c [] = go (eqb c 10)
  where
    go : (b : Bool) → prefixed b c [] ≡ cond b [] (c ∷ []) ∷ lines (drop (taking (length (cond b [] (c ∷ []))) 1) (c ∷ []))
    go true = ended c [] [] refl
    go false = alone c
first_line c (d ∷ s) = go (eqb c 10) (lines (d ∷ s)) (before 10 (d ∷ s)) refl (first_line d s)
  where
    go : (b : Bool) (ls : List (List ℕ)) (l : List ℕ) → ls ≡ lines (d ∷ s) → ls ≡ l ∷ lines (drop (taking (length l) (suc (length s))) (d ∷ s))
        → prefixed b c ls ≡ cond b [] (c ∷ l) ∷ lines (drop (taking (length (cond b [] (c ∷ l))) (suc (suc (length s)))) (c ∷ d ∷ s))
    go true ls l q e = ended c (d ∷ s) ls q
    go false ls l q e = longer c (d ∷ s) l ls e

first_of : (s : List ℕ) → 0 < length s → lines s ≡ before 10 s ∷ lines (drop (taking (length (before 10 s)) (length s)) s)
first_of [] h = absurd (omega arith)
first_of (c ∷ s) h = first_line c s

-- The same from `at` on.
next_is : (text : List ℕ) (at : ℕ) → at < length text → at + taking (length (line_at text at)) (length (drop at text)) ≡ next_line text at
unfolding taking
next_is text at h = rw (length-drop at text) (go (ltb (end_at text at) (length text)) refl)
  where
    l : ℕ
    l = length (line_at text at)

    go : (b : Bool) → ltb (end_at text at) (length text) ≡ b → at + cond (ltb l (length text - at)) (suc l) l ≡ cond b (end_at text at + 1) (end_at text at)
    go true e =
        let k : end_at text at < length text = ltb-true (end_at text at) (length text) e in
        rw (lt-ltb l (length text - at) (omega arith)) (omega arith)
    go false e =
        let k : length text ≤ end_at text at = ltb-false (end_at text at) (length text) e in
        rw (le-ltb l (length text - at) (omega arith))

pub lines_at : (text : List ℕ) (at : ℕ) → at < length text → lines (drop at text) ≡ line_at text at ∷ lines (drop (next_line text at) text)
lines_at text at h =
    first_of (drop at text) (rw length-drop (omega arith))
    ∙ ap (λ (x : List ℕ). line_at text at ∷ lines x)
    (drop-drop (taking (length (line_at text at)) (length (drop at text))) at text ∙ ap (λ (n : ℕ). drop n text) (next_is text at h))

-- The next line begins further on, within the text.
pub next_line_lem : (text : List ℕ) (at : ℕ) → at < length text → (at < next_line text at) × (next_line text at ≤ length text)
next_line_lem text at h = go (ltb (end_at text at) (length text)) refl
  where
    inside : end_at text at ≤ length text
    inside = omega (arith, line_within (drop at text), length-drop at text)

    go : (b : Bool) → ltb (end_at text at) (length text) ≡ b → (at < cond b (end_at text at + 1) (end_at text at)) × (cond b (end_at text at + 1) (end_at text at) ≤ length text)
    go true e = let k = ltb-true (end_at text at) (length text) e in (omega arith, omega arith)
    go false e = let k = ltb-false (end_at text at) (length text) e in (omega arith, inside)
