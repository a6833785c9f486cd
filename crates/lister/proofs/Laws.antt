-- Laws of the first lines of a listing, of the words that are shown, and of the answers.
use Prim.Native.Nat.{ℕ, zero, suc, ◌+◌, ◌≤◌, ◌<◌}
use mathlib.Core.Path.{◌≡◌, refl, sym, ap, ◌∙◌}
use mathlib.Core.Bool.{Bool, true, false, cond}
use mathlib.Core.List.{List, [], ◌∷◌, ◌++◌, append-nil, append_assoc}
use native.Mathlib.Nat.{add-zero, zero-add, suc-add, add-suc}
use native.Mathlib.Numerals.{add-one}
use native.Mathlib.Omega.{arith}
use borrow.Author.Tests.{eq-eqb, ne_eqb}
use lib.Dec.{eqb}
use lib.ListN.{length, get_or, take, length-append}
use Rattle.std.specs.Prelude.{Result, Ok, Err}
use Rattle.microword.specs.Microword.{fields_of, normal_form}
use Rattle.microtext.specs.Listing.{line, lines, up_to, shown}
use Rattle.lister.specs.Answers.{Outcome, listed, seen}
use Rattle.lister.specs.declared.Refusal.{Refusal}
use Rattle.lister.specs.declared.Refusal.TheVariants.{WrongSize, SmallRoom, BadWord, PastRoom}

-- One line more.
lines_from : (ws : List ℕ) (n i : ℕ) → i < length ws → lines n (take (suc i) ws) ≡ lines n (take i ws) ++ line (n + i) (fields_of (get_or ws i 0))
unfolding lines
lines_from [] n i h = absurd (omega arith)
lines_from (w ∷ ws) n zero h = rw (append-nil, add-zero)
lines_from (w ∷ ws) n (suc i) h =
    rw (lines_from ws (suc n) i (omega arith), suc-add, add-suc) (sym (append_assoc (line n (fields_of w)) (lines (suc n) (take i ws)) (line (suc (n + i)) (fields_of (get_or ws i 0)))))

pub lines_more : (ws : List ℕ) (i : ℕ) → i < length ws → lines 0 (take (i + 1) ws) ≡ lines 0 (take i ws) ++ line i (fields_of (get_or ws i 0))
lines_more ws i h = rw (add-one, lines_from ws 0 i h, zero-add)

-- The first lines are no longer than all.
pub lines_le : (ws : List ℕ) (i : ℕ) → length (lines 0 (take i ws)) ≤ length (lines 0 ws)
unfolding lines
lines_le ws i = go ws 0 i
  where
    go : (ws : List ℕ) (n i : ℕ) → length (lines n (take i ws)) ≤ length (lines n ws)
    go [] n zero = omega arith
    go [] n (suc i) = omega arith
    go (w ∷ ws) n zero = omega arith
    go (w ∷ ws) n (suc i) = simp length-append (omega (arith, go ws (suc n) i))

-- Last words whose normal form is 0 are not shown; up to one whose normal form is not 0 all are.
pub shown_none : (ws : List ℕ) → ((k : ℕ) → k < length ws → normal_form (get_or ws k 0) ≡ 0) → shown ws ≡ []
unfolding shown up_to
shown_none [] none = refl
shown_none (w ∷ ws) none = rw (shown_none ws (λ k h. none (suc k) (omega arith)), eq-eqb _ _ (none 0 (omega arith)))

pub shown_to : (ws : List ℕ) (last : ℕ) → last < length ws → (normal_form (get_or ws last 0) ≡ 0 → ⊥)
    → ((k : ℕ) → last + 1 ≤ k → k < length ws → normal_form (get_or ws k 0) ≡ 0) → shown ws ≡ take (last + 1) ws
unfolding shown up_to
shown_to [] last h there none = absurd (omega arith)
shown_to (w ∷ ws) zero h there none = rw (shown_none ws (λ k l. none (suc k) (omega arith) (omega arith)), ne_eqb _ _ there)
shown_to (w ∷ []) (suc last) h there none = absurd (omega arith)
shown_to (w ∷ x ∷ ws) (suc last) h there none =
    rw (add-one, rw add-one at (shown_to (x ∷ ws) last (omega arith) there (λ k a b. none (suc k) (omega arith) (omega arith))))

-- No more words are shown than there are.
up_to_le : (w : ℕ) (ws : List ℕ) → length (up_to w ws) ≤ suc (length ws)
unfolding up_to
up_to_le w [] = go (eqb (normal_form w) 0)
  where
    go : (b : Bool) → length (cond b [] (w ∷ [])) ≤ 1
    go true = omega arith
    go false = omega arith
up_to_le w (x ∷ ws) = omega arith

pub shown_le : (ws : List ℕ) → length (shown ws) ≤ length ws
unfolding shown
shown_le [] = omega arith
shown_le (w ∷ ws) = omega (arith, up_to_le w (shown ws), shown_le ws)

-- An answer is known by its number and the line that it names.
abbrev answer_of : ℕ → ℕ → ℕ → Result ℕ Refusal
answer_of answer line length =
    cond (eqb answer 0) (Ok length)
    (cond (eqb answer 1) (Err WrongSize) (cond (eqb answer 16) (Err SmallRoom) (cond (eqb answer 4) (Err (BadWord (record { 0 = line }))) (Err PastRoom))))

answer_back : (r : Result ℕ Refusal) (left : List ℕ) → answer_of (seen r left).answer (seen r left).line (seen r left).length ≡ r
answer_back (Ok length) left = refl
answer_back (Err WrongSize) left = refl
answer_back (Err SmallRoom) left = refl
answer_back (Err (BadWord line)) left = refl
answer_back (Err PastRoom) left = refl

room_back : (r : Result ℕ Refusal) (left : List ℕ) → (seen r left).room ≡ left
room_back (Ok length) left = refl
room_back (Err refusal) left = refl

-- No second answer: what the lister promises fixes the answer, the length and the room.
pub only : (store room : List ℕ) (r r' : Result ℕ Refusal) (left left' : List ℕ) → listed store room ≡ seen r left → listed store room ≡ seen r' left'
    → (r ≡ r') × (left ≡ left')
only store room r r' left left' p q =
    let e = sym p ∙ q in (
      sym (answer_back r left) ∙ ap (λ (o : Outcome). answer_of o.answer o.line o.length) e ∙ answer_back r' left',
      sym (room_back r left) ∙ ap (λ (o : Outcome). o.room) e ∙ room_back r' left',
    )
