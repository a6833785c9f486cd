-- Laws of the list program: the words that bytes hold, what the lister's answer leaves in the room, and the text whatever the room held.
use Prim.Native.Nat.{ℕ, zero, suc, ◌+◌, ◌*◌, ◌≤◌, ◌<◌}
use mathlib.Core.Path.{◌≡◌, refl, sym, ap, ap₂, ◌∙◌}
use mathlib.Core.Bool.{Bool, true, false, cond}
use mathlib.Core.List.{List, [], ◌∷◌, append-nil, map}
use native.Mathlib.Numerals.{add-one}
use native.Mathlib.Nat.{add-zero, zero-add, add-suc, suc-add}
use Rattle.std.specs.Int.{from_be_bytes}
use Rattle.std.proofs.lemmas.List.{get_or-map, length-map}
use Rattle.std.proofs.Common.{w32}
use Rattle.std.specs.Simd.{first_chunks}
use native.Mathlib.Omega.{arith}
use lib.Dec.{ltb}
use lib.ListN.{length, get_or, take, drop, replicate, length-append}
use lib.Seq.{sets, sets-eq, take-append_seam}
use borrow.Author.Tests.{eq-eqb, le-ltb}
use Rattle.word.proofs.Tests.{either}
use Rattle.microword.specs.Microword.{fields_of}
use Rattle.store.specs.Store.{wrong_store, words, with_word, good_before, first_bad}
use Rattle.microtext.specs.Listing.{line, lines, shown, listing}
use Rattle.microline.proofs.Laws.{line_le}
use Rattle.lister.proofs.Laws.{shown_le}
use Rattle.console.specs.Text.{refusal}
use Rattle.word.specs.declared.Line.{Line}
use Rattle.std.specs.Prelude.{Ok, Err, Some}
use Rattle.std.specs.Option.{option_map}
use Rattle.lister.specs.Answers.{Outcome, number, line_of, seen, refused, done, listed}
use Rattle.lister.specs.declared.Refusal.{Refusal}
use Rattle.lister.specs.declared.Refusal.TheVariants.{WrongSize, SmallRoom, BadWord, PastRoom}
use Rattle.list.specs.Listing.{words_of, with_words, store_of, told, printed}

-- 256 bytes hold 64 words.
pub words_count : (k : ℕ) (input : List ℕ) → length input ≡ 4 * k → length (words_of input) ≡ k
unfolding words_of
words_count k [] h = omega arith
words_count k (a ∷ []) h = absurd (omega arith)
words_count k (a ∷ b ∷ []) h = absurd (omega arith)
words_count k (a ∷ b ∷ c ∷ []) h = absurd (omega arith)
words_count zero (a ∷ b ∷ c ∷ d ∷ rest) h = absurd (omega arith)
words_count (suc k) (a ∷ b ∷ c ∷ d ∷ rest) h = ap suc (words_count k rest (omega arith))

-- The words of an input are those of its bytes by fours.
abbrev pub joined : List ℕ → ℕ
joined bytes = from_be_bytes w32 bytes

pub words_by_fours : (k : ℕ) (input : List ℕ) → length input ≡ 4 * k → map joined (first_chunks 4 k input) ≡ words_of input
unfolding words_of
words_by_fours zero [] h = refl
words_by_fours (suc k) [] h = absurd (omega arith)
words_by_fours k (a ∷ []) h = absurd (omega arith)
words_by_fours k (a ∷ b ∷ []) h = absurd (omega arith)
words_by_fours k (a ∷ b ∷ c ∷ []) h = absurd (omega arith)
words_by_fours zero (a ∷ b ∷ c ∷ d ∷ rest) h = absurd (omega arith)
words_by_fours (suc k) (a ∷ b ∷ c ∷ d ∷ rest) h =
    ap₂ (λ (w : ℕ) (ws : List ℕ). w ∷ ws) (omega arith) (words_by_fours k rest (omega arith))

pub word_at_line : (input : List ℕ) (line : ℕ) → length input ≡ 256 → line < 64
    → joined (get_or (first_chunks 4 64 input) line []) ≡ get_or (words_of input) line 0
word_at_line input line h inside =
    let same = words_by_fours 64 input h in
    let count : length (first_chunks 4 64 input) ≡ 64 = sym (length-map (first_chunks 4 64 input) joined) ∙ ap length same ∙ words_count 64 input h in
    sym (get_or-map joined (first_chunks 4 64 input) line [] 0 (omega arith)) ∙ ap (λ (ws : List ℕ). get_or ws line 0) same

-- One word more put at its line.
with_from : (ws store : List ℕ) (line i : ℕ) → i < length ws
    → with_word (with_words store line (take i ws)) (line + i) (get_or ws i 0) ≡ with_words store line (take (suc i) ws)
unfolding with_words
with_from [] store line i h = absurd (omega arith)
with_from (w ∷ ws) store line zero h = rw add-zero
with_from (w ∷ ws) store line (suc i) h =
    rw (add-suc, ← suc-add) (with_from ws (with_word store line w) (suc line) i (omega arith))

pub with_more : (ws store : List ℕ) (i : ℕ) → i < length ws
    → with_word (with_words store 0 (take i ws)) i (get_or ws i 0) ≡ with_words store 0 (take (i + 1) ws)
with_more ws store i h = rw (add-one) (rw zero-add at (with_from ws store 0 i h))

-- The words up to one, put at their lines.
pub words_put : (input old store : List ℕ) (line : ℕ) → length input ≡ 256 → line < 64 → store ≡ with_words old 0 (take line (words_of input))
    → with_word store line (joined (get_or (first_chunks 4 64 input) line [])) ≡ with_words old 0 (take (line + 1) (words_of input))
words_put input old store line h inside so_far =
    let more = with_more (words_of input) old line (omega (arith, words_count 64 input h)) in
    ap₂ (λ (s : List ℕ) (w : ℕ). with_word s line w) so_far (word_at_line input line h inside) ∙ more

-- A listing lies within the room that it is left in.
abbrev InRoom : Outcome → Type 0
InRoom o = o.length ≤ length o.room

pub listed_within : (store room : List ℕ) → InRoom (listed store room)
unfolding listed
listed_within store room =
    let none : 0 ≤ length room = omega arith in
    let text = listing (words store) in
    either InRoom (wrong_store store) none
    (either InRoom (ltb (length room) 2816) none
    (either InRoom (ltb (first_bad store) (length (words store))) none
    (either InRoom (ltb (length room) (length text)) none (omega (arith, length-append text (drop (length text) room))))))

-- As many words as a store has lines, put from line 0 on, are the store's control words.
with_sets : (ws store : List ℕ) (line : ℕ) → with_words store line ws ≡ sets store line ws
unfolding with_words
with_sets [] store line = refl
with_sets (w ∷ ws) store line = with_sets ws (with_word store line w) (suc line)

store_words : (input : List ℕ) → length input ≡ 256 → words (store_of input) ≡ words_of input
store_words input h =
    let ws = words_of input in
    let count : length ws ≡ 64 = words_count 64 input h in
    let fits : 0 + length ws ≤ 64 = omega arith in
    with_sets ws (replicate 64 0) 0 ∙ sets-eq ws (replicate 64 0) 0 fits ∙ rw count (append-nil ws)

-- A line has at most 44 bytes, so the room is enough for any listing.
lines_le : (number : ℕ) (words : List ℕ) → length (lines number words) ≤ 44 * length words
unfolding lines
lines_le number [] = omega arith
lines_le number (w ∷ words) =
    omega (
      arith,
      length-append (line number (fields_of w)) (lines (suc number) words),
      line_le number (fields_of w),
      lines_le (suc number) words,
    )

-- What is told of a listing.
pub told_done : (length : ℕ) (room : List ℕ) → told (seen (Ok length) room) ≡ take length room
unfolding told
told_done length room = refl

-- What is told of a refusal: its number, with the line that it names.
pub told_refusal : (r : Refusal) (room : List ℕ) → told (seen (Err r) room) ≡ refusal (number r) (option_map (λ (line : Line). line.0) (line_of r))
unfolding told
told_refusal WrongSize room = refl
told_refusal SmallRoom room = refl
told_refusal (BadWord line) room = refl
told_refusal PastRoom room = refl

-- What is told of a bad word, and of a listing.
either_told : (bad : Bool) (line : ℕ) (text room : List ℕ) → told (cond bad (refused 4 line room) (done text room)) ≡ cond bad (refusal 4 (Some line)) text
unfolding told
either_told true line text room = refl
either_told false line text room = take-append_seam text (drop (length text) room)

-- Whatever the room of 2,816 bytes or more held, the text is the listing, or names the first bad word's line.
pub printed_is : (input room : List ℕ) → length input ≡ 256 → 2816 ≤ length room
    → printed input room ≡ cond (ltb (good_before (words_of input)) 64) (refusal 4 (Some (good_before (words_of input)))) (listing (words_of input))
unfolding printed listed
printed_is input room h wide =
    let ws = words_of input in
    let same = store_words input h in
    let whole : length ws ≡ 64 = words_count 64 input h in
    let fits : length (listing ws) ≤ length room = omega (arith, lines_le 0 (shown ws), shown_le ws) in
    rw (eq-eqb _ _ h, same, whole, le-ltb _ _ wide, le-ltb _ _ fits) (either_told (ltb (good_before ws) 64) (good_before ws) (listing ws) room)
