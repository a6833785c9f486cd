-- The way back for the two functions: the lister's answer 0 puts the listing at the room's start, and `listing_back`
-- reads it; the normal forms have the same lines, since a line never shows a field without use.
use Prim.Native.Nat.{ℕ, suc, ◌+◌, ◌≤◌}
use mathlib.Core.Path.{◌≡◌, refl, sym, ◌∙◌}
use mathlib.Core.Bool.{Bool, true, false, cond, not, ◌&&◌}
use mathlib.Core.List.{List, [], ◌∷◌, map}
use native.Mathlib.Omega.{arith}
use lib.ListN.{length, drop, length-map}
use lib.Seq.{take-append_seam}
use lib.Dec.{leb, ltb, eqb}
use borrow.Author.Tests.{le-ltb, lt-leb, eq-eqb, ltb-false, eqb-true}
use Rattle.microword.specs.Microword.{fields_of, word_of, bad_word, normal_fields, normal_form}
use Rattle.word.proofs.Tests.{neither}
use Rattle.microword.proofs.Laws.{fields_within, word_below, normal_fields_lem, normal_again}
use Rattle.store.specs.Store.{words, good_before, first_bad}
use Rattle.microtext.specs.Listing.{line, lines, up_to, shown, listing}
use Rattle.lister.specs.Answers.{refused, done, listed}
use Rattle.microline.proofs.Laws.{line_normal}
use Rattle.way_back.proofs.Reading.{AllGood, listing_back}
use Rattle.way_back.specs.Back.{text, Back}

-- The normal forms have the same lines.
same_line : (k w : ℕ) → line k (fields_of (normal_form w)) ≡ line k (fields_of w)
same_line k w = rw (normal_fields_lem w) (line_normal k (fields_of w) (fields_within w).f)

same_lines : (k : ℕ) (ws : List ℕ) → lines k (map normal_form ws) ≡ lines k ws
unfolding lines
same_lines k [] = refl
same_lines k (w ∷ ws) = rw (same_line k w, same_lines (suc k) ws)

same_up_to : (w : ℕ) (ws : List ℕ) → up_to (normal_form w) (map normal_form ws) ≡ map normal_form (up_to w ws)
unfolding up_to
same_up_to w (x ∷ ws) = refl
same_up_to w [] = rw (normal_again w) (by (eqb (normal_form w) 0))
  where
    by : (none : Bool) → cond none [] (normal_form w ∷ []) ≡ map normal_form (cond none [] (w ∷ []))
    by true = refl
    by false = refl

same_shown : (ws : List ℕ) → shown (map normal_form ws) ≡ map normal_form (shown ws)
unfolding shown
same_shown [] = refl
same_shown (w ∷ ws) = rw (same_shown ws) (same_up_to w (shown ws))

pub same_listing : (ws : List ℕ) → listing (map normal_form ws) ≡ listing ws
same_listing ws = rw (same_shown ws) (same_lines 0 (shown ws))

-- No bad line is the same as every word good, and normal forms of good words are good.
all_good : (ws : List ℕ) → length ws ≤ good_before ws → AllGood ws
all_good [] h = tt
all_good (w ∷ ws) h = by (bad_word w) refl h (all_good ws)
  where
    by : (bad : Bool) → bad_word w ≡ bad → suc (length ws) ≤ cond (not bad) (1 + good_before ws) 0 → (length ws ≤ good_before ws → AllGood ws) → (bad_word w ≡ false) × AllGood ws
    by true e h rest = let z : ⊥ = omega arith in absurd z
    by false e h rest = (e, rest (omega arith))

no_bad : (ws : List ℕ) → AllGood ws → length ws ≤ good_before ws
no_bad [] a = omega arith
no_bad (w ∷ ws) a = rw a.0 (omega (arith, no_bad ws a.1))

normal_good : (w : ℕ) → bad_word w ≡ false → bad_word (normal_form w) ≡ false
unfolding bad_word normal_form
normal_good w e =
    let below : leb 8388608 (normal_form w) ≡ false = unfold normal_form in (lt-leb 8388608 (word_of (normal_fields (fields_of w))) (word_below (normal_fields (fields_of w)))) in
    rw (below, normal_fields_lem w) (unfold normal_fields in (neither (leb 8388608 w) (eqb (fields_of w).rd 1 && eqb (fields_of w).wr 1) e).1)

normals_good : (ws : List ℕ) → AllGood ws → AllGood (map normal_form ws)
normals_good [] a = tt
normals_good (w ∷ ws) a = (normal_good w a.0, normals_good ws a.1)

-- What answer 0 of the lister says of its store and room.
record Listable (store room : List ℕ) : Type 0 where
  lines : length store ≡ 64
  wide : ltb (length room) 2816 ≡ false
  good : length (words store) ≤ first_bad store
  fits : ltb (length room) (length (listing (words store))) ≡ false

listable : (store room : List ℕ) → (listed store room).answer ≡ 0 → Listable store room
unfolding listed
listable store room e =
    by (eqb (length store) 64) (ltb (length room) 2816) (ltb (first_bad store) (length (words store))) (ltb (length room) (length (listing (words store)))) refl refl refl refl e
  where
    by : (a b c d : Bool) → eqb (length store) 64 ≡ a → ltb (length room) 2816 ≡ b → ltb (first_bad store) (length (words store)) ≡ c → ltb (length room) (length (listing (words store))) ≡ d
        → (cond (not a) (refused 1 0 room) (cond b (refused 16 0 room) (cond c (refused 4 (first_bad store) room) (cond d (refused 17 0 room) (done (listing (words store)) room))))).answer ≡ 0
        → Listable store room
    by false b c d p q r s e = let z : ⊥ = omega arith in absurd z
    by true true c d p q r s e = let z : ⊥ = omega arith in absurd z
    by true false true d p q r s e = let z : ⊥ = omega arith in absurd z
    by true false false true p q r s e = let z : ⊥ = omega arith in absurd z
    by true false false false p q r s e = record { lines = eqb-true (length store) 64 p; wide = q; good = ltb-false (first_bad store) (length (words store)) r; fits = s }

-- Then its text is the listing.
text_is : (store room : List ℕ) → Listable store room → text store room ≡ listing (words store)
unfolding listed
text_is store room l =
    rw (eq-eqb _ _ l.lines, l.wide, le-ltb _ _ l.good, l.fits) (take-append_seam (listing store) (drop (length (listing (words store))) room))

pub back : (store room : List ℕ) → (listed store room).answer ≡ 0 → Back store room
back store room e =
    let l : Listable store room = listable store room e in
    let a : AllGood store = all_good store l.good in
    let n : Listable (map normal_form store) room =
    record {
      lines = length-map store normal_form ∙ l.lines;
      wide = l.wide;
      good = no_bad (map normal_form store) (normals_good store a);
      fits = rw (same_listing store) l.fits;
    } in
    record {
      normal = λ other h. rw (text_is store room l) (listing_back store other l.lines a h);
      again = text_is (map normal_form store) room n ∙ same_listing store ∙ sym (text_is store room l);
    }
