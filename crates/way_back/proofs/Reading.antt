-- Assembling a listing gives the normal forms of the store that was listed: its lines are read back one by one, and what is not shown is zero.
use Prim.Native.Nat.{ℕ, zero, suc, ◌+◌, ◌-◌, ◌*◌, ◌≤◌, ◌<◌}
use mathlib.Core.Path.{◌≡◌, refl, sym, ap, ◌∙◌}
use mathlib.Core.Bool.{Bool, true, false, cond, not}
use mathlib.Core.List.{List, [], ◌∷◌, ◌++◌, map, append_assoc}
use native.Mathlib.Nat.{sub-zero, suc-sub-suc}
use native.Mathlib.Omega.{arith}
use borrow.Author.Tests.{eqb-true, not-true, eq-eqb}
use lib.Dec.{eqb}
use lib.ListN.{length, drop, set, replicate, length-append, length-map}
use lib.Seq.{sets, sets-eq}
use Rattle.microword.specs.Microword.{fields_of, bad_word, normal_form}
use Rattle.microword.proofs.Laws.{fields_within}
use Rattle.microtext.specs.Listing as listing
use Rattle.microtext.specs.Listing.{up_to, shown}
use Rattle.word.proofs.Tests.{both, All}
use Rattle.std.specs.Prelude.{Ok}
use Rattle.microtext.specs.Onward.{onward}
use Rattle.microassembler.specs.Assembled.{filled, zero_words, assembled}
use Rattle.microassembler.proofs.Filled.{by_lines}
use Rattle.text.specs.Text.{prefixed, lines}
use Rattle.text.specs.Decimal.{short_decimal}
use Rattle.way_back.proofs.Printed.{unbroken, number_back}
use Rattle.way_back.proofs.Pieces.{spaced}
use Rattle.way_back.proofs.Relisted.{texts, texts_each, texts_few, body, body_spaced, line_back}

-- Lines of a listing.
lines_first : (l s : List ℕ) → unbroken l ≡ true → lines (l ++ 10 ∷ s) ≡ l ∷ lines s
unfolding lines prefixed unbroken
lines_first [] s e = refl
lines_first (c ∷ l) s e =
    let h = both (not (eqb c 10)) (unbroken l) e in
    rw (not-true (eqb c 10) h.0, lines_first l s h.1)

unbroken_append : (p q : List ℕ) → unbroken p ≡ true → unbroken q ≡ true → unbroken (p ++ q) ≡ true
unfolding unbroken
unbroken_append [] q a b = b
unbroken_append (c ∷ p) q a b =
    let h = both (not (eqb c 10)) (unbroken p) a in
    rw h.0 (unbroken_append p q h.1 b)

spaced_unbroken : (ps : List (List ℕ)) → All (λ x. unbroken x ≡ true) ps → unbroken (spaced ps) ≡ true
unfolding spaced unbroken
spaced_unbroken [] e = refl
spaced_unbroken (p ∷ ps) e = unbroken_append p (59 ∷ spaced ps) e.0 (spaced_unbroken ps e.1)

body_unbroken : (k w : ℕ) → k < 64 → unbroken (body k (fields_of w)) ≡ true
unfolding unbroken
body_unbroken k w l =
    rw (body_spaced k (fields_of w))
    (unbroken_append (short_decimal k) (58 ∷ spaced (texts (fields_of w))) (number_back k l).one_line
    (spaced_unbroken (texts (fields_of w)) (texts_each (λ x. unbroken x ≡ true) (fields_of w) (fields_within w) (λ x p b. b.one_line))))

-- They are not long.
spaced_short : (ps : List (List ℕ)) → All (λ x. length x < 18) ps → length (spaced ps) ≤ 19 * length ps
unfolding spaced
spaced_short [] e = omega arith
spaced_short (p ∷ ps) e = let h = spaced_short ps e.1 in rw (length-append p (59 ∷ spaced ps)) (omega (arith, e.0))

body_short : (k w : ℕ) → k < 64 → length (body k (fields_of w)) ≤ 60
body_short k w l =
    rw (body_spaced k (fields_of w), length-append (short_decimal k) (58 ∷ spaced (texts (fields_of w))))
    (omega (
      arith,
      (number_back k l).short,
      texts_few (fields_of w),
      spaced_short (texts (fields_of w)) (texts_each (λ x. length x < 18) (fields_of w) (fields_within w) (λ x p b. b.short)),
    ))

-- The lines of words from k on.
each : ℕ → List ℕ → List (List ℕ)
each k [] = []
each k (w ∷ ws) = body k (fields_of w) ∷ each (suc k) ws

lines_listed : (ws : List ℕ) (k : ℕ) → k + length ws ≤ 64 → lines (listing.lines k ws) ≡ each k ws
unfolding lines each listing.lines listing.line
lines_listed [] k h = refl
lines_listed (w ∷ ws) k h =
    ap lines (append_assoc (body k (fields_of w)) (10 ∷ []) (listing.lines (suc k) ws))
    ∙ lines_first (body k (fields_of w)) (listing.lines (suc k) ws) (body_unbroken k w (omega arith))
    ∙ ap (λ (l : List (List ℕ)). body k (fields_of w) ∷ l) (lines_listed ws (suc k) (omega arith))

listed_short : (ws : List ℕ) (k : ℕ) → k + length ws ≤ 64 → length (listing.lines k ws) ≤ 61 * length ws
unfolding listing.lines listing.line
listed_short [] k h = omega arith
listed_short (w ∷ ws) k h =
    rw (length-append (body k (fields_of w) ++ 10 ∷ []) (listing.lines (suc k) ws), length-append (body k (fields_of w)) (10 ∷ []))
    (omega (arith, body_short k w (omega arith), listed_short ws (suc k) (omega arith)))

-- No word of the store is bad.
abbrev pub AllGood : List ℕ → Type 0
AllGood ws = All (λ (w : ℕ). bad_word w ≡ false) ws

filled_listed : (ws : List ℕ) (k : ℕ) (us : List ℕ) → k + length ws ≤ 64 → AllGood ws → filled k us (each k ws) ≡ Ok (sets us k (map normal_form ws))
unfolding filled each onward
filled_listed [] k us h a = refl
filled_listed (w ∷ ws) k us h a = rw (line_back k w (omega arith) a.0) (filled_listed ws (suc k) (set us k (normal_form w)) (omega arith) a.1)

-- What is not shown is zero.
shown_few : (ws : List ℕ) → length (shown ws) ≤ length ws
unfolding shown up_to
shown_few [] = omega arith
shown_few (w ∷ ws) = go (shown ws) (shown_few ws)
  where
    one : (b : Bool) → length (cond b [] (w ∷ [])) ≤ suc (length ws)
    one true = omega arith
    one false = omega arith

    go : (l : List ℕ) → length l ≤ length ws → length (up_to w l) ≤ suc (length ws)
    go [] h = one (eqb (normal_form w) 0)
    go (x ∷ xs) h = omega arith

shown_good : (ws : List ℕ) → AllGood ws → AllGood (shown ws)
unfolding shown up_to
shown_good [] a = tt
shown_good (w ∷ ws) a = go (shown ws) (shown_good ws a.1)
  where
    one : (b : Bool) → AllGood (cond b [] (w ∷ []))
    one true = tt
    one false = (a.0, tt)

    go : (l : List ℕ) → AllGood l → AllGood (up_to w l)
    go [] h = one (eqb (normal_form w) 0)
    go (x ∷ xs) h = (a.0, h)

abbrev zeros : ℕ → List ℕ
zeros n = replicate n 0

drop_zeros : (n m : ℕ) → drop n (zeros m) ≡ zeros (m - n)
drop_zeros zero m = ap zeros (sym (sub-zero m))
drop_zeros (suc n) zero = let e : 0 ≡ 0 - suc n = omega arith in ap zeros e
drop_zeros (suc n) (suc m) = drop_zeros n m ∙ ap zeros (sym (suc-sub-suc m n))

shown_normal : (ws : List ℕ) → map normal_form (shown ws) ++ zeros (length ws - length (shown ws)) ≡ map normal_form ws
unfolding shown up_to
shown_normal [] = refl
shown_normal (w ∷ ws) = go (shown ws) (shown_normal ws)
  where
    one : (b : Bool) → eqb (normal_form w) 0 ≡ b → zeros (length ws - 0) ≡ map normal_form ws
        → map normal_form (cond b [] (w ∷ [])) ++ zeros (suc (length ws) - length (cond b [] (w ∷ []))) ≡ normal_form w ∷ map normal_form ws
    one true e h =
        let z : normal_form w ≡ 0 = eqb-true (normal_form w) 0 e in
        let n : suc (length ws) - 0 ≡ suc (length ws - 0) = omega arith in
        rw (n, z, ← h)
    one false e h =
        let n : suc (length ws) - 1 ≡ length ws - 0 = omega arith in
        rw (n, ← h)

    go : (l : List ℕ) → map normal_form l ++ zeros (length ws - length l) ≡ map normal_form ws
        → map normal_form (up_to w l) ++ zeros (suc (length ws) - length (up_to w l)) ≡ normal_form w ∷ map normal_form ws
    go [] h = one (eqb (normal_form w) 0) refl h
    go (x ∷ xs) h =
        let n : suc (length ws) - suc (suc (length xs)) ≡ length ws - suc (length xs) = omega arith in
        rw (n, ← h)

-- Assembling a listing gives the normal forms.
filled_back : (ws : List ℕ) → length ws ≡ 64 → AllGood ws → filled 0 zero_words (lines (listing.listing ws)) ≡ Ok (map normal_form ws)
filled_back ws h a =
    let l = shown_few ws in
    let m : length (map normal_form (shown ws)) ≡ length (shown ws) = length-map (shown ws) normal_form in
    let n : 0 + length (map normal_form (shown ws)) ≡ length (shown ws) = omega arith in
    let g : 64 - length (shown ws) ≡ length ws - length (shown ws) = omega arith in
    ap (filled 0 zero_words) (lines_listed (shown ws) 0 (omega arith))
    ∙ filled_listed (shown ws) 0 zero_words (omega arith) (shown_good ws a)
    ∙ ap (λ (ws : List ℕ). Ok ws)
    (sets-eq (map normal_form (shown ws)) zero_words 0 (omega arith)
    ∙ ap (λ (k : ℕ). map normal_form (shown ws) ++ drop k zero_words) n
    ∙ ap (λ (x : List ℕ). map normal_form (shown ws) ++ x) (drop_zeros (length (shown ws)) 64 ∙ ap zeros g)
    ∙ shown_normal ws)

pub listing_back : (ws store : List ℕ) → length ws ≡ 64 → AllGood ws → length store ≡ 64 → assembled (listing.listing ws) store ≡ record { answer = 0; store = map normal_form ws }
listing_back ws store h a k =
    by_lines (listing.listing ws) store (ap not (eq-eqb (length store) 64 k)) (Ok (map normal_form ws))
    (omega (arith, listed_short (shown ws) 0 (omega (arith, shown_few ws)), shown_few ws)) (filled_back ws h a)
