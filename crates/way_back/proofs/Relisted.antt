-- A listed line reads back as the normal form of its word.
use Prim.Native.Nat.{ℕ, zero, suc, ◌≤◌, ◌<◌}
use mathlib.Core.Path.{◌≡◌, refl, sym, ap, ap₂, ◌∙◌}
use mathlib.Core.Bool.{Bool, true, false, cond, not, ◌&&◌, ◌||◌, true≢false, false≢true}
use mathlib.Core.List.{List, [], ◌∷◌, ◌++◌, map, append_assoc}
use native.Mathlib.Omega.{arith}
use borrow.Author.Tests.{lt-ltb, lt-leb, eqb-true, eqb-false, eq-eqb}
use lib.Dec.{leb, eqb}
use lib.ListN.{length}
use Rattle.std.specs.Prelude.{Option, Some, None, Ok, is_some}
use Rattle.std.specs.Option.{unwrap_or}
use Rattle.microword.specs.Microword.{fields_of, word_of, bad_word, idle, binary, normal_fields, normal_form}
use Rattle.microword.specs.declared.Fields.{Fields}
use Rattle.microword.proofs.Laws.{fields_within}
use Rattle.microword.specs.Code.Within.{Within}
use Rattle.token.specs.Tokens.{Token, tokens}
use Rattle.part.specs.Grammar.{part}
use Rattle.microtext.specs.Line.{add, nothing, clash, settled, meaning, divided, parts, behind_number, numbered, line, has_jump, has_transfer}
use Rattle.microtext.specs.Listing as listing
use Rattle.part.specs.declared.Part.{Part}
use Rattle.part.specs.declared.Part.TheVariants.{Operation, Transfer, Jump}
use Rattle.word.proofs.Tests.{neither, All}
use Rattle.text.specs.Text.{bytes, same}
use Rattle.text.specs.Decimal.{from_decimal, short_decimal}
use Rattle.way_back.proofs.Printed.{Back, second, target, operation_back, rd_back, wr_back, jump_back, number_back, undivided}
use Rattle.way_back.proofs.Pieces.{spaced, tokens_split, colon_first, parts_back}

-- Something that is there or not.
abbrev pub when : {A : Type 0} → Bool → A → List A
when true x = x ∷ []
when false x = []

-- What an operation, a transfer and a jump give, each there or not.
all_given : (o t j : Bool) (to : Option ℕ) (f a b r v q k : ℕ)
    → meaning nothing (when o (Some (Operation to f a b)) ++ (when t (Some (Transfer r v)) ++ when j (Some (Jump q k))))
    ≡ settled (record {
      far = j && leb 64 k;
      twice = false;
      operation = o;
      fields =
          record {
            a = cond o a 0;
            b = cond o b 0;
            s = cond o (unwrap_or to 0) 0;
            hs = cond o (cond (is_some to) 1 0) 0;
            f = cond o f 0;
            rd = cond t r 0;
            wr = cond t v 0;
            sq = cond j q 0;
            end = cond j k 0;
          };
    })
unfolding meaning add
all_given true true true to f a b r v q k = refl
all_given true true false to f a b r v q k = refl
all_given true false true to f a b r v q k = refl
all_given true false false to f a b r v q k = refl
all_given false true true to f a b r v q k = refl
all_given false true false to f a b r v q k = refl
all_given false false true to f a b r v q k = refl
all_given false false false to f a b r v q k = refl

-- Where a part is there.
abbrev operates : Fields → Bool
operates m = not (idle m)

turned : (b : Bool) (x : ℕ) → cond (not b) x 0 ≡ cond b 0 x
turned true x = refl
turned false x = refl

-- A number of one bit.
bit : (n : ℕ) → n < 2 → eqb n 0 ≡ false → n ≡ 1
bit n h e = let d = eqb-false n 0 e in omega arith

module _ (m : Fields) (h : Within m) (apart : (eqb m.rd 1 && eqb m.wr 1) ≡ false) where
  stored_s : cond (operates m) (unwrap_or (target m) 0) 0 ≡ cond (eqb m.hs 0) 0 m.s
  unfolding idle
  stored_s = go (eqb m.hs 0) (eqb m.sq 0 || eqb m.sq 3)
    where
      go : (z q : Bool) → cond (not (z && q)) (unwrap_or (cond z None (Some m.s)) 0) 0 ≡ cond z 0 m.s
      go true true = refl
      go true false = refl
      go false q = refl

  stored_hs : cond (operates m) (cond (is_some (target m)) 1 0) 0 ≡ m.hs
  unfolding idle
  stored_hs = go (eqb m.hs 0) (eqb m.sq 0 || eqb m.sq 3) refl
    where
      go : (z q : Bool) → eqb m.hs 0 ≡ z → cond (not (z && q)) (cond (is_some (cond z None (Some m.s))) 1 0) 0 ≡ m.hs
      go true true e = sym (eqb-true m.hs 0 e)
      go true false e = sym (eqb-true m.hs 0 e)
      go false q e = sym (bit m.hs h.hs e)

  stored_b : cond (operates m) (second m.f m.b) 0 ≡ cond (idle m || not (binary m)) 0 m.b
  unfolding binary
  stored_b = go (idle m) (eqb m.f 3 || eqb m.f 4 || eqb m.f 5)
    where
      go : (i b : Bool) → cond (not i) (cond b m.b 0) 0 ≡ cond (i || not b) 0 m.b
      go true b = refl
      go false true = refl
      go false false = refl

  moved_rd : cond (has_transfer m) (cond (eqb m.rd 1) 1 0) 0 ≡ m.rd
  moved_rd = go (eqb m.rd 1) (eqb m.wr 1) refl
    where
      zero_or : eqb m.rd 1 ≡ false → 0 ≡ m.rd
      zero_or e = let d = eqb-false m.rd 1 e in omega (arith, h.rd)

      go : (r v : Bool) → eqb m.rd 1 ≡ r → cond (r || v) (cond r 1 0) 0 ≡ m.rd
      go true v e = sym (eqb-true m.rd 1 e)
      go false true e = zero_or e
      go false false e = zero_or e

  moved_wr : cond (has_transfer m) (cond (eqb m.rd 1) 0 1) 0 ≡ m.wr
  moved_wr = go (eqb m.rd 1) (eqb m.wr 1) refl refl
    where
      zero_or : eqb m.wr 1 ≡ false → 0 ≡ m.wr
      zero_or e = let d = eqb-false m.wr 1 e in omega (arith, h.wr)

      go : (r v : Bool) → eqb m.rd 1 ≡ r → eqb m.wr 1 ≡ v → cond (r || v) (cond r 0 1) 0 ≡ m.wr
      go true true p q = absurd (true≢false (sym (ap₂ (λ (x y : Bool). x && y) p q) ∙ apart))
      go true false p q = zero_or q
      go false true p q = sym (eqb-true m.wr 1 q)
      go false false p q = zero_or q

  jumped_sq : cond (has_jump m) m.sq 0 ≡ m.sq
  jumped_sq = go (eqb m.sq 0) refl
    where
      go : (z : Bool) → eqb m.sq 0 ≡ z → cond (not z) m.sq 0 ≡ m.sq
      go true e = sym (eqb-true m.sq 0 e)
      go false e = refl

  -- The parts of a word, each there or not.
  pub word_parts : List (Option Part)
  word_parts =
      when (operates m) (Some (Operation (target m) m.f m.a (second m.f m.b)))
      ++ (when (has_transfer m) (Some (Transfer (cond (eqb m.rd 1) 1 0) (cond (eqb m.rd 1) 0 1))) ++ when (has_jump m) (Some (Jump m.sq m.end)))

  -- They give its normal fields.
  pub normal_given : meaning nothing word_parts ≡ settled (record { far = has_jump m && leb 64 m.end; twice = false; operation = operates m; fields = normal_fields m })
  unfolding normal_fields word_parts
  normal_given =
      all_given (operates m) (has_transfer m) (has_jump m) (target m) m.f m.a (second m.f m.b) (cond (eqb m.rd 1) 1 0) (cond (eqb m.rd 1) 0 1) m.sq m.end
      ∙ rw (turned (idle m) m.a, stored_b, stored_s, stored_hs, turned (idle m) m.f, moved_rd, moved_wr, jumped_sq, turned (eqb m.sq 0) m.end) refl

  -- They do not clash, and lead nowhere far.
  no_clash : clash (record { far = false; twice = false; operation = operates m; fields = normal_fields m }) ≡ false
  unfolding clash normal_fields idle
  no_clash = go m.sq (eqb m.hs 0) h.sq
    where
      none : (z : Bool) → (not (z && true) && z && true) ≡ false
      none true = refl
      none false = refl

      go : (q : ℕ) (z : Bool) → q < 4
          → ((eqb q 1 || eqb q 2) && not (not (z && (eqb q 0 || eqb q 3))) || not (z && (eqb q 0 || eqb q 3)) && z && not (eqb q 1 || eqb q 2)) ≡ false
      go zero z l = none z
      go (suc zero) true l = refl
      go (suc zero) false l = refl
      go (suc (suc zero)) true l = refl
      go (suc (suc zero)) false l = refl
      go (suc (suc (suc zero))) z l = none z
      go (suc (suc (suc (suc q)))) z l = absurd (omega arith)

  not_far : (has_jump m && leb 64 m.end) ≡ false
  not_far = rw (lt-leb 64 m.end h.end) (go (has_jump m))
    where
      go : (j : Bool) → (j && false) ≡ false
      go true = refl
      go false = refl

  settles : settled (record { far = has_jump m && leb 64 m.end; twice = false; operation = operates m; fields = normal_fields m }) ≡ Ok (word_of (normal_fields m))
  unfolding settled
  settles = rw (not_far, no_clash)

-- Lists of things that are there or not.
when_same : {A : Type 0} {x y : A} (b : Bool) → (b ≡ true → x ≡ y) → when b x ≡ when b y
when_same true e = ap (λ z. z ∷ []) (e refl)
when_same false e = refl

map_when : (o t j : Bool) (x y z : List ℕ)
    → map part (map tokens (when o x ++ (when t y ++ when j z))) ≡ when o (part (tokens x)) ++ (when t (part (tokens y)) ++ when j (part (tokens z)))
map_when true true true x y z = refl
map_when true true false x y z = refl
map_when true false true x y z = refl
map_when true false false x y z = refl
map_when false true true x y z = refl
map_when false true false x y z = refl
map_when false false true x y z = refl
map_when false false false x y z = refl

-- A property of those that are there.
each_when : (P : List ℕ → Type 0) (b : Bool) (x : List ℕ) (ps : List (List ℕ)) → (b ≡ true → P x) → All P ps → All P (when b x ++ ps)
each_when P true x ps h r = (h refl, r)
each_when P false x ps h r = r

-- A line's parts as text.
abbrev transfer_text : Fields → List ℕ
transfer_text m = cond (eqb m.rd 1) (bytes "rd") (bytes "wr")

abbrev pub texts : Fields → List (List ℕ)
texts m = when (operates m) (listing.operation m) ++ (when (has_transfer m) (transfer_text m) ++ when (has_jump m) (listing.jump m))

transfer_back : (m : Fields) → Back (transfer_text m) (Transfer (cond (eqb m.rd 1) 1 0) (cond (eqb m.rd 1) 0 1))
transfer_back m = go (eqb m.rd 1)
  where
    go : (b : Bool) → Back (cond b (bytes "rd") (bytes "wr")) (Transfer (cond b 1 0) (cond b 0 1))
    go true = rd_back
    go false = wr_back

there : (m : Fields) → has_jump m ≡ true → m.sq ≡ 0 → ⊥
there m e z = false≢true (sym (ap not (eq-eqb m.sq 0 z)) ∙ e)

-- What holds of the text of each kind of part holds of those that a line has.
pub texts_each : (P : List ℕ → Type 0) (m : Fields) → Within m → ((x : List ℕ) (p : Part) → Back x p → P x) → All P (texts m)
texts_each P m h f =
    each_when P (operates m) (listing.operation m) (when (has_transfer m) (transfer_text m) ++ when (has_jump m) (listing.jump m))
    (λ e. f _ _ (operation_back m h.s h.f h.a h.b))
    (each_when P (has_transfer m) (transfer_text m) (when (has_jump m) (listing.jump m)) (λ e. f _ _ (transfer_back m)) (last (has_jump m) (λ e. f _ _ (jump_back m (there m e) h.sq h.end))))
  where
    last : (b : Bool) → (b ≡ true → P (listing.jump m)) → All P (when b (listing.jump m))
    last true g = (g refl, tt)
    last false g = tt

-- The body of a line: all but its byte 10.
abbrev pub body : ℕ → Fields → List ℕ
body k m = short_decimal k ++ bytes ":" ++ listing.operation_part m ++ listing.transfer_part m ++ listing.jump_part m

spaced_append : (ps qs : List (List ℕ)) → spaced (ps ++ qs) ≡ spaced ps ++ spaced qs
unfolding spaced
spaced_append [] qs = refl
spaced_append (p ∷ ps) qs = ap (λ (x : List ℕ). 32 ∷ (p ++ 59 ∷ x)) (spaced_append ps qs) ∙ ap (λ (x : List ℕ). 32 ∷ x) (sym (append_assoc p (59 ∷ spaced ps) (spaced qs)))

spaced_when : (b : Bool) (x : List ℕ) → spaced (when b x) ≡ listing.part b x
unfolding spaced
spaced_when true x = refl
spaced_when false x = refl

pub body_spaced : (k : ℕ) (m : Fields) → body k m ≡ short_decimal k ++ 58 ∷ spaced (texts m)
body_spaced k m =
    simp append_assoc
    (ap (λ (x : List ℕ). short_decimal k ++ 58 ∷ x)
    (sym
    (spaced_append (when (operates m) (listing.operation m)) (when (has_transfer m) (transfer_text m) ++ when (has_jump m) (listing.jump m))
    ∙ ap₂ (λ (x y : List ℕ). x ++ y) (spaced_when (operates m) (listing.operation m))
    (spaced_append (when (has_transfer m) (transfer_text m)) (when (has_jump m) (listing.jump m))
    ∙ ap₂ (λ (x y : List ℕ). x ++ y) (spaced_when (has_transfer m) (transfer_text m)) (spaced_when (has_jump m) (listing.jump m))))))

body_tokens : (k : ℕ) → k < 64 → (m : Fields) → tokens (body k m) ≡ short_decimal k ∷ (58 ∷ []) ∷ tokens (spaced (texts m))
body_tokens k l m =
    ap tokens (body_spaced k m) ∙ tokens_split (short_decimal k) [] 58 (spaced (texts m)) refl
    ∙ ap₂ (λ (x y : List Token). x ++ y) (number_back k l).token (colon_first (texts m))

-- The parts of a line, read back.
texts_parts : (m : Fields) (h : Within m) (apart : (eqb m.rd 1 && eqb m.wr 1) ≡ false) → parts (divided (tokens (spaced (texts m)))) ≡ word_parts m h apart
unfolding word_parts
texts_parts m h apart =
    parts_back (texts m) (texts_each (λ x. undivided (tokens x) ≡ true) m h (λ x p b. b.one_piece))
    ∙ map_when (operates m) (has_transfer m) (has_jump m) (listing.operation m) (transfer_text m) (listing.jump m)
    ∙ ap₂ (λ (x y : List (Option Part)). x ++ y) (when_same (operates m) (λ e. (operation_back m h.s h.f h.a h.b).reads))
    (ap₂ (λ (x y : List (Option Part)). x ++ y) (when_same (has_transfer m) (λ e. (transfer_back m).reads)) (when_same (has_jump m) (λ e. (jump_back m (there m e) h.sq h.end).reads)))

texts_mean : (m : Fields) → Within m → (eqb m.rd 1 && eqb m.wr 1) ≡ false → meaning nothing (parts (divided (tokens (spaced (texts m))))) ≡ Ok (word_of (normal_fields m))
texts_mean m h apart = ap (meaning nothing) (texts_parts m h apart) ∙ normal_given m h apart ∙ settles m h apart

-- A line's number is read back.
number_spelt : (k : ℕ) → k < 64 → eqb (unwrap_or (from_decimal (short_decimal k)) 100) k ≡ true
number_spelt k l = rw (number_back k l).value (eq-eqb k k refl)

-- A listed line reads back.
body_back : (k : ℕ) → k < 64 → (m : Fields) → Within m → (eqb m.rd 1 && eqb m.wr 1) ≡ false → line k (body k m) ≡ Ok (word_of (normal_fields m))
unfolding line numbered behind_number same
body_back k l m h apart =
    rw (lt-ltb k 64 l) (ap (numbered k) (body_tokens k l m) ∙ rw (number_spelt k l) (texts_mean m h apart))

pub line_back : (k w : ℕ) → k < 64 → bad_word w ≡ false → line k (body k (fields_of w)) ≡ Ok (normal_form w)
unfolding normal_form bad_word
line_back k w l good = body_back k l (fields_of w) (fields_within w) (neither (leb 8388608 w) (eqb (fields_of w).rd 1 && eqb (fields_of w).wr 1) good).1

-- A line has three parts at most.
pub texts_few : (m : Fields) → length (texts m) ≤ 3
texts_few m = go (operates m) (has_transfer m) (has_jump m)
  where
    go : (o t j : Bool) → length (when o (listing.operation m) ++ (when t (transfer_text m) ++ when j (listing.jump m))) ≤ 3
    go true true true = omega arith
    go true true false = omega arith
    go true false true = omega arith
    go true false false = omega arith
    go false true true = omega arith
    go false true false = omega arith
    go false false true = omega arith
    go false false false = omega arith
