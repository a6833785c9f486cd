-- Laws of records: an image's records by fours, the first fault of records in turn, and how many bytes records have.
use Rattle.std.proofs.Common.{◌≡◌, ℕ, zero, suc, ◌+◌, ◌*◌, ◌/◌, ◌%◌, ◌≤◌, ◌<◌, Bool, true, false, cond, ltb, eqb, List, [], ◌∷◌, ◌++◌, map, length, get_or, drop, refl, sym, ap, ◌∙◌, add-one, drop-cons, drop_of_length-le, length-append, arith}
use Rattle.std.specs.Simd.{first_chunks}
use borrow.Table.Steps.{cases}
use borrow.Author.Tests.{le-ltb, ltb-false, eqb-true}
use Rattle.image.specs.Records.{records, record_in, bytes, fault, first_fault, record_of, records_from}
use Rattle.image.specs.Image.{examined}
use Rattle.image.specs.declared.Record.{Record}

-- The records of an image's fours, and of those from one on.
pub chunked : (image : List ℕ) (count : ℕ) → count ≡ length image / 4 → map record_in (first_chunks 4 count image) ≡ records image
unfolding records
chunked [] zero e = refl
chunked [] (suc n) e = absurd (omega arith)
chunked (a ∷ []) zero e = refl
chunked (a ∷ []) (suc n) e = absurd (omega arith)
chunked (a ∷ b ∷ []) zero e = refl
chunked (a ∷ b ∷ []) (suc n) e = absurd (omega arith)
chunked (a ∷ b ∷ c ∷ []) zero e = refl
chunked (a ∷ b ∷ c ∷ []) (suc n) e = absurd (omega arith)
chunked (a ∷ b ∷ c ∷ d ∷ rest) zero e = absurd (omega arith)
chunked (a ∷ b ∷ c ∷ d ∷ rest) (suc n) e = ap (λ (rs : List Record). record_in (a ∷ b ∷ c ∷ d ∷ []) ∷ rs) (chunked rest n (omega arith))

pub record_next : (fours : List (List ℕ)) (i : ℕ) {r : Record} → i < length fours → r ≡ record_in (get_or fours i [])
    → map record_in (drop i fours) ≡ r ∷ map record_in (drop (i + 1) fours)
record_next fours i h e = rw (e, add-one, drop-cons fours i [] h)

pub records_end : (fours : List (List ℕ)) (i : ℕ) → length fours ≤ i → map record_in (drop i fours) ≡ []
records_end fours i h = rw (drop_of_length-le fours h)

-- A choice between answers is 0: it is not the one that is not 0.
passes : (b : Bool) (n x : ℕ) → cond b (suc n) x ≡ 0 → (b ≡ false) × (x ≡ 0)
passes true n x h = absurd (omega arith)
passes false n x h = (refl, h)

pub chosen : (b : Bool) (n x : ℕ) → cond b x (suc n) ≡ 0 → (b ≡ true) × (x ≡ 0)
chosen true n x h = (refl, h)
chosen false n x h = absurd (omega arith)

-- What the three tests say of a record with no fault.
pub record Sound (least : ℕ) (r : Record) : Type 0 where
  pub low : r.address.0 < 4092
  pub above : least ≤ r.address.0
  pub some : eqb r.value 0 ≡ false

pub sound : (least : ℕ) (r : Record) → fault least r ≡ 0 → Sound least r
unfolding fault
sound least r h =
    let low = passes (ltb 4091 r.address.0) 20 _ h in
    let above = passes (ltb r.address.0 least) 21 _ low.1 in
    let some = passes (eqb r.value 0) 22 0 above.1 in
    record { low = omega (arith, ltb-false 4091 r.address.0 low.0); above = ltb-false _ _ above.0; some = some.0 }

pub no_fault : (least : ℕ) (r : Record) → Sound least r → fault least r ≡ 0
unfolding fault
no_fault least r s = simp (le-ltb 4091 r.address.0 (omega arith), le-ltb _ _ s.above, s.some)

-- Records in turn: the answer goes on past a record with no fault, and is the first other one's.
module _ (least : ℕ) (r : Record) (rest : List Record) where
  pub passed : fault least r ≡ 0 → {next : ℕ} → next ≡ suc r.address.0 → first_fault least (r ∷ rest) ≡ first_fault next rest
  unfolding first_fault
  passed h e = rw (h, e)

  pub stopped : {answer : ℕ} → answer ≡ fault least r → eqb answer 0 ≡ false → first_fault least (r ∷ rest) ≡ answer
  unfolding first_fault
  stopped e h = rw (← e, h)

  pub head_passes : first_fault least (r ∷ rest) ≡ 0 → fault least r ≡ 0
  head_passes h =
      cases (eqb (fault least r) 0) (λ (e : eqb (fault least r) 0 ≡ true). eqb-true _ _ e) (λ (e : eqb (fault least r) 0 ≡ false). sym (stopped refl e) ∙ h)

-- An image that is not refused: whole records, none of them faulty.
pub record Accepted (image : List ℕ) : Type 0 where
  pub whole : length image % 4 ≡ 0
  pub faultless : first_fault 0 (records image) ≡ 0

pub accepted : (image : List ℕ) → examined image ≡ 0 → Accepted image
unfolding examined
accepted image h =
    let both = chosen (eqb (length image % 4) 0) 19 (first_fault 0 (records image)) h in
    record { whole = eqb-true _ _ both.0; faultless = both.1 }

-- Records one after the other are their bytes one after the other, four for each.
pub bytes_append : (rs ss : List Record) → bytes (rs ++ ss) ≡ bytes rs ++ bytes ss
unfolding bytes
bytes_append [] ss = refl
bytes_append (r ∷ rs) ss = rw (bytes_append rs ss)

pub bytes_length : (rs : List Record) → length (bytes rs) ≡ 4 * length rs
unfolding bytes
bytes_length [] = refl
bytes_length (r ∷ rs) = omega (arith, bytes_length rs)

-- A word has at most one record.
pub one_record : (address word : ℕ) → length (record_of address word) ≤ 1
one_record address word =
    cases (eqb word 0) (λ (e : eqb word 0 ≡ true). rw e (omega arith)) (λ (e : eqb word 0 ≡ false). rw e (omega arith))

pub few_records : (address : ℕ) (words : List ℕ) → length (records_from address words) ≤ length words
unfolding records_from
few_records address [] = omega arith
few_records address (w ∷ ws) = rw length-append (omega (arith, one_record address w, few_records (suc address) ws))
