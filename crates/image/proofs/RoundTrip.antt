-- Bytes, records and words turned into each other and back: nothing is lost on either way.
use Prim.Native.Nat.{ℕ, zero, suc, ◌+◌, ◌%◌, ◌≤◌, ◌<◌}
use mathlib.Core.Path.{◌≡◌, refl, sym, ◌∙◌, ap, ap₂}
use mathlib.Core.Bool.{true, false}
use mathlib.Core.List.{List, [], ◌∷◌, ◌++◌}
use native.Mathlib.Omega.{arith}
use lib.ListN.{length, get_or, take, replicate, length-append}
use lib.Seq.{append_snoc, set_at}
use lib.Dec.{eqb}
use borrow.Table.Steps.{cases}
use borrow.Author.Tests.{eqb-true, eqb-false}
use Rattle.word.proofs.Laws.{bytes_back, word_back}
use Rattle.image.specs.Records.{records, bytes, first_fault, laid, record_of, records_from}
use Rattle.image.specs.declared.Record.{Record}
use Rattle.image.proofs.Records.{sound, no_fault, passed, head_passes}

-- Whole records of bytes: their records' bytes are the bytes.
pub bytes_records : (bs : List ℕ) → length bs % 4 ≡ 0 → ((i : ℕ) → get_or bs i 0 < 256) → bytes (records bs) ≡ bs
unfolding records bytes
bytes_records [] whole small = refl
bytes_records (a ∷ []) whole small = absurd (omega arith)
bytes_records (a ∷ b ∷ []) whole small = absurd (omega arith)
bytes_records (a ∷ b ∷ c ∷ []) whole small = absurd (omega arith)
bytes_records (a ∷ b ∷ c ∷ d ∷ rest) whole small =
    ap₂ ◌++◌ (word_back a b (small 0) (small 1)) (ap₂ ◌++◌ (word_back c d (small 2) (small 3)) (bytes_records rest (omega arith) (λ i. small (suc (suc (suc (suc i)))))))

-- What holds of all words holds of the first of them.
pub take_below : (limit : ℕ) → 0 < limit → (n : ℕ) (words : List ℕ) → ((i : ℕ) → get_or words i 0 < limit) → (i : ℕ) → get_or (take n words) i 0 < limit
take_below limit some zero words small i = some
take_below limit some (suc n) [] small i = some
take_below limit some (suc n) (w ∷ ws) small zero = small 0
take_below limit some (suc n) (w ∷ ws) small (suc i) = take_below limit some n ws (λ j. small (suc j)) i

-- The records of words that follow each other are found again in their bytes.
pub records_bytes : (address : ℕ) (words : List ℕ) → address + length words ≤ 65536 → ((i : ℕ) → get_or words i 0 < 65536)
    → records (bytes (records_from address words)) ≡ records_from address words
unfolding records bytes records_from
records_bytes address [] low small = refl
records_bytes address (w ∷ ws) low small =
    let rest = records_bytes (suc address) ws (omega arith) (λ i. small (suc i)) in
    cases (eqb w 0) (λ (e : eqb w 0 ≡ true). rw e rest)
    (λ (e : eqb w 0 ≡ false). rw (e, bytes_back address (omega arith), bytes_back w (small 0), rest))

-- They have no fault.
pub words_faultless : (least address : ℕ) (words : List ℕ) → least ≤ address → address + length words ≤ 4092
    → first_fault least (records_from address words) ≡ 0
unfolding records_from first_fault
words_faultless least address [] above low = refl
words_faultless least address (w ∷ ws) above low =
    cases (eqb w 0) (λ (e : eqb w 0 ≡ true). rw e (words_faultless least (suc address) ws (omega arith) (omega arith)))
    (λ (e : eqb w 0 ≡ false).
    let first : Record = record { address = record { 0 = address }; value = w } in
    rw e (rw (no_fault least first (record { low = omega arith; above = above; some = e })) (words_faultless (suc address) (suc address) ws (omega arith) (omega arith))))

-- Laid where all is 0, they give the words.
laid_word : (address w : ℕ) (rs : List Record) (front rest : List ℕ) → length front ≡ address
    → laid (record_of address w ++ rs) (front ++ (0 ∷ rest)) ≡ laid rs (front ++ (w ∷ rest))
unfolding laid
laid_word address w rs front rest at =
    cases (eqb w 0) (λ (e : eqb w 0 ≡ true). rw (e, eqb-true w 0 e)) (λ (e : eqb w 0 ≡ false). rw (e, set_at front 0 rest w address at))

pub laid_words : (address : ℕ) (front words rest : List ℕ) → length front ≡ address
    → laid (records_from address words) (front ++ (replicate (length words) 0 ++ rest)) ≡ front ++ (words ++ rest)
unfolding records_from laid
laid_words address front [] rest at = refl
laid_words address front (w ∷ ws) rest at =
    let longer : length (front ++ (w ∷ [])) ≡ suc address = simp length-append (omega arith) in
    laid_word address w (records_from (suc address) ws) front (replicate (length ws) 0 ++ rest) at
    ∙ simp append_snoc at (laid_words (suc address) (front ++ (w ∷ [])) ws rest longer)

-- Records with no fault from an address on are those of the words that follow each other up to word 4,091.
pub record Spread (address count : ℕ) (rs : List Record) : Type 0 where
  pub words : List ℕ
  pub counted : length words ≡ count
  pub same : records_from address words ≡ rs

skip : {address count : ℕ} {rs : List Record} → Spread (suc address) count rs → Spread address (suc count) rs
unfolding records_from
skip s = record { words = 0 ∷ s.words; counted = ap suc s.counted; same = s.same }

-- A record that is passed after one address is passed after any that lies below its own.
later : (least more : ℕ) (r : Record) (rs : List Record) → first_fault least (r ∷ rs) ≡ 0 → more ≤ r.address.0 → first_fault more (r ∷ rs) ≡ 0
later least more r rs faultless below =
    let none = head_passes least r rs faultless in
    let known = sound least r none in
    passed more r rs (no_fault more r (record { low = known.low; above = below; some = known.some })) refl ∙ sym (passed least r rs none refl) ∙ faultless

pub spread : (count address : ℕ) (rs : List Record) → address + count ≡ 4092 → first_fault address rs ≡ 0 → Spread address count rs
unfolding records_from first_fault
spread zero address [] end faultless = record { words = []; counted = refl; same = refl }
spread zero address (r ∷ rs) end faultless = absurd (omega (arith, sound address r (head_passes address r rs faultless)))
spread (suc count) address [] end faultless = skip (spread count (suc address) [] (omega arith) refl)
spread (suc count) address (r ∷ rs) end faultless =
    let none = head_passes address r rs faultless in
    let known = sound address r none in
    cases (eqb r.address.0 address)
    (λ (e : eqb r.address.0 address ≡ true).
    let here : r.address.0 ≡ address = eqb-true r.address.0 address e in
    let rest = spread count (suc address) rs (omega arith) (sym (passed address r rs none (omega arith)) ∙ faultless) in
    record { words = r.value ∷ rest.words; counted = ap suc rest.counted; same = rw (known.some, rest.same, ← here) })
    (λ (e : eqb r.address.0 address ≡ false).
    let apart : r.address.0 ≡ address → ⊥ = eqb-false r.address.0 address e in
    skip (spread count (suc address) (r ∷ rs) (omega arith) (later address (suc address) r rs faultless (omega arith))))
