-- The loop over the lines: each turn takes one line off the text and puts one word among the words.
use Prim.Native.Nat.{ℕ, ◌+◌, ◌≤◌, ◌<◌}
use mathlib.Core.Path.{◌≡◌, refl}
use mathlib.Core.Bool.{Bool, true, false}
use mathlib.Core.List.{List}
use native.Mathlib.Numerals.{add-one}
use native.Mathlib.Omega.{arith}
use borrow.Author.Tests.{le-leb, lt-leb, ltb-true}
use lib.Dec.{ltb}
use lib.ListN.{length, drop, drop_of_length-le}
use Rattle.std.specs.Prelude.{Ok, Err}
use Rattle.store.specs.Store.{wrong_store, with_word}
use Rattle.microtext.specs.Onward.{onward}
use Rattle.microtext.specs.Line.{Meaning, line}
use Rattle.microtext.specs.Reading.{reading, reading_at}
use Rattle.microtext.specs.declared.Fault.{Fault}
use Rattle.microtext.specs.declared.Read.{Read}
use Rattle.text.specs.Text.{line_at, next_line, lines}
use Rattle.text.proofs.Lines.{lines_at, next_line_lem}
use Rattle.microassembler.specs.Assembled.{Words, filled, zero_words, outcome, assembled}

-- What a reading says of the line's meaning.
module _ (text : List ℕ) (at k : ℕ) where
  read_word : (r : Read) → reading_at text at k ≡ Ok r → (line k (line_at text at) ≡ Ok r.word) × (next_line text at ≡ r.next)
  unfolding reading_at
  read_word r e = go (line k (line_at text at)) e
    where
      go : (m : Meaning) → reading m (next_line text at) ≡ Ok r → (m ≡ Ok r.word) × (next_line text at ≡ r.next)
      go (Ok v) q = (cc, cc)
      go (Err f) q = let o : ◌≡◌ {A = ℕ} 0 1 = cc in absurd (omega arith)

  read_fault : (f : Fault) → reading_at text at k ≡ Err f → line k (line_at text at) ≡ Err f
  unfolding reading_at
  read_fault f e = go (line k (line_at text at)) e
    where
      go : (m : Meaning) → reading m (next_line text at) ≡ Err f → m ≡ Err f
      go (Ok v) q = let o : ◌≡◌ {A = ℕ} 0 1 = cc in absurd (omega arith)
      go (Err g) q = cc

  -- The next line begins further on, within the text.
  pub line_next : (r : Read) → at < length text → reading_at text at k ≡ Ok r → (at < r.next) × (r.next ≤ length text)
  line_next r h e = rw (read_word r e).1 at (next_line_lem text at h)

  -- Only the first 64 lines have words.
  pub word_line : (r : Read) → reading_at text at k ≡ Ok r → k < 64
  unfolding line
  word_line r e = go (ltb k 64) refl (read_word r e).0
    where
      go : (b : Bool) → ltb k 64 ≡ b → line k (line_at text at) ≡ Ok r.word → k < 64
      go true q m = ltb-true k 64 q
      go false q m = let o : ◌≡◌ {A = ℕ} 0 1 = cc in absurd (omega arith)

  -- A turn that goes on, and one that ends in a refusal.
  pub filled_word : (ws : List ℕ) (r : Read) → at < length text → reading_at text at k ≡ Ok r
      → filled (k + 1) (with_word ws k r.word) (lines (drop r.next text)) ≡ filled k ws (lines (drop at text))
  unfolding filled onward
  filled_word ws r h e = let q = read_word r e in rw (lines_at text at h, q.0, q.1, add-one) refl

  pub filled_fault : (ws : List ℕ) (f : Fault) → at < length text → reading_at text at k ≡ Err f → filled k ws (lines (drop at text)) ≡ Err f
  unfolding filled onward
  filled_fault ws f h e = rw (lines_at text at h, read_fault f e) refl

pub filled_done : (text ws : List ℕ) (k at : ℕ) → length text ≤ at → filled k ws (lines (drop at text)) ≡ Ok ws
unfolding filled lines
filled_done text ws k at h = rw (drop_of_length-le text h) refl

-- The answers.
pub wrong_store_lem : (text store : List ℕ) → wrong_store store ≡ true → assembled text store ≡ record { answer = 1; store = store }
unfolding assembled
wrong_store_lem text store e = rw e refl

module _ (text store : List ℕ) (right : wrong_store store ≡ false) where
  pub long_text : 8192 < length text → assembled text store ≡ record { answer = 10; store = store }
  unfolding assembled
  long_text l = rw (right, lt-leb (length text) 8192 l) refl

  pub by_lines : (o : Words) → length text ≤ 8192 → filled 0 zero_words (lines text) ≡ o → assembled text store ≡ outcome store o
  unfolding assembled
  by_lines o l e = rw (right, le-leb (length text) 8192 l, e) refl
