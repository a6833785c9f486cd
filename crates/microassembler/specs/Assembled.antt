-- Micro text to a control store, or a refusal (01, Micro text and images; answers 0, 1, 10 to 15).
use Rattle.std.specs.Prelude.{ℕ, suc, cond, Result, Ok, Err, List, [], ◌∷◌, leb, length, replicate}
use Rattle.store.specs.Store.{wrong_store, with_word}
use Rattle.microtext.specs.Line.{line, number as fault_number}
use Rattle.microtext.specs.declared.Fault.{Fault}
use Rattle.microtext.specs.Onward.{onward}
use Rattle.text.specs.Text.{lines}
use Rattle.microassembler.specs.declared.Refusal.{Refusal}
use Rattle.microassembler.specs.declared.Refusal.TheVariants.{WrongSize, LongText, Line}

-- Document 01's number of each refusal.
abbrev pub number : Refusal → ℕ
number WrongSize = 1
number LongText = 10
number (Line fault) = fault_number fault

-- The words of a text's lines, or the fault of one.
abbrev pub Words : Type 0
Words = Result (List ℕ) Fault

-- Lines in turn, from the line k on, into the store ws, the first faulty line deciding.
unfoldable pub filled : ℕ → List ℕ → List (List ℕ) → Words
filled k ws [] = Ok ws
filled k ws (l ∷ ls) = onward (line k l) (λ w. filled (suc k) (with_word ws k w) ls)

-- The store of zero words: missing lines become these.
abbrev pub zero_words : List ℕ
zero_words = replicate 64 0

-- The answer, and the store afterwards.
pub record Outcome : Type 0 where
  pub answer : ℕ
  pub store : List ℕ

abbrev pub outcome : List ℕ → Words → Outcome
outcome store (Ok ws) = record { answer = 0; store = ws }
outcome store (Err fault) = record { answer = fault_number fault; store = store }

-- The order: 1, 10, then lines in turn; a refusal leaves the store as found.
unfoldable pub assembled : List ℕ → List ℕ → Outcome
assembled text store =
    cond (wrong_store store) (record { answer = 1; store = store })
    (cond (leb (length text) 8192) (outcome store (filled 0 zero_words (lines text)))
    (record { answer = 10; store = store }))
