-- What the list program prints (01, Micro text and images, last paragraph): the listing of 256 bytes, or the answer line.
use Rattle.std.specs.Prelude.{ℕ, suc, ◌+◌, ◌*◌, cond, List, [], ◌∷◌, Some, None, eqb, length, take, replicate}
use Rattle.word.specs.Number.{word_of}
use Rattle.store.specs.Store.{with_word}
use Rattle.lister.specs.Answers.{Outcome, listed}
use Rattle.console.specs.Text.{refusal}

-- Four bytes per control word, high byte first.
unfoldable pub words_of : List ℕ → List ℕ
words_of [] = []
words_of (a ∷ []) = []
words_of (a ∷ b ∷ []) = []
words_of (a ∷ b ∷ c ∷ []) = []
words_of (a ∷ b ∷ c ∷ d ∷ rest) = (word_of (a ∷ b ∷ []) * 65536 + word_of (c ∷ d ∷ [])) ∷ words_of rest

-- A store with these control words, the first of them at a line.
unfoldable pub with_words : List ℕ → ℕ → List ℕ → List ℕ
with_words store line [] = store
with_words store line (w ∷ ws) = with_words (with_word store line w) (suc line) ws

-- The store of an input: its control words at lines 0 on.
abbrev pub store_of : List ℕ → List ℕ
store_of input = with_words (replicate 64 0) 0 (words_of input)

-- What is printed of a call of the lister: the listing, or the answer line; a bad word's names its line.
unfoldable pub told : Outcome → List ℕ
told o = cond (eqb o.answer 0) (take o.length o.room) (refusal o.answer (cond (eqb o.answer 4) (Some o.line) None))

-- The text for an input, the lister having this room; another length than 256 is 1.
unfoldable pub printed : List ℕ → List ℕ → List ℕ
printed input room = cond (eqb (length input) 256) (told (listed (store_of input) room)) (refusal 1 None)
