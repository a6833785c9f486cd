-- An image is records of four bytes, no header (01, Micro text and images): records in bytes, their faults, and records of words.
use Rattle.std.specs.Prelude.{ℕ, suc, cond, List, [], ◌∷◌, ◌++◌, take, drop, set, ltb, eqb}
use Rattle.word.specs.Number.{bytes_of, word_of}
use Rattle.image.specs.declared.Record.{Record}

-- The record that four bytes are: address, value, high byte first.
abbrev pub record_in : List ℕ → Record
record_in four = record { address = record { 0 = word_of (take 2 four) }; value = word_of (drop 2 four) }

-- The records that bytes hold. Fewer than four bytes hold none.
unfoldable pub records : List ℕ → List Record
records [] = []
records (a ∷ []) = []
records (a ∷ b ∷ []) = []
records (a ∷ b ∷ c ∷ []) = []
records (a ∷ b ∷ c ∷ d ∷ rest) = record_in (a ∷ b ∷ c ∷ d ∷ []) ∷ records rest

-- The bytes of records.
unfoldable pub bytes : List Record → List ℕ
bytes [] = []
bytes (r ∷ rest) = bytes_of r.address.0 ++ bytes_of r.value ++ bytes rest

-- The answer to one record, or 0. `least` is the lowest address above the one before; 0 for the first record.
unfoldable pub fault : ℕ → Record → ℕ
fault least r = cond (ltb 4091 r.address.0) 21 (cond (ltb r.address.0 least) 22 (cond (eqb r.value 0) 23 0))

-- Records in turn: the answer to the first faulty one, or 0.
unfoldable pub first_fault : ℕ → List Record → ℕ
first_fault least [] = 0
first_fault least (r ∷ rest) = cond (eqb (fault least r) 0) (first_fault (suc r.address.0) rest) (fault least r)

-- A memory with each record's value at its address.
unfoldable pub laid : List Record → List ℕ → List ℕ
laid [] memory = memory
laid (r ∷ rest) memory = laid rest (set memory r.address.0 r.value)

-- The record of a word that is not 0; none of one that is.
abbrev pub record_of : ℕ → ℕ → List Record
record_of address word = cond (eqb word 0) [] (record { address = record { 0 = address }; value = word } ∷ [])

-- The records of words that follow each other from an address on, ascending.
unfoldable pub records_from : ℕ → List ℕ → List Record
records_from address [] = []
records_from address (word ∷ rest) = record_of address word ++ records_from (suc address) rest
