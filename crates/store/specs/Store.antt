-- The control store (01, The machine and its parts; Answer numbers, 1 and 4): 64 control words, a line each.
use Rattle.std.specs.Prelude.{ℕ, Bool, cond, not, List, Option, Some, None, length, get_or, set, eqb, ltb}
use Rattle.std.specs.List.{position_or_len}
use Rattle.microword.specs.Microword.{bad_word}

-- Answer 1: a control store not of 64 words.
abbrev pub wrong_store : List ℕ → Bool
wrong_store store = not (eqb (length store) 64)

-- The control words of a store, line after line.
abbrev pub words : List ℕ → List ℕ
words store = store

-- The control word at a line.
abbrev pub control_word : List ℕ → ℕ → ℕ
control_word store line = get_or (words store) line 0

-- The store with another control word at a line.
abbrev pub with_word : List ℕ → ℕ → ℕ → List ℕ
with_word store line word = set store line word

-- The store with these control words; one of another size stays.
abbrev pub with_words : List ℕ → List ℕ → List ℕ
with_words store ws = cond (wrong_store store) store ws

-- How many words stand before the first bad one, all of them where none is bad.
abbrev pub good_before : List ℕ → ℕ
good_before ws = position_or_len bad_word ws

-- Answer 4 names the first bad line.
abbrev pub first_bad : List ℕ → ℕ
first_bad store = good_before (words store)

-- That line, where there is one.
abbrev pub bad_line : List ℕ → Option ℕ
bad_line store = cond (ltb (first_bad store) (length (words store))) (Some (first_bad store)) None
