-- Normal forms and bad words at their edges, held against the definitions by computing.
use Prim.Native.Nat.{ℕ}
use mathlib.Core.Path.{◌≡◌, refl}
use mathlib.Core.Bool.{true, false}
use mathlib.Core.List.{[], ◌∷◌, map}
use Rattle.word.specs.Number.{joined}
use Rattle.microword.specs.Microword.{fields_of, word_of, bad_word, idle, binary, normal_fields, normal_form}
use Rattle.microword.specs.declared.Fields.{Fields}

abbrev of : ℕ → ℕ → ℕ → ℕ → ℕ → ℕ → ℕ → ℕ → ℕ → Fields
of a b s hs f rd wr sq end = record { a = a; b = b; s = s; hs = hs; f = f; rd = rd; wr = wr; sq = sq; end = end }

-- Two words that are not normal, and the bad ones.
cleared : map normal_form (word_of (of 3 5 4 1 6 0 0 0 9) ∷ word_of (of 3 5 4 0 5 1 0 3 9) ∷ []) ≡ word_of (of 3 0 4 1 6 0 0 0 0) ∷ word_of (of 0 0 0 0 0 1 0 3 9) ∷ []
unfolding normal_form normal_fields idle binary fields_of word_of joined
cleared = refl

bad : map bad_word (768 ∷ 8388607 ∷ 8388608 ∷ 8387839 ∷ []) ≡ true ∷ true ∷ true ∷ false ∷ []
unfolding bad_word fields_of
bad = refl
