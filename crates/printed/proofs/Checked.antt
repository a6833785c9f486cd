-- The array is the published microprogram: the figure's lines, read as micro text one after the other, are its first 55 words, and
-- the other nine are zero words.
use Prim.Native.Nat.{ℕ, suc}
use mathlib.Core.Path.{◌≡◌, refl}
use mathlib.Core.List.{List, [], ◌∷◌, map}
use lib.ListN.{take, drop, replicate}
use Rattle.std.specs.Prelude.{Ok}
use Rattle.word.specs.Number.{joined}
use Rattle.microword.specs.Microword.{word_of}
use Rattle.token.specs.Tokens.{every, one_token, under, ended, going, tokens_after, started_by}
use Rattle.part.specs.Grammar.{destination, operation, formula, last, front, bare, jump, test, part, register_named}
use Rattle.microtext.specs.Line.{Meaning, cut, divided, last_part, parts, add, clash, settled, meaning, behind_number, numbered, line}
use Rattle.text.specs.Text.{same}
use Rattle.text.specs.Decimal.{from_decimal}
use Rattle.printed.specs.Printed.{printed}
use Rattle.printed.specs.Figure.{figure}

-- What each line means, from line k on.
unfoldable pub meanings : ℕ → List (List ℕ) → List Meaning
meanings k [] = []
meanings k (l ∷ ls) = line k l ∷ meanings (suc k) ls

pub checked : (meanings 0 figure ≡ map (λ (w : ℕ). Ok w) (take 55 printed)) × (drop 55 printed ≡ replicate 9 0)
unfolding meanings figure printed line numbered behind_number meaning settled clash add parts last_part divided cut part test jump bare front last formula operation from_decimal destination register_named tokens_after going ended under started_by one_token every same word_of joined
checked = (refl, refl)
