-- Document 01's micro text figures, as one statement over one list: each line and its word.
use Prim.Native.Nat.{ℕ}
use mathlib.Core.Path.{◌≡◌, refl}
use mathlib.Core.List.{List, [], ◌∷◌, map}
use Rattle.std.specs.Prelude.{Ok}
use Rattle.word.specs.Number.{joined}
use Rattle.microword.specs.Microword.{word_of}
use Rattle.token.specs.Tokens.{every, one_token, under, ended, going, tokens_after, started_by}
use Rattle.part.specs.Grammar.{destination, operation, formula, last, front, bare, jump, test, part, register_named}
use Rattle.microtext.specs.Line.{cut, divided, last_part, parts, add, clash, settled, meaning, behind_number, numbered, line}
use Rattle.text.specs.Text.{bytes, same}
use Rattle.text.specs.Decimal.{from_decimal}

unfoldable pub figures : List (List ℕ × ℕ)
figures =
    (bytes "0: rem:=cp; rd", 107008)
    ∷ (bytes "0: cp:=cp+1; rd", 9728)
    ∷ (bytes "0: ri:=rdm; if n then goto 28", 7397468)
    ∷ (bytes "0: rt:=(<<ri); if n then goto 17", 3225681)
    ∷ (bytes "0: cp:=(ri^masc); goto 0", 3814592)
    ∷ (bytes "0: rem:=(ac^masc); wr; goto 11", 1816011)
    ∷ (bytes "0: wr; goto 0", 448)
    ∷ (bytes "0: ac:=ac; if z then goto 25", 1073305)
    ∷ []

pub figures_hold : map (λ (f : List ℕ × ℕ). line 0 f.0) figures ≡ map (λ (f : List ℕ × ℕ). Ok f.1) figures
unfolding figures line numbered behind_number meaning settled clash add parts last_part divided cut part test jump bare front last formula operation from_decimal destination register_named tokens_after going ended under started_by one_token every same word_of joined
figures_hold = refl
