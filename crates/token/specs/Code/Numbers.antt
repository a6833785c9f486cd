-- Mirrors the code: the numbers that it compares tokens with, the numbers of a line's tokens, a name and a decimal by their numbers, and what a sign begins with.
use Rattle.std.specs.Prelude.{ℕ, ◌+◌, ◌-◌, ◌*◌, ◌/◌, ◌%◌, cond, ◌&&◌, Option, Some, None, List, [], ◌∷◌, map, leb, eqb}
use Prim.Native.Char.{code}
use Prim.Native.String.{String}
use Rattle.text.specs.Text.{bytes, line_at}
use Rattle.text.specs.Decimal.{digit}
use Rattle.token.specs.Tokens.{tokens}
use Rattle.token.specs.Code.Next.{packed}

-- Bytes behind a 1, as the digits of one number to the base 256.
abbrev pub numeral : ℕ → List ℕ → ℕ
numeral n [] = n
numeral n (c ∷ t) = numeral (n * 256 + c) t

abbrev pub code_of : String → ℕ
code_of s = numeral 1 (bytes s)

-- The tokens of the line that goes on at `at`, as numbers.
abbrev pub codes_at : List ℕ → ℕ → List ℕ
codes_at text at = map packed (tokens (line_at text at))

-- The number of one or two digits with no leading zero, if they are that, from a token's number.
unfoldable pub decimal_of : ℕ → Option ℕ
decimal_of t =
    cond (digit (t % 256))
    (cond (eqb (t / 256) 1) (Some (t % 256 - code "0"))
    (cond (leb (code_of "1") (t / 256) && leb (t / 256) (code_of "9")) (Some ((t / 256 - code_of "0") * 10 + (t % 256 - code "0")))
    None))
    None
