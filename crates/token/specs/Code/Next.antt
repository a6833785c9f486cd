-- Mirrors the code: a token as a number, and the next token of a line, as `start` and `next_token` promise it; its bytes stand in between. What tokens
-- are is in Tokens.
use Rattle.std.specs.Prelude.{ℕ, suc, ◌+◌, ◌*◌, ◌^◌, cond, Option, Some, None, List, [], ◌∷◌, ltb, eqb, length}
use Prim.Native.Char.{code}
use Rattle.text.specs.Text.{before, line_at}
use Rattle.token.specs.Tokens.{Token, tokens}
use Rattle.token.specs.declared.Token.{Token as Packed}
use Rattle.token.specs.declared.Scanned.{Scanned}

-- A token's bytes behind a 1, as the digits of one number to the base 256. No token of the grammar has more than four bytes, so the fifth is
-- the last that counts.
abbrev pub grown : ℕ → ℕ → ℕ
grown n c = cond (ltb n (2 ^ 33)) (n * 256 + c) n

abbrev pub packed_after : ℕ → List ℕ → ℕ
packed_after n [] = n
packed_after n (c ∷ t) = packed_after (grown n c) t

abbrev pub packed : Token → ℕ
packed t = packed_after 1 t

-- The first token; where there is none, no bytes.
unfoldable pub first : List Token → Token
first [] = []
first (t ∷ ts) = t

-- A token by its number; no bytes are none.
unfoldable pub told : Token → Option Packed
told [] = None
told (c ∷ t) = Some (record { 0 = packed (c ∷ t) })

-- How many spaces stand before anything else.
unfoldable pub spaces : List ℕ → ℕ
spaces [] = 0
spaces (c ∷ s) = cond (eqb c (code " ")) (suc (spaces s)) 0

-- Where the next token of the line that goes on at `at` begins: behind spaces. Where there is none this is the line's end.
abbrev pub start_at : List ℕ → ℕ → ℕ
start_at text at = at + spaces (line_at text at)

-- That token, and what is behind its bytes.
unfoldable pub scanned : List ℕ → ℕ → Scanned
scanned text at =
    let token : Token = first (tokens (line_at text at)) in
    record { token = told token; behind = start_at text at + length token }

-- How many bytes the token has that begins a text; none begins where its line ends.
abbrev pub token_len : List ℕ → ℕ
token_len rest = length (first (tokens (before 10 rest)))
