-- Bytes to tokens (01, Micro text and images). A token is its bytes: a run of letters, a run of digits, `:=`, `<<` and `>>` are
-- one token each, any other byte is one by itself, and spaces only stand around tokens.
use Rattle.std.specs.Prelude.{ℕ, Bool, true, false, cond, ◌&&◌, ◌||◌, List, [], ◌∷◌, ◌++◌, leb, eqb}
use Prim.Native.Char.{code}
use Rattle.text.specs.Text.{◌is◌}
use Rattle.text.specs.Decimal.{digit}

abbrev pub Token : Type 0
Token = List ℕ

-- All letters are small.
abbrev pub letter : ℕ → Bool
letter c = leb (code "a") c && leb c (code "z")

unfoldable pub every : (ℕ → Bool) → List ℕ → Bool
every p [] = true
every p (c ∷ s) = p c && every p s

-- A run of letters, a run of digits, `:=`, `<<` and `>>` are one token each.
unfoldable pub one_token : List ℕ → Bool
one_token t = every letter t || every digit t || t is ":=" || t is "<<" || t is ">>"

-- What a byte begins that goes on with no token: a token, or none where it is a space.
unfoldable pub started_by : ℕ → List ℕ
started_by c = cond (eqb c (code " ")) [] (c ∷ [])

-- The bytes of the token that is under way behind the byte c, where t was under way before it.
unfoldable pub under : List ℕ → ℕ → List ℕ
under t c = cond (one_token (t ++ c ∷ [])) (t ++ c ∷ []) (started_by c)

-- The tokens ts behind the token t; no bytes are no token.
unfoldable pub ended : List ℕ → List Token → List Token
ended [] ts = ts
ended (c ∷ t) ts = (c ∷ t) ∷ ts

-- The tokens ts behind t, which goes on in them or has ended.
unfoldable pub going : Bool → List ℕ → List Token → List Token
going true t ts = ts
going false t ts = ended t ts

-- The tokens of the bytes s, where t is under way before them.
unfoldable pub tokens_after : List ℕ → List ℕ → List Token
tokens_after t [] = ended t []
tokens_after t (c ∷ s) = going (one_token (t ++ c ∷ [])) t (tokens_after (under t c) s)

abbrev pub tokens : List ℕ → List Token
tokens s = tokens_after [] s
