-- Numbers in decimal, written and read; byte 48 is the digit 0.
use Rattle.std.specs.Prelude.{ℕ, zero, suc, ◌+◌, ◌-◌, ◌*◌, ◌/◌, ◌%◌, Bool, cond, not, ◌&&◌, Option, Some, None, List, [], ◌∷◌, ◌++◌, leb, ltb, eqb}
use Prim.Native.Char.{code}

abbrev pub digit : ℕ → Bool
digit c = leb (code "0") c && leb c (code "9")

-- The last digits of a number, at most `most`, with no leading zero.
unfoldable pub digits : ℕ → ℕ → List ℕ
digits zero n = []
digits (suc most) n = cond (ltb n 10) [] (digits most (n / 10)) ++ (48 + n % 10) ∷ []

-- A number in decimal: 20 digits are enough for one of 64 bits.
abbrev pub decimal : ℕ → List ℕ
decimal n = digits 20 n

-- A number below 100 in decimal: one digit or two.
unfoldable pub short_decimal : ℕ → List ℕ
short_decimal n = cond (ltb n 10) ((48 + n) ∷ []) ((48 + n / 10) ∷ (48 + n % 10) ∷ [])

-- The number that one or two digits with no leading zero spell, if the bytes are that.
unfoldable pub from_decimal : List ℕ → Option ℕ
from_decimal [] = None
from_decimal (a ∷ []) = cond (digit a) (Some (a - code "0")) None
from_decimal (a ∷ b ∷ []) = cond (digit a && digit b && not (eqb a (code "0"))) (Some ((a - code "0") * 10 + (b - code "0"))) None
from_decimal (a ∷ b ∷ c ∷ s) = None
