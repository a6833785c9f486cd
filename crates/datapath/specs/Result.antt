-- What a cycle computes, what a register keeps of it and where it sends the machine (01, Registers and microwords).
use Rattle.std.specs.Prelude.{ℕ, ◌*◌, ◌/◌, Bool, true, false, cond, ◌||◌, leb, eqb}
use Rattle.std.specs.Int.Bits.{bit_and}
use Rattle.word.specs.Number.{kept, sum, difference}

-- A and B bit by bit.
unfoldable pub both : ℕ → ℕ → ℕ
both a b = bit_and a b

-- A shift by one place brings in a zero.
abbrev pub left_one : ℕ → ℕ
left_one a = kept 16 (a * 2)

abbrev pub right_one : ℕ → ℕ
right_one a = a / 2

-- F: 0 A; 1 A+1; 2 A-1; 3 A+B; 4 A-B; 5 A and B bit by bit; 6 A one place left; 7 A one place right.
unfoldable pub alu : ℕ → ℕ → ℕ → ℕ
alu f a b =
    cond (eqb f 0) a
    (cond (eqb f 1) (sum 16 a 1)
    (cond (eqb f 2) (difference 16 a 1)
    (cond (eqb f 3) (sum 16 a b)
    (cond (eqb f 4) (difference 16 a b)
    (cond (eqb f 5) (both a b)
    (cond (eqb f 6) (left_one a) (right_one a)))))))

-- N is bit 15 of the full 16-bit result and Z says that it is 0.
abbrev pub negative : ℕ → Bool
negative result = leb 32768 result

abbrev pub is_zero : ℕ → Bool
is_zero result = eqb result 0

-- SQ: 0 next line; 1 to END if N; 2 to END if Z; 3 to END.
unfoldable pub jumps : ℕ → Bool → Bool → Bool
jumps sq n z = cond (eqb sq 0) false (cond (eqb sq 1) n (cond (eqb sq 2) z true))

-- A value stored to CP, PP or REM (0, 2 and 6) keeps its low 12 bits.
unfoldable pub keeps : ℕ → ℕ → ℕ
keeps register value = cond (eqb register 0 || eqb register 2 || eqb register 6) (kept 12 value) value
