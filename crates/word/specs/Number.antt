-- What a number's bits are: fields, what few bits keep, sums, and a word's two bytes (01, Registers and microwords).
use Rattle.std.specs.Prelude.{ℕ, ◌+◌, ◌-◌, ◌*◌, ◌/◌, ◌%◌, ◌^◌, List, [], ◌∷◌, slice_index}

-- A number's low `width` bits.
abbrev pub kept : ℕ → ℕ → ℕ
kept width number = number % 2 ^ width

-- The field of `width` bits whose lowest is bit `low`.
abbrev pub field : ℕ → ℕ → ℕ → ℕ
field low width number = kept width (number / 2 ^ low)

-- `high` moved up by `width` bits in a number of 32, with the low bits of `value` in the room that this makes.
abbrev pub placed : ℕ → ℕ → ℕ → ℕ
placed high width value = kept 32 (high * 2 ^ width) + kept width value

-- A field's width and its value.
pub record Field : Type 0 where
  pub width : ℕ
  pub value : ℕ

-- Fields placed one below the other, highest first, below what is there.
unfoldable pub joined : ℕ → List Field → ℕ
joined high [] = high
joined high (f ∷ fs) = joined (placed high f.width f.value) fs

-- The widths of fields together.
unfoldable pub total : List Field → ℕ
total [] = 0
total (f ∷ fs) = f.width + total fs

-- Widths together: where the fields of these widths, the last at bit 0, begin above.
unfoldable pub widths : List ℕ → ℕ
widths [] = 0
widths (k ∷ ks) = k + widths ks

-- Sums and differences are taken modulo 2 ^ width.
abbrev pub sum : ℕ → ℕ → ℕ → ℕ
sum width a b = kept width (a + b)

abbrev pub difference : ℕ → ℕ → ℕ → ℕ
difference width a b = kept width (a + (2 ^ width - kept width b))

-- A word is two bytes, high byte first.
abbrev pub bytes_of : ℕ → List ℕ
bytes_of word = field 8 8 word ∷ field 0 8 word ∷ []

abbrev pub word_of : List ℕ → ℕ
word_of bytes = slice_index bytes 0 * 256 + slice_index bytes 1
