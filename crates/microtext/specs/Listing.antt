-- The bytes of a listing (01, Micro text and images): of an operation, of a jump, of a line, of a control store.
use Rattle.std.specs.Prelude.{ℕ, suc, Bool, cond, not, ◌||◌, List, [], ◌∷◌, ◌++◌, eqb, get_or}
use Rattle.microword.specs.Microword.{fields_of, normal_form, idle}
use Rattle.microword.specs.declared.Fields.{Fields}
use Rattle.part.specs.Grammar.{registers}
use Rattle.text.specs.Text.{bytes}
use Rattle.text.specs.Decimal.{short_decimal}

-- A register by its name.
abbrev pub register_name : ℕ → List ℕ
register_name r = get_or registers r []

-- What F computes of the registers a and b: r, r+1, r-1, r+r, r-r, r^r, <<r, >>r.
unfoldable pub formulas : List ℕ → List ℕ → List (List ℕ)
formulas a b =
    a ∷ (a ++ bytes "+1") ∷ (a ++ bytes "-1") ∷ (a ++ bytes "+" ++ b) ∷ (a ++ bytes "-" ++ b) ∷ (a ++ bytes "^" ++ b) ∷ (bytes "<<" ++ a)
    ∷ (bytes ">>" ++ a) ∷ []

abbrev pub formula : Fields → List ℕ
formula m = get_or (formulas (register_name m.a) (register_name m.b)) m.f []

-- `alu` stores nothing.
abbrev pub destination : Fields → List ℕ
destination m = cond (eqb m.hs 0) (bytes "alu") (register_name m.s)

-- An operation is a register or `alu`, `:=`, and one of the formulas; no brackets.
unfoldable pub operation : Fields → List ℕ
operation m = destination m ++ bytes ":=" ++ formula m

-- Jumps, by SQ: none, `if n then goto k`, `if z then goto k`, `goto k`.
unfoldable pub jump_texts : List (List ℕ)
jump_texts = [] ∷ bytes "if n then goto " ∷ bytes "if z then goto " ∷ bytes "goto " ∷ []

unfoldable pub jump : Fields → List ℕ
jump m = get_or jump_texts m.sq [] ++ short_decimal m.end

-- For each part a space, the part, a semicolon.
abbrev pub part : Bool → List ℕ → List ℕ
part there text = cond there (bytes " " ++ text ++ bytes ";") []

-- Nothing asks for the result of an idle word, so it has no operation.
abbrev pub operation_part : Fields → List ℕ
operation_part m = part (not (idle m)) (operation m)

abbrev pub transfer_part : Fields → List ℕ
transfer_part m = part (eqb m.rd 1 || eqb m.wr 1) (cond (eqb m.rd 1) (bytes "rd") (bytes "wr"))

abbrev pub jump_part : Fields → List ℕ
jump_part m = part (not (eqb m.sq 0)) (jump m)

-- Number, colon, then the parts in the order operation, rd or wr, jump; byte 10 last.
unfoldable pub line : ℕ → Fields → List ℕ
line number m = short_decimal number ++ bytes ":" ++ operation_part m ++ transfer_part m ++ jump_part m ++ 10 ∷ []

-- Words as lines, numbered from `number` on.
unfoldable pub lines : ℕ → List ℕ → List ℕ
lines number [] = []
lines number (w ∷ ws) = line number (fields_of w) ++ lines (suc number) ws

-- A word before others that are printed is printed; the last only if its normal form is not 0.
unfoldable pub up_to : ℕ → List ℕ → List ℕ
up_to w [] = cond (eqb (normal_form w) 0) [] (w ∷ [])
up_to w (x ∷ xs) = w ∷ x ∷ xs

-- The words up to the last whose normal form is not 0.
unfoldable pub shown : List ℕ → List ℕ
shown [] = []
shown (w ∷ ws) = up_to w (shown ws)

-- The lister prints lines up to the last whose normal form is not 0.
abbrev pub listing : List ℕ → List ℕ
listing store = lines 0 (shown store)
