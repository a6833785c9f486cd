-- The parts of a line, from their tokens (01, Micro text and images).
use Rattle.std.specs.Prelude.{ℕ, cond, ◌&&◌, Option, Some, None, List, [], ◌∷◌, position}
use Rattle.std.specs.Option.{option_map}
use Rattle.token.specs.Tokens.{Token}
use Rattle.text.specs.Text.{bytes, same, ◌is◌}
use Rattle.text.specs.Decimal.{from_decimal}
use Rattle.part.specs.declared.Part.{Part}
use Rattle.part.specs.declared.Part.TheVariants.{Operation, Transfer, Jump}

-- Registers, by number.
abbrev pub registers : List Token
registers = bytes "cp" ∷ bytes "ac" ∷ bytes "pp" ∷ bytes "ri" ∷ bytes "rt" ∷ bytes "masc" ∷ bytes "rem" ∷ bytes "rdm" ∷ []

-- A register's number, if t is one.
unfoldable pub register_named : Token → Option ℕ
register_named t = position (same t) registers

-- Where an operation stores, if t says where: in a register, or with `alu` nowhere.
unfoldable pub destination : Token → Option (Option ℕ)
destination t = cond (t is "alu") (Some None) (option_map (λ r. Some r) (register_named t))

-- An operation that stores to a register or nowhere, from one or two registers.
unfoldable pub operation : Option (Option ℕ) → ℕ → Option ℕ → Option ℕ → Option Part
operation (Some to) f (Some a) (Some b) = Some (Operation to f a b)
operation to f a b = None

-- One of r, r+1, r-1, r+r, r-r, r^r, <<r, >>r.
unfoldable pub formula : Option (Option ℕ) → List Token → Option Part
formula to [] = None
formula to (r ∷ []) = operation to 0 (register_named r) (Some 0)
formula to (o ∷ r ∷ []) =
    cond (o is "<<") (operation to 6 (register_named r) (Some 0))
    (cond (o is ">>") (operation to 7 (register_named r) (Some 0))
    None)
formula to (r ∷ o ∷ q ∷ []) =
    cond (o is "+") (cond (q is "1") (operation to 1 (register_named r) (Some 0)) (operation to 3 (register_named r) (register_named q)))
    (cond (o is "-") (cond (q is "1") (operation to 2 (register_named r) (Some 0)) (operation to 4 (register_named r) (register_named q)))
    (cond (o is "^") (operation to 5 (register_named r) (register_named q))
    None))
formula to (r ∷ o ∷ q ∷ x ∷ ts) = None

-- The last token, and those before it.
unfoldable pub last : List Token → Token
last [] = []
last (t ∷ []) = t
last (t ∷ u ∷ ts) = last (u ∷ ts)

unfoldable pub front : List Token → List Token
front [] = []
front (t ∷ []) = []
front (t ∷ u ∷ ts) = t ∷ front (u ∷ ts)

-- Without the pair of round brackets that may enclose them.
unfoldable pub bare : List Token → List Token
bare [] = []
bare (t ∷ ts) = cond (t is "(" && last ts is ")") (front ts) (t ∷ ts)

unfoldable pub jump : ℕ → Option ℕ → Option Part
jump sq k = option_map (λ end. Jump sq end) k

-- `if n then goto k`, `if z then goto k`, behind the `if`.
unfoldable pub test : Token → Token → List Token → Option Part
test c t [] = None
test c t (g ∷ []) = None
test c t (g ∷ k ∷ []) =
    cond (t is "then" && g is "goto")
    (cond (c is "n") (jump 1 (from_decimal k)) (cond (c is "z") (jump 2 (from_decimal k)) None))
    None
test c t (g ∷ k ∷ x ∷ ts) = None

-- A part: operation, `rd`, `wr`, jump; none is what lies outside the grammar.
unfoldable pub part : List Token → Option Part
part [] = None
part (t ∷ []) = cond (t is "rd") (Some (Transfer 1 0)) (cond (t is "wr") (Some (Transfer 0 1)) None)
part (t ∷ u ∷ []) = cond (t is "goto") (jump 3 (from_decimal u)) None
part (t ∷ u ∷ v ∷ ts) =
    cond (t is "if") (test u v ts)
    (cond (u is ":=") (formula (destination t) (bare (v ∷ ts)))
    None)
