-- A line of micro text: its number, a colon, and parts divided by semicolons (01, Micro text and images; answers 11 to 15).
use Rattle.std.specs.Prelude.{ℕ, Bool, true, false, cond, not, ◌&&◌, ◌||◌, Option, Some, None, Result, Ok, Err, List, [], ◌∷◌, leb, ltb, eqb, is_some}
use Rattle.std.specs.Option.{unwrap_or}
use Rattle.microword.specs.Microword.{word_of}
use Rattle.microword.specs.declared.Fields.{Fields}
use Rattle.token.specs.Tokens.{Token, tokens}
use Rattle.part.specs.Grammar.{part}
use Rattle.part.specs.declared.Part.{Part}
use Rattle.part.specs.declared.Part.TheVariants.{Operation, Transfer, Jump}
use Rattle.text.specs.Text.{◌is◌}
use Rattle.text.specs.Decimal.{from_decimal}
use Rattle.microtext.specs.declared.Given.{Given}
use Rattle.microtext.specs.declared.Fault.{Fault}
use Rattle.microtext.specs.declared.Fault.TheVariants.{ExtraLine, WrongNumber, Ungrammatical, FarTarget, WrongParts}

-- What a line means: its word, or why it is refused.
abbrev pub Meaning : Type 0
Meaning = Result ℕ Fault

-- Document 01's number of a line's refusal.
abbrev pub number : Fault → ℕ
number ExtraLine = 11
number WrongNumber = 12
number Ungrammatical = 13
number FarTarget = 14
number WrongParts = 15

-- The token t before these pieces: a semicolon divides, any other token belongs to the first piece.
unfoldable pub cut : Token → List (List Token) → List (List Token)
cut t [] = (t ∷ []) ∷ []
cut t (p ∷ ps) = cond (t is ";") ([] ∷ p ∷ ps) ((t ∷ p) ∷ ps)

-- The pieces between semicolons.
unfoldable pub divided : List Token → List (List Token)
divided [] = [] ∷ []
divided (t ∷ ts) = cut t (divided ts)

-- Behind the last semicolon there is a part or nothing.
unfoldable pub last_part : List Token → List (Option Part)
last_part [] = []
last_part (t ∷ ts) = part (t ∷ ts) ∷ []

-- Before a semicolon there is a part; the last semicolon may be missing.
unfoldable pub parts : List (List Token) → List (Option Part)
parts [] = []
parts (p ∷ []) = last_part p
parts (p ∷ q ∷ ps) = part p ∷ parts (q ∷ ps)

-- A transfer, a jump, a jump with a test among the fields.
abbrev pub has_transfer : Fields → Bool
has_transfer m = eqb m.rd 1 || eqb m.wr 1

abbrev pub has_jump : Fields → Bool
has_jump m = not (eqb m.sq 0)

abbrev pub has_test : Fields → Bool
has_test m = eqb m.sq 1 || eqb m.sq 2

-- One part more. An operation gives A, B, F and, but for `alu`, S with HS; `rd` and `wr` RD and WR; a jump SQ and END.
unfoldable pub add : Given → Part → Given
add g (Operation to f a b) =
    let m : Fields = g.fields in
    record {
      far = g.far;
      twice = g.twice || g.operation;
      operation = true;
      fields = record { a = a; b = b; s = unwrap_or to 0; hs = cond (is_some to) 1 0; f = f; rd = m.rd; wr = m.wr; sq = m.sq; end = m.end };
    }
add g (Transfer rd wr) =
    let m : Fields = g.fields in
    record {
      far = g.far;
      twice = g.twice || has_transfer m;
      operation = g.operation;
      fields = record { a = m.a; b = m.b; s = m.s; hs = m.hs; f = m.f; rd = rd; wr = wr; sq = m.sq; end = m.end };
    }
add g (Jump sq k) =
    let m : Fields = g.fields in
    record {
      far = g.far || leb 64 k;
      twice = g.twice || has_jump m;
      operation = g.operation;
      fields = record { a = m.a; b = m.b; s = m.s; hs = m.hs; f = m.f; rd = m.rd; wr = m.wr; sq = sq; end = k };
    }

-- No part given yet.
abbrev pub nothing : Given
nothing = record { far = false; twice = false; operation = false; fields = record { a = 0; b = 0; s = 0; hs = 0; f = 0; rd = 0; wr = 0; sq = 0; end = 0 } }

-- 15: a kind of part given twice, rd with wr, a test with no operation, alu with no test.
unfoldable pub clash : Given → Bool
clash g =
    let m : Fields = g.fields in
    g.twice || (has_test m && not g.operation) || (g.operation && eqb m.hs 0 && not (has_test m))

-- 14 comes before 15.
unfoldable pub settled : Given → Meaning
settled g =
    cond g.far (Err FarTarget)
    (cond (clash g) (Err WrongParts)
    (Ok (word_of g.fields)))

-- The parts in turn. 13, for one outside the grammar, comes before both. A line with no part is a zero word.
unfoldable pub meaning : Given → List (Option Part) → Meaning
meaning g [] = settled g
meaning g (None ∷ ps) = Err Ungrammatical
meaning g (Some p ∷ ps) = meaning (add g p) ps

-- Behind the number: a colon, and the parts.
unfoldable pub behind_number : List Token → Meaning
behind_number [] = Err Ungrammatical
behind_number (c ∷ ts) = cond (c is ":") (meaning nothing (parts (divided ts))) (Err Ungrammatical)

-- 12: the number is missing, has a leading zero, or is not the next from 0. What spells none counts as 100, which no line is.
unfoldable pub numbered : ℕ → List Token → Meaning
numbered k [] = Err WrongNumber
numbered k (n ∷ ts) = cond (eqb (unwrap_or (from_decimal n) 100) k) (behind_number ts) (Err WrongNumber)

-- The line k, counted from 0, of these bytes. 11: a 65th line, whatever it holds.
unfoldable pub line : ℕ → List ℕ → Meaning
line k s = cond (ltb k 64) (numbered k (tokens s)) (Err ExtraLine)
