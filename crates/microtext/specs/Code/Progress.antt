-- Mirrors the code as it goes along a line: the parts so far, and what one token more makes of them. Only the contracts of private functions
-- cite this; proofs/Whole shows that it comes to what Line says.
use Rattle.std.specs.Prelude.{ℕ, cond, Result, Ok, Err, Option, Some, None, List, [], ◌∷◌, eqb}
use Rattle.token.specs.Code.Numbers.{code_of}
use Rattle.part.specs.Code.Stage.{advance, finished}
use Rattle.part.specs.declared.Stage.{Stage}
use Rattle.part.specs.declared.Stage.TheVariants.{Start}
use Rattle.microtext.specs.Onward.{onward}
use Rattle.microtext.specs.Line.{Meaning, add, settled, nothing}
use Rattle.microtext.specs.declared.Given.{Given}
use Rattle.microtext.specs.declared.Parts.{Parts}
use Rattle.microtext.specs.declared.Fault.{Fault}
use Rattle.microtext.specs.declared.Fault.TheVariants.{Ungrammatical}

-- What lies outside the grammar is refused.
abbrev pub in_grammar : {A : Type 0} → Option A → Result A Fault
in_grammar None = Err Ungrammatical
in_grammar (Some x) = Ok x

-- A part ends.
unfoldable pub part_ended : Parts → Result Given Fault
part_ended ps = onward (in_grammar (finished ps.stage)) (λ p. Ok (add ps.given p))

-- One token more of the parts of a line.
unfoldable pub taken : Parts → ℕ → Result Parts Fault
taken ps t =
    cond (eqb t (code_of ";")) (onward (part_ended ps) (λ g. Ok (record { given = g; stage = Start })))
    (onward (in_grammar (advance ps.stage t)) (λ q. Ok (record { given = ps.given; stage = q })))

unfoldable pub all_taken : Parts → List ℕ → Result Parts Fault
all_taken ps [] = Ok ps
all_taken ps (t ∷ ts) = onward (taken ps t) (λ qs. all_taken qs ts)

-- The parts at the end of their line: the last semicolon may be missing.
abbrev pub concluded_at : Stage → Parts → Meaning
concluded_at Start ps = settled ps.given
concluded_at q ps = onward (part_ended ps) settled

unfoldable pub concluded : Parts → Meaning
concluded ps = concluded_at ps.stage ps

abbrev pub no_parts : Parts
no_parts = record { given = nothing; stage = Start }
