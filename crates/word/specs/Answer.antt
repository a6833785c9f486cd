-- What a call answers (01, Answer numbers): 0 where it is done, else the number of its refusal; and the line that answer 4 names.
use Rattle.std.specs.Prelude.{ℕ, Option, Some, None, Result, Ok, Err}
use Rattle.word.specs.declared.Line.{Line}

abbrev pub answered : {A E : Type 0} → (E → ℕ) → Result A E → ℕ
answered number (Ok done) = 0
answered number (Err refusal) = number refusal

-- The line that a refusal names; 0 where it names none.
abbrev pub named : Option Line → ℕ
named (Some line) = line.0
named None = 0
