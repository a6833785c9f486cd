-- What the line of a text at `at` means, and where the next one begins (01, Micro text and images).
use Rattle.std.specs.Prelude.{ℕ, Result, Ok, Err, List}
use Rattle.text.specs.Text.{line_at, next_line}
use Rattle.microtext.specs.Line.{Meaning, line}
use Rattle.microtext.specs.declared.Fault.{Fault}
use Rattle.microtext.specs.declared.Read.{Read}

-- A line's word with where the next line begins, or its fault.
abbrev pub reading : Meaning → ℕ → Result Read Fault
reading (Ok w) next = Ok (record { word = w; next = next })
reading (Err f) next = Err f

-- The line at `at`, as the line numbered k.
unfoldable pub reading_at : List ℕ → ℕ → ℕ → Result Read Fault
reading_at text at k = reading (line k (line_at text at)) (next_line text at)
