-- The lister and the image writer called from C: a text put at the start of a lent room (01, Answer numbers; Micro text and images).
use Rattle.std.specs.Prelude.{ℕ, List, [], ◌∷◌}
use Rattle.lister.specs.Answers.{Outcome, listed}
use Rattle.image.specs.Image.{Writing, writing}

-- The answer's number, the room as it stands afterwards, and what the caller is told.
pub record Filled : Type 0 where
  pub answer : ℕ
  pub room : List ℕ
  pub told : List ℕ

-- Told are the listing's length and the line that answer 4 names.
abbrev pub of_listing : Outcome → Filled
of_listing o = record { answer = o.answer; room = o.room; told = o.length ∷ o.line ∷ [] }

unfoldable pub list_called : List ℕ → List ℕ → Filled
list_called store room = of_listing (listed store room)

-- Told is the image's length.
abbrev pub of_writing : Writing → Filled
of_writing w = record { answer = w.answer; room = w.room; told = w.length ∷ [] }

unfoldable pub write_called : List ℕ → List ℕ → Filled
write_called memory room = of_writing (writing memory room)
