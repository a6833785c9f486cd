-- A control word as a line of a listing: how long it is, and the line laid into a lent room.
use Rattle.std.specs.Prelude.{ℕ, cond, ◌||◌, List, ltb, length}
use Rattle.microtext.specs.Listing.{line}
use Rattle.microword.specs.Microword.{fields_of}
use Rattle.text.specs.Laid.{Laid, laid}

-- How long a line is; lines are numbered from 0 to 63, and another number has the length 0.
unfoldable pub line_length : ℕ → ℕ → ℕ
line_length number word = cond (ltb 63 number) 0 (length (line number (fields_of word)))

-- A line has at most 44 bytes, and lines are numbered from 0 to 63: a smaller room, or one for another number, is as found.
unfoldable pub laid_line : List ℕ → ℕ → ℕ → Laid
laid_line room number word =
    cond (ltb (length room) 44 || ltb 63 number) (record { room = room; next = 0 }) (laid room 0 (line number (fields_of word)))
