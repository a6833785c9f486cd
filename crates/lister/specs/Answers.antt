-- What a call of the lister answers and leaves (01, Answer numbers: 1, 16, 4, 17 in this order, then 0).
use Rattle.std.specs.Prelude.{ℕ, cond, List, ◌++◌, Option, Some, None, Result, Ok, Err, ltb, length, drop}
use Rattle.word.specs.declared.Line.{Line}
use Rattle.word.specs.Answer.{named}
use Rattle.store.specs.Store.{wrong_store, words, first_bad}
use Rattle.microtext.specs.Listing.{listing}
use Rattle.lister.specs.declared.Refusal.{Refusal}
use Rattle.lister.specs.declared.Refusal.TheVariants.{WrongSize, SmallRoom, BadWord, PastRoom}

-- The answer's number, the line that 4 names, the listing's length, and the room.
pub record Outcome : Type 0 where
  pub answer : ℕ
  pub line : ℕ
  pub length : ℕ
  pub room : List ℕ

-- Document 01's number of each refusal; a listing is answer 0.
abbrev pub number : Refusal → ℕ
number WrongSize = 1
number SmallRoom = 16
number (BadWord line) = 4
number PastRoom = 17

-- The line that a refusal names.
abbrev pub line_of : Refusal → Option Line
line_of WrongSize = None
line_of SmallRoom = None
line_of (BadWord line) = Some line
line_of PastRoom = None

-- What a caller sees of a call that leaves the room at `left`.
abbrev pub seen : Result ℕ Refusal → List ℕ → Outcome
seen (Ok length) left = record { answer = 0; line = 0; length = length; room = left }
seen (Err refusal) left = record { answer = number refusal; line = named (line_of refusal); length = 0; room = left }

-- A refusal leaves the room as found.
abbrev pub refused : ℕ → ℕ → List ℕ → Outcome
refused answer line room = record { answer = answer; line = line; length = 0; room = room }

-- The listing stands at the room's start, and the room past it is as found.
abbrev pub done : List ℕ → List ℕ → Outcome
done text room = record { answer = 0; line = 0; length = length text; room = text ++ drop (length text) room }

-- The lister's order: 1, 16, 4, 17.
unfoldable pub listed : List ℕ → List ℕ → Outcome
listed store room =
    cond (wrong_store store) (refused 1 0 room)
    (cond (ltb (length room) 2816) (refused 16 0 room)
    (cond (ltb (first_bad store) (length (words store))) (refused 4 (first_bad store) room)
    (cond (ltb (length room) (length (listing (words store)))) (refused 17 0 room)
    (done (listing (words store)) room))))
