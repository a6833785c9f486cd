-- Text laid into a lent room: what the room holds then, and where the text ends.
use Rattle.std.specs.Prelude.{ℕ, ◌+◌, ◌≡◌, cond, List, ◌++◌, ltb, length, take, drop}
use Rattle.std.proofs.lemmas.List.Edits.{sets}

-- The room as it is left, and where what comes next may be laid.
pub record Laid : Type 0 where
  pub room : List ℕ
  pub next : ℕ

-- The text stands from `at` on, and the room before and past it is as found; a text that would pass the room's end is not laid.
unfoldable pub laid : List ℕ → ℕ → List ℕ → Laid
laid room at text =
    cond (ltb (length room) (at + length text)) (record { room = room; next = at })
    (record { room = take at room ++ text ++ drop (at + length text) room; next = at + length text })

-- `text` stored in `room` from `at` on leaves `left`, and `next` is behind it.
pub record Wrote (room : List ℕ) (at : ℕ) (text : List ℕ) (left : List ℕ) (next : ℕ) : Type 0 where
  pub stored : left ≡ sets room at text
  pub behind : next ≡ at + length text
