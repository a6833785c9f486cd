-- This mirrors the code: how the functions that make a text leave it in a lent room. What the programs print does not reach it.
use Rattle.std.specs.Prelude.{ℕ, cond, List, ◌++◌, ltb, length, drop}

-- What is left of showing a text: its length, and the room.
pub record Shown : Type 0 where
  pub length : ℕ
  pub room : List ℕ

-- A room of 512 bytes or more has the text at its front and is as found past it; a smaller one is as found.
unfoldable pub shown : List ℕ → List ℕ → Shown
shown text room =
    cond (ltb (length room) 512) (record { length = 0; room = room }) (record { length = length text; room = text ++ drop (length text) room })
