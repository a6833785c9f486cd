-- This mirrors the code: what putting a text on a page does to it.
use Rattle.std.specs.Prelude.{ℕ, ◌+◌, ◌≡◌, ◌≤◌, List, length}
use Rattle.text.specs.Laid.{Wrote}
use Rattle.console.specs.declared.Page.{Page}

-- The text has at most `most` bytes; where it fits it stands behind what was there; and the page is of the same room.
pub record Puts (before : Page) (text : List ℕ) (most : ℕ) (after : Page) : Type 0 where
  pub short : length text ≤ most
  pub wrote : before.at + length text ≤ length before.room.now → Wrote before.room.now before.at text after.room.now after.at
  pub same : after.room.ghost_name ≡ before.room.ghost_name
