-- Mirrors the code: the pieces that a line is put together from, and what they spell.
use Rattle.std.specs.Prelude.{ℕ, List, [], ◌∷◌, ◌++◌}
use Rattle.std.specs.Borrow.{Bor}

-- Pieces one behind the other.
abbrev pub spelt : List (Bor (List ℕ)) → List ℕ
spelt [] = []
spelt (piece ∷ more) = piece.now ++ spelt more
