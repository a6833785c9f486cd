-- Text as bytes: quoted text, whether bytes spell it, and the lines of a text, one by one and all together.
use Rattle.std.specs.Prelude.{ℕ, ◌+◌, ◌-◌, Bool, true, false, cond, ◌&&◌, List, [], ◌∷◌, ltb, eqb, length, take, drop}
use Prim.Native.Char.{code}
use Prim.Native.String.{String, [] as []ˢ, ◌∷◌ as ◌∷ˢ◌}

abbrev pub bytes : String → List ℕ
bytes []ˢ = []
bytes (c ∷ˢ s) = code c ∷ bytes s

-- Whether two texts are the same.
unfoldable pub same : List ℕ → List ℕ → Bool
same [] [] = true
same [] (y ∷ v) = false
same (x ∷ u) [] = false
same (x ∷ u) (y ∷ v) = eqb x y && same u v

infix 40 ◌is◌
abbrev pub ◌is◌ : List ℕ → String → Bool
t is s = same t (bytes s)

-- The byte c before these lines: byte 10 ends an empty line there, any other byte belongs to the first.
unfoldable pub prefixed : Bool → ℕ → List (List ℕ) → List (List ℕ)
prefixed true c ls = [] ∷ ls
prefixed false c [] = (c ∷ []) ∷ []
prefixed false c (l ∷ ls) = (c ∷ l) ∷ ls

-- Lines end in byte 10, the last one optionally. Empty text has no lines.
unfoldable pub lines : List ℕ → List (List ℕ)
lines [] = []
lines (c ∷ s) = prefixed (eqb c 10) c (lines s)

-- The bytes before the first b.
unfoldable pub before : ℕ → List ℕ → List ℕ
before b [] = []
before b (x ∷ s) = cond (eqb x b) [] (x ∷ before b s)

-- The line that goes on at `at`, and where it ends.
abbrev pub line_at : List ℕ → ℕ → List ℕ
line_at text at = before 10 (drop at text)

abbrev pub end_at : List ℕ → ℕ → ℕ
end_at text at = at + length (line_at text at)

-- Behind the byte 10 that ends a line at `end`, or at the text's end, which is at `last`.
abbrev pub behind_line : ℕ → ℕ → ℕ
behind_line end last = cond (ltb end last) (end + 1) end

abbrev pub next_line : List ℕ → ℕ → ℕ
next_line text at = behind_line (end_at text at) (length text)

-- The bytes of a text from `start` up to `behind`.
abbrev pub span : List ℕ → ℕ → ℕ → List ℕ
span text start behind = take (behind - start) (drop start text)
