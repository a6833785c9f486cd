-- What is half done, by the number that a caller's list has for it.
use Rattle.std.specs.Prelude.{ℕ, ◌<◌, ◌≡◌, Result, MatchResult}
use Rattle.datapath.specs.declared.Half.{Half}
use Rattle.datapath.specs.declared.Half.TheVariants.{Nothing, Read, Write}
use Rattle.datapath.specs.declared.UnknownHalf.{UnknownHalf}

-- The number of what is half done.
abbrev pub half_number : Half → ℕ
half_number Nothing = 0
half_number Read = 1
half_number Write = 2

-- What has this number; above 2 nothing has.
abbrev pub Numbers : ℕ → Result Half UnknownHalf → Type 0
Numbers number known = MatchResult known (λ half. half_number half ≡ number) (λ unknown. (unknown.0 ≡ number) × (2 < number))
