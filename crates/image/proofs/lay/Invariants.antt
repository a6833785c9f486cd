-- `lay`: the records to come have no fault, and laid over memory they give the memory of all.
use Rattle.std.proofs.Common.{◌≡◌, ℕ, List, length, map, drop, replicate}
use Rattle.image.specs.Records.{first_fault, record_in, laid}
use Rattle.image.proofs.lay.Given as goal

pub record Laying (fours : List (List ℕ)) (memory : List ℕ) (i : ℕ) : Type 0 where
  pub least : ℕ
  pub faultless : first_fault least (map record_in (drop i fours)) ≡ 0
  pub words : length memory ≡ 4096
  pub rest : laid (map record_in (drop i fours)) memory ≡ laid (map record_in fours) (replicate 4096 0)

abbrev pub invariant-loop-four : goal.invariant-loop-four
invariant-loop-four l = Laying l.records l.memory l.four-index
