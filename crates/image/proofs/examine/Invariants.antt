-- `examine`: the record that was read last and those to come have by themselves the fault that all have.
use Rattle.std.proofs.Common.{◌≡◌, ◌∷◌, ◌/◌, ◌%◌, map, drop}
use Rattle.image.specs.Records.{first_fault, record_in}
use Rattle.image.proofs.examine.Given as goal

abbrev pub invariant-loop-four : goal.invariant-loop-four
invariant-loop-four l =
    first_fault 0 (record { address = record { 0 = l.last / 65536 }; value = l.last % 65536 } ∷ map record_in (drop l.four-index l.rest))
    ≡ first_fault 0 (map record_in l.fn.records)
