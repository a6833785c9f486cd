-- `repeat`: what is left to do, with the cycles done, comes to what the whole run comes to.
use Rattle.std.proofs.Common.{◌≡◌, ◌-◌}
use Rattle.turns.specs.Turns.{plus}
use Rattle.bus.specs.Code.Lent.{Stays}
use Rattle.cycle.specs.Code.Standing.{standing}
use Rattle.engine.specs.Run.{cycles, ended}
use Rattle.engine.proofs.repeat.Given as goal

abbrev pub invariant-loop-done : goal.invariant-loop-done
invariant-loop-done l =
    record {
      stays : Stays l.initial.bus l.bus;
      same :
          ended 0 (cycles l.store l.initial.bus.input.now l.n (standing l.initial.at l.initial.registers l.initial.bus.memory.now l.initial.bus.log.now))
          ≡ ended 0 (plus l.done 0 (cycles l.store l.initial.bus.input.now (l.n - l.done) (standing l.at l.registers l.bus.memory.now l.bus.log.now)));
    }
