-- Mirrors the code: a bus holds the same lists afterwards, and its input says the same.
use Rattle.std.specs.Prelude.{◌≡◌}
use Rattle.bus.specs.declared.Bus.{Bus}

pub record Stays (before later : Bus) : Type 0 where
  pub memory : later.memory.ghost_name ≡ before.memory.ghost_name
  pub log : later.log.ghost_name ≡ before.log.ghost_name
  pub input : later.input.now ≡ before.input.now
