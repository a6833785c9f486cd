-- 01's figure of a full log, held against the interpreter's definitions by computing.
use Prim.Native.Nat.{ℕ, ◌+◌, ◌*◌}
use mathlib.Core.Path.{◌≡◌, refl}
use mathlib.Core.List.{List, []}
use lib.ListN.{set, replicate}
use Rattle.bus.specs.Ports.{next_input, read_at, goes, sent, logged, write_at}
use Rattle.instruction.specs.Instruction.{State, sets, stores, gains, action, fetched, past, acted, instruct}
use Rattle.turns.specs.Turns.{settled, turns, checked, onwards, plus}
use Rattle.interpreter.specs.Run.{refusal, runs}

-- A memory of zero words but for one instruction.
abbrev holding : ℕ → ℕ → ℕ → List ℕ
holding address code x = set (replicate 4096 0) address (code * 4096 + x)

abbrev standing : ℕ → ℕ → ℕ → List ℕ → State
standing cp pp ac memory = record { cp = cp; pp = pp; ac = ac; place = 0; count = 0; memory = memory; log = [] }

-- LOCO 5, STOR 4094 with a log of length 0: the interpreter stops with 1 done, CP 1.
stopping : (
    let memory : List ℕ = set (holding 1 1 4094) 0 (9 * 4096 + 5) in
    runs [] 2 (standing 0 0 0 memory) ≡ record { state = standing 1 0 5 memory; done = 1; cost = 7; stop = 5 })
unfolding runs checked refusal settled turns onwards plus instruct acted past fetched action sets stores gains read_at next_input write_at goes sent logged
stopping = refl
