-- Mirrors the code: what an action comes to before its word is written, as the definition's record once that is done.
use Rattle.std.specs.Prelude.{ℕ, ◌≡◌, List, length, ltb, Option, Some, None}
use Rattle.turns.specs.Turns.{Turn}
use Rattle.bus.specs.Stops.{goes_on}
use Rattle.bus.specs.declared.Ports.{Ports}
use Rattle.instruction.specs.Instruction.{State, state_in, stores}
use Rattle.instruction.specs.declared.Core.{Core}
use Rattle.instruction.specs.declared.Write.{Write}
use Rattle.instruction.specs.declared.Effect.{Effect}

-- The registers of a state are set already; its word, if any, is written.
abbrev pub written : ℕ → Option Write → State → Turn State
written cycles None s = record { next = s; stop = goes_on; cost = cycles }
written cycles (Some write) s = stores cycles s s.cp s.pp s.place write.address.0 write.word

abbrev pub act_of : Effect → ℕ → List ℕ → List ℕ → Turn State
act_of e count memory log = written e.cycles e.write (state_in e.cpu count memory log)

-- An action that reads nothing comes to an effect, whatever memory and log hold.
abbrev pub Does : (State → Turn State) → Core → Effect → Type 0
Does acts cpu e = (count : ℕ) (memory log : List ℕ) → acts (state_in cpu count memory log) ≡ act_of e count memory log

-- An action that reads through the ports, whatever the log holds: only whether it has room is known.
abbrev pub Reads : (List ℕ → State → Turn State) → Ports → Core → Effect → Type 0
Reads acts ports cpu e =
    (count : ℕ) (log : List ℕ) → ltb count (length log) ≡ ports.room
    → acts ports.input.now (state_in cpu count ports.memory.now log) ≡ act_of e count ports.memory.now log
