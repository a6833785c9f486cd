-- Mirrors the code: the machine taken apart, what a cycle finds and what it leaves each in a variable of its own.
use Rattle.std.specs.Prelude.{List, ℕ, Result, cond, get_or, eqb}
use Rattle.turns.specs.Turns.{Turn}
use Rattle.bus.specs.declared.Stop.{Stop}
use Rattle.bus.specs.Stops.{stopped}
use Rattle.bus.specs.Code.Gives.{gives}
use Rattle.microword.specs.declared.Fields.{Fields}
use Rattle.microword.specs.Microword.{fields_of}
use Rattle.cycle.specs.Cycle.{State, result, stored, next_line}
use Rattle.cycle.specs.declared.Begun.{Begun}
use Rattle.cycle.specs.declared.Standing.{Standing}

abbrev pub standing : Standing → List ℕ → List ℕ → List ℕ → State
standing at registers memory log =
    record {
      line = at.line.0;
      registers = registers;
      half = at.half;
      place = at.place;
      count = at.count;
      memory = memory;
      log = log;
    }

-- A refused cycle leaves what stood before it, and is worth nothing.
abbrev pub stepped : Standing → Result Standing Stop → List ℕ → List ℕ → List ℕ → Turn State
stepped before result registers memory log =
    record {
      next = standing (gives before result) registers memory log;
      stop = stopped result;
      cost = cond (eqb (stopped result) 0) 1 0;
    }

-- A cycle once it has stored: the fields of its word, the line that follows, what stood in S, and the registers.
pub record Beginning : Type 0 where
  pub fields : Fields
  pub next : ℕ
  pub stood : ℕ
  pub registers : List ℕ

unfoldable pub beginning_on : ℕ → Fields → ℕ → List ℕ → Beginning
beginning_on bits m line registers =
    let value : ℕ = result m registers in
    record { fields = m; next = next_line bits m value line; stood = get_or registers m.s 0; registers = stored m value registers }

abbrev pub beginning : ℕ → ℕ → List ℕ → Beginning
beginning word line registers = beginning_on 6 (fields_of word) line registers

abbrev pub began : Begun → List ℕ → Beginning
began b registers = record { fields = b.m; next = b.next.0; stood = b.old; registers = registers }
