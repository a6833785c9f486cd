-- One cycle of the machine, driven by any control word (01, One cycle, in order).
use Rattle.std.specs.Prelude.{ℕ, Bool, cond, List, get_or, set, eqb}
use Rattle.turns.specs.Turns.{Turn, settled}
use Rattle.word.specs.Number.{sum}
use Rattle.bus.specs.Log.{Sent}
use Rattle.datapath.specs.declared.Half.{Half}
use Rattle.datapath.specs.Result.{alu, negative, is_zero, jumps, keeps}
use Rattle.datapath.specs.Transfer.{Found, Transfer, transferred, sends}
use Rattle.microword.specs.declared.Fields.{Fields}
use Rattle.microword.specs.Microword.{fields_of}

-- The machine, with what is lent to it: the control line, the eight registers, what is half done, the input place, the log count,
-- memory and log.
pub record State : Type 0 where
  pub line : ℕ
  pub registers : List ℕ
  pub half : Half
  pub place : ℕ
  pub count : ℕ
  pub memory : List ℕ
  pub log : List ℕ

-- Registers, by number: 0 CP, 1 AC, 2 PP, 3 RI, 4 RT, 5 MASC, 6 REM, 7 RDM.
abbrev pub register : ℕ → State → ℕ
register number s = get_or s.registers number 0

-- Read A and B from the registers as they stood; compute.
unfoldable pub result : Fields → List ℕ → ℕ
result m registers = alu m.f (get_or registers m.a 0) (get_or registers m.b 0)

-- If HS, store to S.
unfoldable pub stored : Fields → ℕ → List ℕ → List ℕ
stored m value registers = cond (eqb m.hs 1) (set registers m.s (keeps m.s value)) registers

-- The address is REM and the written word is RDM, both as they stand after this cycle's store.
abbrev pub found : List ℕ → State → Found
found registers s =
    record {
      rem = get_or registers 6 0;
      rdm = get_or registers 7 0;
      place = s.place;
      count = s.count;
      memory = s.memory;
      log = s.log;
    }

-- Memory transfer.
unfoldable pub transfer : Fields → List ℕ → List ℕ → State → Transfer
transfer m input registers s =
    transferred (eqb m.rd 1) (eqb m.wr 1) input s.half (found registers s)

-- New CMP, by N and Z of this same cycle; a line has so many bits, and after the last comes 0.
unfoldable pub target : ℕ → Fields → Bool → ℕ → ℕ
target bits m jump line = cond jump m.end (sum bits line 1)

unfoldable pub next_line : ℕ → Fields → ℕ → ℕ → ℕ
next_line bits m value line = target bits m (jumps m.sq (negative value) (is_zero value)) line

-- What a cycle comes to by its transfer, whose RDM goes over anything the cycle stored there.
abbrev pub arrived : ℕ → List ℕ → Transfer → Turn State
arrived line registers t =
    record {
      next =
          record {
            line = line;
            registers = set registers 7 t.rdm;
            half = t.half;
            place = t.place;
            count = t.count;
            memory = t.memory;
            log = t.log;
          };
      stop = t.stop;
      cost = 1;
    }

-- What the fields of a control word drive.
unfoldable pub driven : ℕ → Fields → List ℕ → State → Turn State
driven bits m input s =
    let value : ℕ = result m s.registers in
    let registers : List ℕ = stored m value s.registers in
    arrived (next_line bits m value s.line) registers (transfer m input registers s)

-- A cycle by the fields of a control word, where lines have so many bits; a refused one leaves the state before it.
unfoldable pub cycle_on : ℕ → Fields → List ℕ → State → Turn State
cycle_on bits m input s = settled s (driven bits m input s)

-- The write that it completes, if any.
unfoldable pub writes_on : Fields → State → List Sent
writes_on m s = sends (eqb m.rd 1) (eqb m.wr 1) s.half (found (stored m (result m s.registers) s.registers) s)

-- The cycle of a control word of 23 bits; after line 63 comes 0.
abbrev pub cycle_of : ℕ → List ℕ → State → Turn State
cycle_of word input s = cycle_on 6 (fields_of word) input s

abbrev pub written_by : ℕ → State → List Sent
written_by word s = writes_on (fields_of word) s
