-- What the run program prints (01, Micro text and images, the last paragraph but one): the report of 1,000 instructions, or the answer line.
use Rattle.std.specs.Prelude.{ℕ, cond, List, [], ltb, eqb, length, replicate, None}
use Rattle.image.specs.Image.{Reading, reading}
use Rattle.instruction.specs.Instruction.{State}
use Rattle.turns.specs.Turns.{Turned}
use Rattle.interpreter.specs.Run.{runs}
use Rattle.console.specs.Text.{refusal, report}
use Rattle.console.specs.declared.Run.{Run}

-- All registers 0 and a log of 8 words. (MASC 4,095 is no register of the interpreter's.)
abbrev pub started : List ℕ → State
started memory = record { cp = 0; pp = 0; ac = 0; place = 0; count = 0; memory = memory; log = replicate 8 0 }

-- Fields: answer number, instructions done, table cycles, registers, log count.
abbrev pub fields : Turned State → Run
fields e =
    record {
      answer = e.stop;
      done = e.done;
      cycles = e.cost;
      cp = record { 0 = e.state.cp };
      pp = record { 0 = e.state.pp };
      ac = e.state.ac;
      count = e.state.count;
    }

-- The report of how a run ended.
abbrev pub reported : Turned State → List ℕ
reported e = report (fields e) e.state.log

-- The report of a memory's run: no input, 1,000 instructions.
unfoldable pub ran : List ℕ → List ℕ
ran memory = reported (runs [] 1000 (started memory))

-- Input over 16,368 bytes is 25, before all else; then the image reader answers.
unfoldable pub admitted : List ℕ → List ℕ → Reading
admitted input memory = cond (ltb 16368 (length input)) (record { answer = 25; memory = memory }) (reading input memory)

-- A refused input prints only `answer` and the number.
unfoldable pub told : Reading → List ℕ
told r = cond (eqb r.answer 0) (ran r.memory) (refusal r.answer None)

-- What is printed of an input.
unfoldable pub printed : List ℕ → List ℕ
printed input = told (admitted input (replicate 4096 0))
