-- Values stay within their widths over a run: CP and PP 12 bits, AC and every word of memory and log 16, if they and the input's were.
use Prim.Native.Nat.{ℕ}
use mathlib.Core.List.{List}
use Rattle.turns.proofs.Laws as T
use Rattle.instruction.specs.Instruction.{State, instruct}
use Rattle.instruction.proofs.Widths.{words, Sound, set_words, instruct_sound}
use Rattle.interpreter.specs.Run.{instructions}

pub run_sound : (input : List ℕ) → words input → (n : ℕ) (s : State) → Sound words s → Sound words (instructions input n s).state
unfolding instructions
run_sound input i n s sound = T.keeps (instruct input) (Sound words) (instruct_sound words set_words input i) n s sound
