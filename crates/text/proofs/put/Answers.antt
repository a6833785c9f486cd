-- `put`: at the end of the loop nothing is left to lay.
use Prim.Native.Nat.{ℕ, ◌+◌}
use mathlib.Core.List.{List}
use mathlib.Core.Path.{refl, sym, ap, ◌∙◌}
use native.Mathlib.Omega.{arith}
use lib.ListN.{drop_of_length-le}
use lib.Seq.{sets}
use Rattle.text.proofs.Laid.{laid_stored}
use Rattle.text.proofs.put.Goals as goal

pub returns : goal.returns
returns c = let text = c.args.text.now in
    laid_stored c.loop-i.invariant.0
    (record {
      stored =
          ap (λ (rest : List ℕ). sets c.loop-i.room (c.args.at + c.loop-i.i) rest) (sym (drop_of_length-le text (omega arith)))
          ∙ c.loop-i.invariant.2;
      behind = refl;
    })
