-- `fill` has put all words where the loop ends.
use Prim.Native.Nat.{ℕ}
use mathlib.Core.List.{List}
use mathlib.Core.Path.{ap, ◌∙◌}
use native.Mathlib.Omega.{arith}
use lib.Seq.{take_all}
use Rattle.list.specs.Listing.{words_of, with_words}
use Rattle.list.proofs.Laws.{words_count}
use Rattle.list.proofs.fill.Goals as goal

pub returns : goal.returns
returns c =
    let words = words_of c.args.input.now in
    let all = take_all c.loop-line.line words (omega (arith, words_count 64 c.args.input.now c.requires)) in
    c.loop-line.invariant ∙ ap (λ (ws : List ℕ). with_words c.args.store.now 0 ws) all
