-- `list` leaves its lines at the room's start, and they are those of the words that are shown.
use mathlib.Core.Path.{ap}
use native.Mathlib.Omega.{arith}
use lib.ListN.{length}
use Rattle.std.proofs.lemmas.Grind.{common_steps}
use Rattle.text.proofs.Laid.{same_text, all_of}
use Rattle.microtext.specs.Listing.{lines}
use Rattle.lister.specs.Answers.{listed}
use Rattle.lister.proofs.list.Goals as goal

pub returns : goal.returns
unfolding listed
returns c =
    let same = ap (lines 0) c.shown_words-words.ensures in
    let put = same_text same c.put_lines.ensures in
    let all = all_of put (omega (arith, ap length same)) in
    grind (arith, common_steps, all, put.behind, same)
