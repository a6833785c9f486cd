-- `put_line` puts the pieces of the line, which has at most 44 bytes.
use mathlib.Core.Path.{◌≡◌, ap, ◌∙◌}
use native.Mathlib.Omega.{arith}
use lib.ListN.{length}
use Rattle.text.proofs.Laid.{same_text}
use Rattle.microtext.specs.Listing.{line}
use Rattle.microword.proofs.Laws.{fields_within}
use Rattle.microword.specs.Code.Within.{Within}
use Rattle.microline.specs.Code.Pieces.{spelt}
use Rattle.microline.proofs.Laws.{line_le, laid_line_lem}
use Rattle.microline.proofs.put_line.Goals as goal
use Rattle.microline.proofs.put_line.Goals.{After-pieces}

pub digits-end-requires : goal.digits-end-requires
digits-end-requires c =
    let fields : Within c.fields_of-m.result = rw c.fields_of-m.ensures (fields_within _) in
    omega (arith, fields.end)

line_spelt : (c : After-pieces) → spelt c.pieces.result ≡ line c.args.number c.fields_of-m.result
unfolding line
line_spelt c = c.pieces.ensures ∙ rw (c.short.ensures, c.digits-own.ensures)

pub put_pieces-requires : goal.put_pieces-requires
put_pieces-requires c =
    omega (arith, ap length (line_spelt (goal.at.put_pieces-requires c).After-pieces), line_le c.args.number c.fields_of-m.result)

pub returns : goal.returns
returns c =
    let same = line_spelt (goal.at.returns c).After-pieces ∙ ap (line c.args.number) c.fields_of-m.ensures in
    laid_line_lem c.args.number c.args.word c.if-room-lt44.false c.if-number-gt63.false (same_text same c.put_pieces.ensures)
