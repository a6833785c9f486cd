-- `line_len` adds up the pieces of the line, which has at most 44 bytes.
use mathlib.Core.Path.{◌≡◌, ap, ◌∙◌}
use native.Mathlib.Omega.{arith}
use borrow.Author.Tests.{le-ltb}
use lib.ListN.{length}
use Rattle.microtext.specs.Listing.{line}
use Rattle.microword.proofs.Laws.{fields_within}
use Rattle.microword.specs.Code.Within.{Within}
use Rattle.microline.specs.Line.{line_length}
use Rattle.microline.specs.Code.Pieces.{spelt}
use Rattle.microline.proofs.Laws.{line_le}
use Rattle.microline.proofs.line_len.Goals as goal
use Rattle.microline.proofs.line_len.Goals.{After-pieces}

pub digits-end-requires : goal.digits-end-requires
digits-end-requires c =
    let fields : Within c.fields_of-m.result = rw c.fields_of-m.ensures (fields_within _) in
    omega (arith, fields.end)

line_spelt : (c : After-pieces) → spelt c.pieces.result ≡ line c.args.number c.fields_of-m.result
unfolding line
line_spelt c = c.pieces.ensures ∙ rw (c.short.ensures, c.digits-own.ensures)

pub pieces_len-requires : goal.pieces_len-requires
pieces_len-requires c =
    omega (arith, ap length (line_spelt (goal.at.pieces_len-requires c).After-pieces), line_le c.args.number c.fields_of-m.result)

pub returns : goal.returns
unfolding line_length
returns c =
    let same = line_spelt (goal.at.returns c).After-pieces ∙ ap (line c.args.number) c.fields_of-m.ensures in
    rw (le-ltb _ _ c.if-number-gt63.false) (c.pieces_len.ensures ∙ ap length same)
