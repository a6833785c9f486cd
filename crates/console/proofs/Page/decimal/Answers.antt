-- `decimal` puts the digits that `io::decimal` spells, which are the number's decimal.
use Rattle.std.proofs.Common.{◌∙◌, length-take, arith}
use Rattle.console.proofs.Laws.{fewest}
use Rattle.console.proofs.Pages.{renamed}
use Rattle.console.proofs.Page.decimal.Goals as goal

pub returns : goal.returns
returns c =
    let d = c.decimal-k in
    renamed (d.ensures.digits ∙ fewest d.result c.args.n c.ranges.n.fits d.ensures.len) (omega (arith, length-take d.result d.new.out, d.array_long)) c.bytes.ensures
