-- `next_token` takes the bytes of the token that begins behind the spaces; behind them the same is scanned.
use mathlib.Core.Path.{◌∙◌}
use native.Mathlib.Omega.{arith}
use Rattle.token.proofs.Scan.{nothing_here, len_within, scanned_here, starts_here}
use Rattle.token.proofs.next_token.Goals as goal

pub returns-in_default : goal.returns-in_default
returns-in_default c = nothing_here c.args.text.now c.start-i.result (grind (arith, c.in_default.ensures.lookup)) ∙ c.start-i.ensures.same

pub overflow_add-result : goal.overflow_add-result
overflow_add-result c =
    let within = len_within c.in-Some.rest.now in
    grind (arith, c.first_token-token.ensures.0, within, c.in-Some.ensures.lookup)

pub returns : goal.returns
returns c =
    scanned_here c.args.text.now c.in-Some.rest.now c.start-i.result _ _
    (starts_here c.args.text.now c.start-i.result c.start-i.ensures.no_space)
    c.in-Some.ensures.lookup.0.2 c.first_token-token.ensures.0 c.first_token-token.ensures.1
    ∙ c.start-i.ensures.same
