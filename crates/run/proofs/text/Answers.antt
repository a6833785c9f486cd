-- `text`: what is refused is told in the room, and ends within it.
use Rattle.std.proofs.Common.{ℕ, sym, ap, ◌∙◌, None, ◌≤◌, length, arith}
use Rattle.console.specs.Text.{refusal}
use Rattle.console.proofs.Laws.{front}
use Rattle.run.proofs.Laws.{refused_text}
use Rattle.run.proofs.text.Goals as goal

pub shared_ref_as_front-result : goal.shared_ref_as_front-result
shared_ref_as_front-result c =
    let wide : 512 ≤ length c.args.room.now = omega (arith, c.fits-room, c.told-room) in
    omega (arith, (front _ _ _ _ wide c.refusal-length.ensures).counted.0, c.refusal-length.auto.room, c.fits-room, c.told-room)

pub returns-in-Err : goal.returns-in-Err
returns-in-Err c =
    let wide : 512 ≤ length c.args.room.now = omega (arith, c.fits-room, c.told-room) in
    (front _ _ _ _ wide c.refusal-length.ensures).stands ∙ ap (λ (n : ℕ). refusal n None) c.from.ensures ∙ sym (refused_text _ _ c.in-Err.refusal c.in-Err.ensures)
