-- `refusal` puts the answer, the line where there is one, then byte 10; a room under 512 bytes is left as found.
use Rattle.std.proofs.Common.{refl, rules, arith}
use Rattle.console.specs.Text.{refusal}
use Rattle.console.proofs.Pages.{◌and◌, shown_put}
use Rattle.console.proofs.refusal.Goals as goal
use Rattle.console.proofs.refusal.Goals.{in-Some, in_default}

pub returns : goal.returns
unfolding refusal
returns c =
    let answer = c.labelled.ensures in
    let wide = c.if-room-lt-ROOM.false in
    elim c.match-line.branch [
      | in-Some w ↦
          let put = answer and w.labelled-in-Some.ensures and rw w.page-is at c.bytes.ensures in
          rw w.in-Some.is (shown_put put refl (search rules) wide (omega arith))
      | in_default w ↦
          let put = answer and rw w.page-is at c.bytes.ensures in
          rw w.in_default.is (shown_put put refl (search rules) wide (omega arith))
    ]
