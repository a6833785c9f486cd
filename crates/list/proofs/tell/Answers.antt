-- `tell`: the answer line ends within the room.
use Rattle.std.proofs.Common.{◌≤◌, length, arith}
use Rattle.console.proofs.Laws.{front}
use Rattle.list.proofs.tell.Goals as goal

pub shared_ref_as_front-result-in-Err : goal.shared_ref_as_front-result-in-Err
shared_ref_as_front-result-in-Err c =
    let wide : 512 ≤ length c.args.room.now = omega (arith, c.fits-room, c.told-room) in
    omega (arith, (front _ _ _ _ wide c.refusal-length.ensures).counted.0, c.refusal-length.auto.room, c.fits-room, c.told-room)
