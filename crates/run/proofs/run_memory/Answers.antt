-- `run_memory`: the report ends within the room.
use Rattle.std.proofs.Common.{◌≤◌, length, arith}
use Rattle.console.proofs.Laws.{front}
use Rattle.run.proofs.run_memory.Goals as goal

pub shared_ref_as_front-result : goal.shared_ref_as_front-result
shared_ref_as_front-result c =
    let wide : 512 ≤ length c.args.room.now = omega (arith, c.fits-room, c.told-room) in
    omega (arith, (front _ _ _ _ wide c.report-length.ensures).counted.0, c.report-length.auto.room, c.fits-room, c.told-room)
