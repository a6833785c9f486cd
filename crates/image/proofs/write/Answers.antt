-- `write`: what was put of the words below the ports is the image, which the room asked for holds.
use Rattle.image.proofs.Putting.{whole_put}
use Rattle.image.proofs.write.Goals as goal

pub returns : goal.returns
returns c = whole_put _ _ _ _ _ c.if-memory-ne-WORDS.false c.if-room-lt-LONGEST.false c.from.ensures c.put_all.ensures
