-- `facetgrove_press`: the panel's promise, by the law that a press, counted, is a run of 1.
use Rattle.facetgrove.proofs.Laws.{pressed}
use Rattle.facetgrove.specs.Runs.{engine_called}
use Rattle.facetgrove.proofs.facetgrove_press.Goals as goal

pub returns : goal.returns
unfolding engine_called
returns c =
    let left = c.pressed_through-pressed.new in
    let ran = pressed _ _ left.memory left.log c.machine_of-machine.result _ c.pressed_through-pressed.result c.pressed_through-pressed.ensures in
    let handed = c.hand_back_engine.ensures c.machine_of-machine.result left.memory left.log in
    rw (← c.machine_of-machine.ensures, ran, ← c.counted-ran.ensures) handed
