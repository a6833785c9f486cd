-- The memory transfer, which takes two cycles (01, One cycle).
use Rattle.std.specs.Prelude.{ℕ, Bool, Result, cond, List, [], ◌∷◌, length, ltb}
use Rattle.bus.specs.declared.Fetched.{Fetched}
use Rattle.bus.specs.declared.Stop.{Stop}
use Rattle.bus.specs.Stops.{goes_on, stopped}
use Rattle.bus.specs.Code.Gives.{gives}
use Rattle.bus.specs.Log.{Sent}
use Rattle.bus.specs.Ports.{Left, read_at, write_at}
use Rattle.datapath.specs.declared.Half.{Half}
use Rattle.datapath.specs.declared.Half.TheVariants.{Nothing, Read, Write}
use Rattle.datapath.specs.declared.Moving.{Moving}

-- What a transfer finds: REM and RDM as they stand after this cycle's store, the input place, the log count, memory and log.
pub record Found : Type 0 where
  pub rem : ℕ
  pub rdm : ℕ
  pub place : ℕ
  pub count : ℕ
  pub memory : List ℕ
  pub log : List ℕ

-- What a transfer leaves, and what stops the machine before it.
pub record Transfer : Type 0 where
  pub rdm : ℕ
  pub half : Half
  pub place : ℕ
  pub count : ℕ
  pub memory : List ℕ
  pub log : List ℕ
  pub stop : ℕ

-- A transfer as the code hands it back, with the lent memory and log; refused it leaves nothing half done.
abbrev pub moved : Moving → Result Moving Stop → List ℕ → List ℕ → Transfer
moved before result memory log =
    let m : Moving = gives (record before { half = Nothing }) result in
    record { rdm = m.rdm; half = m.half; place = m.place; count = m.count; memory = memory; log = log; stop = stopped result }

-- Nothing is completed, and this is left half done.
unfoldable pub waits : Half → Found → Transfer
waits half at =
    record { rdm = at.rdm; half = half; place = at.place; count = at.count; memory = at.memory; log = at.log; stop = goes_on }

-- A completed read puts its word in RDM, over anything the cycle stored there; nothing is half done.
unfoldable pub completed_read : List ℕ → Found → Transfer
completed_read input at =
    let got : Fetched = read_at at.memory input at.place (ltb at.count (length at.log)) at.rem in
    record { rdm = got.word; half = Nothing; place = got.place; count = at.count; memory = at.memory; log = at.log; stop = goes_on }

-- A completed write sends RDM to the address REM; nothing is half done.
unfoldable pub completed_write : Found → Transfer
completed_write at =
    let done : Left = write_at at.memory at.log at.count at.rem at.rdm in
    record { rdm = at.rdm; half = Nothing; place = at.place; count = done.count; memory = done.memory; log = done.log; stop = done.stop }

-- A cycle with RD after one that left a read half done completes the read; any other cycle with RD leaves a read half done.
unfoldable pub read_cycle : List ℕ → Half → Found → Transfer
read_cycle input Read at = completed_read input at
read_cycle input Nothing at = waits Read at
read_cycle input Write at = waits Read at

-- WR likewise for writes.
unfoldable pub write_cycle : Half → Found → Transfer
write_cycle Write at = completed_write at
write_cycle Nothing at = waits Write at
write_cycle Read at = waits Write at

-- A cycle with neither leaves nothing half done.
unfoldable pub transferred : Bool → Bool → List ℕ → Half → Found → Transfer
transferred rd wr input half at = cond rd (read_cycle input half at) (cond wr (write_cycle half at) (waits Nothing at))

-- The write that a cycle completes, if any.
unfoldable pub completes : Half → Found → List Sent
completes Write at = record { address = at.rem; word = at.rdm } ∷ []
completes Nothing at = []
completes Read at = []

unfoldable pub sends : Bool → Bool → Half → Found → List Sent
sends rd wr half at = cond rd [] (cond wr (completes half at) [])

-- Memory and log as a transfer finds and leaves them.
abbrev pub found_in : Found → Left
found_in at = record { memory = at.memory; log = at.log; count = at.count; stop = goes_on }

abbrev pub left_in : Transfer → Left
left_in t = record { memory = t.memory; log = t.log; count = t.count; stop = t.stop }
