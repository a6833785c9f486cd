-- Laws of the datapath: no second answer; what a transfer does to memory and log is the write that it completes, and no more.
use Prim.Native.Nat.{ℕ, ◌-◌, ◌≤◌}
use mathlib.Core.Path.{◌≡◌, refl, sym, ◌∙◌, ap}
use mathlib.Core.Bool.{Bool, true, false, cond, true≢false}
use mathlib.Core.List.{List}
use Rattle.std.specs.Prelude.{Result}
use native.Mathlib.Omega.{arith}
use lib.ListN.{length}
use lib.Dec.{eqb}
use Rattle.bus.specs.Log.{after, to_log}
use Rattle.bus.specs.declared.Stop.{Stop}
use Rattle.bus.proofs.Laws.{stop_of, result_only, Kind, leaves, has_room, write_kind}
use Rattle.datapath.specs.Result.{jumps}
use Rattle.datapath.specs.Transfer.{Found, Transfer, moved, waits, completed_read, completed_write, read_cycle, write_cycle, transferred, completes, sends, found_in, left_in}
use Rattle.datapath.specs.declared.Half.{Half}
use Rattle.datapath.specs.declared.Half.TheVariants.{Nothing, Read, Write}
use Rattle.datapath.specs.declared.Moving.{Moving}

moving_only : {rdm rdm' place place' count count' : ℕ} {half half' : Half} → rdm ≡ rdm' → half ≡ half' → place ≡ place' → count ≡ count'
    → ◌≡◌ {A = Moving} (record { rdm = rdm; half = half; place = place; count = count }) (record { rdm = rdm'; half = half'; place = place'; count = count' })
moving_only p q r t = rw (p, q, r, t)

-- No second answer: a transfer's promise fixes the answer and both lent lists.
pub transfer_only : {d : Transfer} (before : Moving) (r r' : Result Moving Stop) {memory memory' log log' : List ℕ} → d ≡ moved before r memory log → d ≡ moved before r' memory' log'
    → (r ≡ r') × (memory ≡ memory') × (log ≡ log')
transfer_only before r r' p q =
    let e = sym p ∙ q in (
      result_only (record before { half = Nothing }) r r'
          (moving_only (ap (λ (t : Transfer). t.rdm) e) (ap (λ (t : Transfer). t.half) e) (ap (λ (t : Transfer). t.place) e) (ap (λ (t : Transfer). t.count) e))
          (ap (λ (t : Transfer). t.stop) e),
      ap (λ (t : Transfer). t.memory) e,
      ap (λ (t : Transfer). t.log) e,
    )

-- A read leaves memory and log.
read_leaves : (input : List ℕ) (half : Half) (at : Found) → left_in (read_cycle input half at) ≡ found_in at
unfolding read_cycle completed_read waits
read_leaves input Nothing at = refl
read_leaves input Read at = refl
read_leaves input Write at = refl

write_leaves : (half : Half) (at : Found) → left_in (write_cycle half at) ≡ after (completes half at) (found_in at)
unfolding write_cycle completed_write waits completes after
write_leaves Nothing at = refl
write_leaves Read at = refl
write_leaves Write at = refl

-- Only a completed write changes memory or log.
pub transfer_leaves : (rd wr : Bool) (input : List ℕ) (half : Half) (at : Found)
    → left_in (transferred rd wr input half at) ≡ after (sends rd wr half at) (found_in at)
unfolding transferred sends waits after
transfer_leaves true wr input half at = read_leaves input half at
transfer_leaves false true input half at = write_leaves half at
transfer_leaves false false input half at = refl

-- A jump goes by the one test that SQ asks for.
pub jumps_by : (sq : ℕ) (n z : Bool) → jumps sq n z ≡ jumps sq (cond (eqb sq 1) n z) (cond (eqb sq 1) n z)
unfolding jumps
jumps_by sq n z = by (eqb sq 0) (eqb sq 1) (eqb sq 2)
  where
    by : (none one two : Bool)
        → cond none false (cond one n (cond two z true)) ≡ cond none false (cond one (cond one n z) (cond two (cond one n z) true))
    by true one two = refl
    by false true two = refl
    by false false two = refl

-- A refused transfer leaves memory, log and count as it found them.
pub transfer_refused : (rd wr : Bool) (input : List ℕ) (half : Half) (at : Found) → eqb (transferred rd wr input half at).stop 0 ≡ false
    → left_in (transferred rd wr input half at) ≡ record { memory = at.memory; log = at.log; count = at.count; stop = (transferred rd wr input half at).stop }
unfolding transferred waits read_cycle write_cycle completed_read completed_write
transfer_refused true wr input Nothing at f = absurd (true≢false f)
transfer_refused true wr input Read at f = absurd (true≢false f)
transfer_refused true wr input Write at f = absurd (true≢false f)
transfer_refused false true input Nothing at f = absurd (true≢false f)
transfer_refused false true input Read at f = absurd (true≢false f)
transfer_refused false true input Write at f = (leaves at.memory at.log at.count at.rem at.rdm).refused f
transfer_refused false false input half at f = absurd (true≢false f)

-- Without RD a transfer leaves RDM.
pub rdm_stays : (wr : Bool) (input : List ℕ) (half : Half) (at : Found) → (transferred false wr input half at).rdm ≡ at.rdm
unfolding transferred waits write_cycle completed_write
rdm_stays true input Nothing at = refl
rdm_stays true input Read at = refl
rdm_stays true input Write at = refl
rdm_stays false input half at = refl

-- A transfer that is not refused has room for the word that it sends to the log.
pub sends_fit : (rd wr : Bool) (input : List ℕ) (half : Half) (at : Found) → (transferred rd wr input half at).stop ≡ 0
    → length (to_log (sends rd wr half at)) ≤ length at.log - at.count
unfolding transferred sends completes write_cycle completed_write to_log
sends_fit true wr input half at f = omega arith
sends_fit false true input Nothing at f = omega arith
sends_fit false true input Read at f = omega arith
sends_fit false true input Write at f = has_room at.memory at.log at.count at.rem at.rdm f
sends_fit false false input half at f = omega arith

-- What stops a transfer is one of the kinds.
pub transfer_kind : (rd wr : Bool) (input : List ℕ) (half : Half) (at : Found) → Kind (transferred rd wr input half at).stop
unfolding transferred waits read_cycle write_cycle completed_read completed_write stop_of
transfer_kind true wr input Nothing at = refl
transfer_kind true wr input Read at = refl
transfer_kind true wr input Write at = refl
transfer_kind false true input Nothing at = refl
transfer_kind false true input Read at = refl
transfer_kind false true input Write at = write_kind at.memory at.log at.count at.rem at.rdm
transfer_kind false false input half at = refl
