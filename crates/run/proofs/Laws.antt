-- Laws of the run program: what is printed of an input that was refused, and of one that was read.
use Rattle.std.proofs.Common.{◌≡◌, ℕ, false, eqb, List, replicate, None, refl}
use Rattle.image.proofs.Refusals.{no_zero as image_no_zero}
use Rattle.console.specs.Text.{refusal}
use Rattle.run.specs.declared.Refusal.{Refusal}
use Rattle.run.specs.declared.Refusal.TheVariants.{TooLong, Image}
use Rattle.run.specs.Refusals.{number}
use Rattle.run.specs.Report.{admitted, ran, told, printed}

no_zero : (r : Refusal) → eqb (number r) 0 ≡ false
no_zero TooLong = refl
no_zero (Image refused) = image_no_zero refused

pub refused_text : (input memory : List ℕ) (r : Refusal) → admitted input (replicate 4096 0) ≡ record { answer = number r; memory = memory }
    → printed input ≡ refusal (number r) None
unfolding printed told
refused_text input memory r read = rw (read, no_zero r)

pub read_text : (input memory : List ℕ) → admitted input (replicate 4096 0) ≡ record { answer = 0; memory = memory } → printed input ≡ ran memory
unfolding printed told
read_text input memory read = rw read
