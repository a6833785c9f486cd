-- Mirrors the code: what a call gives where it is done; refused it gives nothing, and this stands as it was before.
use Rattle.std.specs.Prelude.{Result, Ok, Err}

abbrev pub gives : {A E : Type 0} → A → Result A E → A
gives before (Ok now) = now
gives before (Err refusal) = before
