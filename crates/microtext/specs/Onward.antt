-- What a result leads to: a value to what comes of it, a refusal to itself.
use Rattle.std.specs.Prelude.{Result, Ok, Err}

unfoldable pub onward : {A B E : Type 0} → Result A E → (A → Result B E) → Result B E
onward (Ok value) next = next value
onward (Err refusal) next = Err refusal
