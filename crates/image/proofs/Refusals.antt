-- An answer's number has one case: no two refusals share one, and none has 0.
use Rattle.std.proofs.Common.{◌≡◌, ℕ, cond, eqb, false, Result, Ok, Err, refl, sym, ap₂, ◌∙◌}
use Rattle.std.specs.Result.{result_unwrap_or}
use Rattle.word.specs.Answer.{answered}
use Rattle.image.specs.Refusals.{number}
use Rattle.image.specs.declared.Refusal.{Refusal}
use Rattle.image.specs.declared.Refusal.TheVariants.{WrongSize, ImageLength, AddressTooHigh, AddressNotAbove, ValueZero, RoomTooSmall}

-- The case of a number, where what is given at 0 is known.
abbrev meaning : {A : Type 0} → A → ℕ → Result A Refusal
meaning done n =
    cond (eqb n 0) (Ok done)
    (Err
    (cond (eqb n 1) WrongSize
    (cond (eqb n 20) ImageLength (cond (eqb n 21) AddressTooHigh (cond (eqb n 22) AddressNotAbove (cond (eqb n 23) ValueZero RoomTooSmall))))))

meant : {A : Type 0} (d : A) (r : Result A Refusal) → meaning (result_unwrap_or r d) (answered number r) ≡ r
meant d (Ok done) = refl
meant d (Err WrongSize) = refl
meant d (Err ImageLength) = refl
meant d (Err AddressTooHigh) = refl
meant d (Err AddressNotAbove) = refl
meant d (Err ValueZero) = refl
meant d (Err RoomTooSmall) = refl

pub one_end : {A : Type 0} (d : A) (r r' : Result A Refusal) → answered number r ≡ answered number r' → result_unwrap_or r d ≡ result_unwrap_or r' d → r ≡ r'
one_end d r r' answer given = sym (meant d r) ∙ ap₂ meaning given answer ∙ meant d r'

pub no_zero : (r : Refusal) → eqb (number r) 0 ≡ false
no_zero WrongSize = refl
no_zero ImageLength = refl
no_zero AddressTooHigh = refl
no_zero AddressNotAbove = refl
no_zero ValueZero = refl
no_zero RoomTooSmall = refl
