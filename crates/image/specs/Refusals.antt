-- The answer numbers of the image reader's and writer's refusals (01, Answer numbers).
use Rattle.std.specs.Prelude.{ℕ}
use Rattle.image.specs.declared.Refusal.{Refusal}
use Rattle.image.specs.declared.Refusal.TheVariants.{WrongSize, ImageLength, AddressTooHigh, AddressNotAbove, ValueZero, RoomTooSmall}

-- The number of each case.
abbrev pub number : Refusal → ℕ
number WrongSize = 1
number ImageLength = 20
number AddressTooHigh = 21
number AddressNotAbove = 22
number ValueZero = 23
number RoomTooSmall = 24
