-- The answer numbers of the run program's refusals (01, Answer numbers; Micro text and images, the last paragraph but one).
use Rattle.std.specs.Prelude.{ℕ}
use Rattle.image.specs.Refusals.{number as image_number}
use Rattle.run.specs.declared.Refusal.{Refusal}
use Rattle.run.specs.declared.Refusal.TheVariants.{TooLong, Image}

-- The number of each case; an image's is its own.
abbrev pub number : Refusal → ℕ
number TooLong = 25
number (Image refused) = image_number refused
