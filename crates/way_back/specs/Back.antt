-- Assembling a listing gives the normal forms (01, Micro text and images), over what the lister and the microassembler promise.
use Rattle.std.specs.Prelude.{ℕ, ◌≡◌, List, map, length, take}
use Rattle.microword.specs.Microword.{normal_form}
use Rattle.lister.specs.Answers.{listed}
use Rattle.microassembler.specs.Assembled.{assembled}

-- A store that the lister lists: its text is what stands at the room's start.
abbrev pub text : List ℕ → List ℕ → List ℕ
text store room = take (listed store room).length (listed store room).room

-- Assembled into any store of 64 words, the text is accepted and gives the normal forms; and these, listed again, give the same text.
pub record Back (store room : List ℕ) : Type 0 where
  pub normal : (other : List ℕ) → length other ≡ 64 → assembled (text store room) other ≡ record { answer = 0; store = map normal_form store }
  pub again : text (map normal_form store) room ≡ text store room
