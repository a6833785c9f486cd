-- Laws of an image put into a room: the bytes of the words from an address on, and the room that the whole image leaves.
use Prim.Native.Nat.{ℕ, ◌+◌, ◌-◌, ◌≤◌, ◌<◌}
use mathlib.Core.Path.{◌≡◌, refl, sym}
use mathlib.Core.List.{List, [], ◌∷◌, ◌++◌}
use native.Mathlib.Nat.{zero-add}
use native.Mathlib.Numerals.{add-one}
use native.Mathlib.Omega.{arith}
use lib.ListN.{length, get_or, take, drop, drop_of_length-le}
use lib.Seq.{drop-cons, sets, sets-eq, take_all}
use borrow.Rule.Slice.PartMut.{put_mid}
use Rattle.std.proofs.lemmas.Slice.{put_mid-paste}
use borrow.Author.Tests.{eq-eqb, ne_eqb, le-ltb}
use mathlib.Core.Path.{ap, ◌∙◌}
use Rattle.text.specs.Laid.{Wrote}
use Rattle.text.proofs.Laid.{all_of}
use Rattle.image.specs.Records.{bytes, record_of, records_from}
use Rattle.image.specs.Image.{image_of, filled, writing}
use Rattle.image.proofs.Records.{bytes_append}
use Rattle.image.proofs.Laws.{image_fits}

-- The bytes of the words from an address on.
abbrev pub after : List ℕ → ℕ → List ℕ
after words address = bytes (records_from address (drop address words))

pub after_first : (words : List ℕ) (address : ℕ) → address < length words
    → after words address ≡ bytes (record_of address (get_or words address 0)) ++ after words (address + 1)
unfolding records_from
after_first words address inside = rw (add-one, drop-cons words address 0 inside) (bytes_append (record_of address (get_or words address 0)) _)

pub after_last : (words : List ℕ) (address : ℕ) → length words ≤ address → after words address ≡ []
unfolding records_from bytes
after_last words address past = rw (drop_of_length-le words past)

-- Laid from the front on, an image leaves the room past it as found.
filled_room : (memory : List ℕ) {room left : List ℕ} {next : ℕ} → 16368 ≤ length room → Wrote room 0 (image_of memory) left next
    → filled (image_of memory) room ≡ record { answer = 0; length = next; room = left }
unfolding filled
filled_room memory enough w = rw (all_of w (omega (arith, image_fits memory)), w.behind, zero-add (length (image_of memory)))

-- So the writer promises where both sizes are right.
pub whole_put : (memory room left : List ℕ) (next count : ℕ) → length memory ≡ 4096 → 16368 ≤ length room → count ≡ 4092
    → Wrote room 0 (bytes (records_from 0 (take count memory))) left next → writing memory room ≡ record { answer = 0; length = next; room = left }
unfolding writing image_of
whole_put memory room left next count words enough all w = rw (eq-eqb _ _ words, le-ltb _ _ enough) (filled_room memory enough (rw all at w))

-- The four bytes of a word's record, written to a part of the room, are stored there.
pub record_put : (room four : List ℕ) (at address word : ℕ) → at + 4 ≤ length room → (word ≡ 0 → ⊥)
    → four ≡ bytes (record { address = record { 0 = address }; value = word } ∷ [])
    → Wrote room at (bytes (record_of address word)) (put_mid at (at + 4 - at) room four) (at + 4)
unfolding bytes
record_put room four at address word fits some e =
    let long : length four ≡ 4 = ap length e in
    let part = put_mid-paste at (at + 4 - at) room four four (length four) refl (omega arith) refl in
    record {
      stored = rw (ne_eqb word 0 some, part, take_all (length four) four (omega arith)) (sym (sets-eq four room at (omega arith)) ∙ ap (sets room at) e);
      behind = rw (ne_eqb word 0 some);
    }
