-- The laws of images: the longest one, both ways round, and that no second answer satisfies a promise.
use Prim.Native.Nat.{ℕ, ◌%◌, ◌≤◌, ◌<◌}
use mathlib.Core.Path.{◌≡◌, refl, sym, ◌∙◌, ap}
use Rattle.std.proofs.Common.{Result}
use mathlib.Core.List.{List, [], ◌++◌}
use native.Mathlib.Omega.{arith}
use lib.ListN.{length, get_or, take, drop, replicate, length-append, length-take, replicate-append-replicate}
use lib.Seq.{length-take-le, take-append_seam, take_at}
use lib.Dec.{eqb}
use borrow.Author.Tests.{eq-eqb, le-ltb}
use Rattle.std.specs.Result.{result_unwrap_or}
use Rattle.word.specs.Answer.{answered}
use Rattle.image.specs.Refusals.{number}
use Rattle.image.specs.Records.{records, laid, records_from}
use Rattle.image.specs.Image.{examined, memory_of, Reading, left, reading, image_of, Writing, filled, writing}
use Rattle.image.specs.declared.Refusal.{Refusal}
use Rattle.image.proofs.Refusals.{one_end}
use Rattle.image.proofs.Records.{Accepted, accepted, chosen, bytes_length, few_records}
use Rattle.image.proofs.RoundTrip.{bytes_records, records_bytes, take_below, words_faultless, laid_words, Spread, spread}

-- The image of any memory has at most 16,368 bytes.
pub image_fits : (memory : List ℕ) → length (image_of memory) ≤ 16368
unfolding image_of
image_fits memory =
    let words = take 4092 memory in
    omega (arith, bytes_length (records_from 0 words), few_records 0 words, length-take 4092 memory)

image_whole : (memory : List ℕ) → length (image_of memory) % 4 ≡ 0
unfolding image_of
image_whole memory = omega (arith, bytes_length (records_from 0 (take 4092 memory)))

-- Laid over zeros, the records of 4,092 words give those words, and 0 under the ports.
laid_all : (words : List ℕ) → length words ≡ 4092 → laid (records_from 0 words) (replicate 4096 0) ≡ words ++ replicate 4 0
laid_all words count =
    let zeros : ◌≡◌ {A = List ℕ} (replicate (length words) 0 ++ replicate 4 0) (replicate 4096 0) = rw count (replicate-append-replicate 4092 4 0) in
    rw (← zeros) (laid_words 0 [] words (replicate 4 0) refl)

-- Where both sizes are right, the writer puts the image.
puts : (memory room : List ℕ) → length memory ≡ 4096 → 16368 ≤ length room → writing memory room ≡ filled (image_of memory) room
unfolding writing
puts memory room words enough = rw (eq-eqb _ _ words, le-ltb _ _ enough)

-- The image of a memory is accepted, and gives words 0 to 4,091 back.
module _ (memory : List ℕ) (words : length memory ≡ 4096) (small : (i : ℕ) → get_or memory i 0 < 65536) where
  count : length (take 4092 memory) ≡ 4092
  count = length-take-le 4092 memory (omega arith)

  found : records (image_of memory) ≡ records_from 0 (take 4092 memory)
  unfolding image_of
  found = records_bytes 0 (take 4092 memory) (omega (arith, count)) (take_below 65536 (omega arith) 4092 memory small)

  image_examined : examined (image_of memory) ≡ 0
  unfolding examined
  image_examined = rw (eq-eqb _ _ (image_whole memory), found) (words_faultless 0 0 (take 4092 memory) (omega arith) (omega (arith, count)))

  image_read : (other : List ℕ) → length other ≡ 4096
      → reading (image_of memory) other ≡ record { answer = 0; memory = take 4092 memory ++ replicate 4 0 }
  unfolding reading left memory_of
  image_read other size = rw (eq-eqb _ _ size, image_examined, found, laid_all (take 4092 memory) count)

  -- Reading what the writer wrote gives back words 0 to 4,091.
  pub read_written : (room other : List ℕ) → 16368 ≤ length room → length other ≡ 4096
      → reading (take (writing memory room).length (writing memory room).room) other ≡ record { answer = 0; memory = take 4092 memory ++ replicate 4 0 }
  unfolding filled
  read_written room other enough size =
      rw (puts memory room words enough, take-append_seam (image_of memory) (drop (length (image_of memory)) room)) (image_read other size)

-- Writing what was read gives back the same bytes.
module _ (image memory : List ℕ) (read : (reading image memory).answer ≡ 0) where
  image_accepted : Accepted image
  unfolding reading left
  image_accepted = accepted image (chosen (eqb (length memory) 4096) 0 (examined image) read).1

  image_spread : Spread 0 4092 (records image)
  image_spread = spread 4092 0 (records image) (omega arith) image_accepted.faultless

  memory_read : (reading image memory).memory ≡ image_spread.words ++ replicate 4 0
  unfolding reading left memory_of
  memory_read = rw (read, ← image_spread.same) (laid_all image_spread.words image_spread.counted)

  memory_size : length (reading image memory).memory ≡ 4096
  memory_size = rw (memory_read, length-append) (omega (arith, image_spread.counted))

  image_back : ((i : ℕ) → get_or image i 0 < 256) → image_of (reading image memory).memory ≡ image
  unfolding image_of
  image_back small =
      rw (memory_read, take_at image_spread.words (replicate 4 0) 4092 image_spread.counted, image_spread.same)
      (bytes_records image image_accepted.whole small)

  pub written_read : ((i : ℕ) → get_or image i 0 < 256) → (room : List ℕ) → 16368 ≤ length room
      → writing (reading image memory).memory room ≡ record { answer = 0; length = length image; room = image ++ drop (length image) room }
  unfolding filled
  written_read small room enough = puts _ room memory_size enough ∙ ap (λ (bs : List ℕ). filled bs room) (image_back small)

-- No second answer satisfies the reader's promise, or the writer's.
pub reader_decided : (image memory left left' : List ℕ) (r r' : Result Unit Refusal)
    → reading image memory ≡ record { answer = answered number r; memory = left }
    → reading image memory ≡ record { answer = answered number r'; memory = left' }
    → (r ≡ r') × (left ≡ left')
reader_decided image memory left left' r r' p q =
    let same = sym p ∙ q in
    (one_end tt r r' (ap (λ (x : Reading). x.answer) same) refl, ap (λ (x : Reading). x.memory) same)

pub writer_decided : (memory room left left' : List ℕ) (r r' : Result ℕ Refusal)
    → writing memory room ≡ record { answer = answered number r; length = result_unwrap_or r 0; room = left }
    → writing memory room ≡ record { answer = answered number r'; length = result_unwrap_or r' 0; room = left' }
    → (r ≡ r') × (left ≡ left')
writer_decided memory room left left' r r' p q =
    let same = sym p ∙ q in
    (one_end 0 r r' (ap (λ (x : Writing). x.answer) same) (ap (λ (x : Writing). x.length) same), ap (λ (x : Writing). x.room) same)
