-- What the image reader and the image writer answer and leave (01, Answer numbers; Micro text and images).
use Rattle.std.specs.Prelude.{ℕ, ◌%◌, cond, List, ◌++◌, length, take, drop, replicate, ltb, eqb}
use Rattle.image.specs.Records.{records, bytes, first_fault, laid, records_from}

-- The answer to an image: 20, then records in turn.
unfoldable pub examined : List ℕ → ℕ
examined image = cond (eqb (length image % 4) 0) (first_fault 0 (records image)) 20

-- Reading sets all 4,096 words, 0 where no record is.
unfoldable pub memory_of : List ℕ → List ℕ
memory_of image = laid (records image) (replicate 4096 0)

-- What the reader leaves.
pub record Reading : Type 0 where
  pub answer : ℕ
  pub memory : List ℕ

-- With any answer but 0, memory is as found.
unfoldable pub left : ℕ → List ℕ → List ℕ → Reading
left answer image memory = record { answer = answer; memory = cond (eqb answer 0) (memory_of image) memory }

-- Image reader: 1, then the image's own answer.
unfoldable pub reading : List ℕ → List ℕ → Reading
reading image memory = left (cond (eqb (length memory) 4096) (examined image) 1) image memory

-- The image of a memory: of words 0 to 4,091 only those not 0.
unfoldable pub image_of : List ℕ → List ℕ
image_of memory = bytes (records_from 0 (take 4092 memory))

-- What the writer leaves.
pub record Writing : Type 0 where
  pub answer : ℕ
  pub length : ℕ
  pub room : List ℕ

-- The image at the room's front; the room past it stays as found.
unfoldable pub filled : List ℕ → List ℕ → Writing
filled image room = record { answer = 0; length = length image; room = image ++ drop (length image) room }

-- Image writer: 1, 24; the room is as found on each.
unfoldable pub writing : List ℕ → List ℕ → Writing
writing memory room =
    cond (eqb (length memory) 4096)
    (cond (ltb (length room) 16368) (record { answer = 24; length = 0; room = room }) (filled (image_of memory) room))
    (record { answer = 1; length = 0; room = room })
