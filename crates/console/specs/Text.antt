-- What the two programs print (01, Micro text and images, the last two paragraphs): numbers, signed words, answer lines, the report of a run.
use Rattle.std.specs.Prelude.{ℕ, ◌-◌, cond, List, [], ◌∷◌, ◌++◌, ltb, take, Option, Some, None}
use Prim.Native.String.{String}
use Rattle.text.specs.Text.{bytes}
use Rattle.text.specs.Decimal.{decimal}
use Rattle.console.specs.declared.Run.{Run}

-- A word signed from -32768 to 32767.
unfoldable pub signed : ℕ → List ℕ
signed word = cond (ltb word 32768) (decimal word) (bytes "-" ++ decimal (65536 - word))

-- A field: its label and its number.
abbrev pub labelled : String → ℕ → List ℕ
labelled label n = bytes label ++ decimal n

-- `answer` and the number, and where the answer names a line, `line` with it.
unfoldable pub refusal : ℕ → Option ℕ → List ℕ
refusal answer None = labelled "answer " answer ++ 10 ∷ []
refusal answer (Some line) = labelled "answer " answer ++ labelled " line " line ++ 10 ∷ []

-- Fields: answer number, instructions done, table cycles, registers, log count.
unfoldable pub counts : Run → List ℕ
counts r = labelled "answer " r.answer ++ labelled " done " r.done ++ labelled " cycles " r.cycles

unfoldable pub registers : Run → List ℕ
registers r = labelled " cp " r.cp.0 ++ labelled " pp " r.pp.0 ++ bytes " ac " ++ signed r.ac

unfoldable pub line : Run → List ℕ
line r = counts r ++ registers r ++ labelled " log " r.count ++ 10 ∷ []

-- Each word on a line.
unfoldable pub lines : List ℕ → List ℕ
lines [] = []
lines (word ∷ words) = signed word ++ 10 ∷ lines words

-- One line, then each log word on a line: of the log's room as many words as its count says.
unfoldable pub report : Run → List ℕ → List ℕ
report r log = line r ++ lines (take r.count log)
