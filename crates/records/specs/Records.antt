-- "The sample table is a lent row of records, one to a sample": the paper's rows, as the code has them.
use Rattle.std.specs.Prelude.{ℕ, ◌+◌, List, [], ◌∷◌, map, ℤ, pos, length, get_or, replicate, Result, Ok, Err}
use Rattle.xm.specs.Got.{got, ◌>>◌, checked, present, ◌at◌, list_in}
use Rattle.xm.specs.Answer.{Answer, gives, refuses, answered, numbers, after}
use Rattle.xm.specs.Module.{read_file}
use Rattle.xm.specs.Table.{CheckReport, sample_rows, sample_stride, sample_tunes, room_with, checking_into}
use Rattle.xm.specs.Table as paper
use Rattle.xm.specs.Asking.{no_row}
use Rattle.refusal.specs.declared.Refusal.{Refusal}
use Rattle.rows.specs.Place.{code_row, code_row_numbers, tunes_of}
use Rattle.rows.specs.declared.sample.SampleRow.{SampleRow}

-- A record as the paper's row, and rows; `sample_row` goes the other way.
abbrev pub row_of : SampleRow → paper.SampleRow
row_of r = record {
  header_place = r.header_place;
  data_place = r.data_place;
  size = r.length;
  width = r.width;
  loop_kind = r.loop_kind;
  loop_start = r.loop_start;
  loop_length = r.loop_length;
  finetune = r.finetune;
  relative_note = r.relative_note;
}

abbrev pub rows_of : List SampleRow → List paper.SampleRow
rows_of = map row_of

abbrev pub records_of : List paper.SampleRow → List SampleRow
records_of = map code_row

abbrev pub no_record : SampleRow
no_record = code_row no_row

-- The records of a file's samples: of a refused file none.
abbrev pub records_in : (file : List ℕ) → List SampleRow
records_in file = records_of (list_in sample_rows (read_file file))

-- What the check answers where these records are lent, and what they hold afterwards: each row the record of that sample, "rows beyond
-- the count stay", and on a refusal every row.
abbrev pub checked_records : (file patterns instruments : List ℕ) (records : List SampleRow) → Answer CheckReport
checked_records file patterns instruments records = checking_into (room_with patterns instruments (rows_of records)) file

abbrev pub records_after : Answer CheckReport → (lent : List SampleRow) → List SampleRow
records_after = after (λ (c : CheckReport). records_of (sample_rows c.found))

-- A row asked for by number: "a number at or above the rows lent" is out of its range.
unfoldable pub row_asking : (rows number : ℕ) (row : paper.SampleRow) → Answer paper.SampleRow
row_asking rows number row = answered (λ row used. row) (do
  checked (present (number + 1) rows (16 at 0) ∷ [])
  got row 0)

abbrev pub row_asking_in : (rows : List paper.SampleRow) (number : ℕ) → Answer paper.SampleRow
row_asking_in rows number = row_asking (length rows) number (get_or rows number no_row)

-- What was given back, as a table of its own: of this one row, or of none.
abbrev pub rows_given : Result SampleRow Refusal → List paper.SampleRow
rows_given (Ok row) = row_of row ∷ []
rows_given (Err refusal) = []

-- The paper's numbers for each case: number and place of the refusal, header place, data place, length, width, loop kind, loop start, loop
-- length; and the two tunes.
abbrev pub row_asked_numbers : Result SampleRow Refusal → List ℕ
row_asked_numbers (Ok row) = 0 ∷ 0 ∷ code_row_numbers row
row_asked_numbers (Err refusal) = refusal.number ∷ refusal.place ∷ replicate sample_stride 0

abbrev pub row_asked_tunes : Result SampleRow Refusal → List ℤ
row_asked_tunes (Ok row) = tunes_of row
row_asked_tunes (Err refusal) = pos 0 ∷ pos 0 ∷ []

-- and the same of the definition's answer.
abbrev pub row_numbers : Answer paper.SampleRow → List ℕ
row_numbers = numbers (
    paper.SampleRow.header_place
    ∷ paper.SampleRow.data_place
    ∷ paper.SampleRow.size
    ∷ paper.SampleRow.width
    ∷ paper.SampleRow.loop_kind
    ∷ paper.SampleRow.loop_start
    ∷ paper.SampleRow.loop_length
    ∷ [])

abbrev pub row_tunes : Answer paper.SampleRow → List ℤ
row_tunes (gives row) = sample_tunes row
row_tunes (refuses r) = pos 0 ∷ pos 0 ∷ []
