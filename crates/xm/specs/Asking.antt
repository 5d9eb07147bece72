-- "A sample asked for by number is handed back as the very stretch of the lent file. A number at or above the rows lent, or a row whose
-- data isn't inside the file, gives an empty stretch. A second call tells 0 from 16 for the same question."
use Rattle.std.specs.Prelude.{ℕ, ◌+◌, ◌-◌, ◌*◌, ◌/◌, List, [], ◌∷◌, length, get_or}
use Rattle.xm.specs.Number.{part}
use Rattle.xm.specs.Got.{got, ◌>>◌, checked, present, ◌at◌}
use Rattle.xm.specs.Answer.{Answer, gives, refuses, answered, numbers}
use Rattle.xm.specs.Table.{SampleRow, sample_row_at, sample_stride}

-- Where the data lies that a row speaks of.
pub record Stretch : Type 0 where
  pub place : ℕ
  pub size : ℕ

-- What stands for one where there is none.
abbrev pub nowhere : Stretch
nowhere = record { place = 0; size = 0 }

unfoldable pub asking : (file : List ℕ) (rows : ℕ) (number : ℕ) (row : Stretch) → Answer Stretch
asking file rows number row = answered (λ stretch used. stretch) (do
  checked (
      present (number + 1) rows (16 at 0)
      ∷ present row.place (length file) (16 at 0)
      ∷ present row.size (length file - row.place) (16 at 0)
      ∷ [])
  got row 0)

-- The stretch; "tells 0 from 16"; and its place and length as numbers.
abbrev pub stretch_of : (file : List ℕ) → Answer Stretch → List ℕ
stretch_of file (gives stretch) = part stretch.place stretch.size file
stretch_of file (refuses r) = []

abbrev pub ask_numbers : Answer Stretch → List ℕ
ask_numbers = numbers (Stretch.place ∷ Stretch.size ∷ [])

-- Of a table over flat numbers, and of one of records.
abbrev pub asking_flat : (file table : List ℕ) (number : ℕ) → Answer Stretch
asking_flat file table number =
    let start = sample_stride * number in
    asking file (length table / sample_stride) number (record { place = get_or table (start + 1) 0; size = get_or table (start + 2) 0 })

-- What stands for a row where none is lent: that of no header.
abbrev pub no_row : SampleRow
no_row = sample_row_at 0 0 []

-- The data that a row speaks of.
abbrev pub row_stretch : SampleRow → Stretch
row_stretch row = record { place = row.data_place; size = row.size }

abbrev pub asking_rows : (file : List ℕ) (rows : List SampleRow) (number : ℕ) → Answer Stretch
asking_rows file rows number = asking file (length rows) number (row_stretch (get_or rows number no_row))
