-- What stands at a place of an accepted file, read off its bytes: no test is made again, and no cell is read.
use Rattle.std.specs.Prelude.{ℕ, zero, suc, ◌+◌, ◌*◌, ◌≤◌, List, [], ◌∷◌, ℤ, length, drop}
use Rattle.xm.specs.Sample.{head_bytes, data_size}
use Rattle.xm.specs.Instrument.{samples_most}
use Rattle.xm.specs.Module.{file_most}
use Rattle.xm.specs.Table as paper
use Rattle.steps.specs.declared.instrument.InstrumentHead.{InstrumentHead}
use Rattle.rows.specs.declared.sample.SampleRow.{SampleRow}

-- The bytes of the data of the first samples, whose headers stand in front of `s`.
unfoldable pub data_before : (number size : ℕ) → List ℕ → ℕ
data_before zero size s = 0
data_before (suc number) size s = data_size (head_bytes size s) + data_before number size (drop size s)

-- Where the data of an instrument's samples begin, and where they end.
abbrev pub data_start : InstrumentHead → ℕ
data_start x = x.heads + x.samples * x.head_size

abbrev pub data_end : (file : List ℕ) → InstrumentHead → ℕ
data_end file x = data_start x + data_before x.samples x.head_size (drop x.heads file)

-- An instrument whose headers and data lie in the file.
pub record InstrumentHeadStands (file : List ℕ) (x : InstrumentHead) : Type 0 where
  pub small : length file ≤ file_most
  pub few : x.samples ≤ samples_most
  pub inside : data_end file x ≤ length file

-- The rows of the first samples, whose headers stand in front of `s`, from `head` on, and whose data from `bytes_place` on.
unfoldable pub rows_from : (number size head bytes_place : ℕ) → List ℕ → List paper.SampleRow
rows_from zero size head bytes_place s = []
rows_from (suc number) size head bytes_place s =
    paper.sample_row_at head bytes_place (head_bytes size s) ∷ rows_from number size (head + size) (bytes_place + data_size (head_bytes size s)) (drop size s)

-- The row as the code has it.
abbrev pub code_row : paper.SampleRow → SampleRow
code_row r = record {
  header_place = r.header_place;
  data_place = r.data_place;
  length = r.size;
  width = r.width;
  loop_kind = r.loop_kind;
  loop_start = r.loop_start;
  loop_length = r.loop_length;
  finetune = r.finetune;
  relative_note = r.relative_note;
}

-- and its numbers in the tables.
abbrev pub code_row_numbers : SampleRow → List ℕ
code_row_numbers r = r.header_place ∷ r.data_place ∷ r.length ∷ r.width ∷ r.loop_kind ∷ r.loop_start ∷ r.loop_length ∷ []

abbrev pub tunes_of : SampleRow → List ℤ
tunes_of r = r.finetune ∷ r.relative_note ∷ []
