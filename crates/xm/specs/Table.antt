-- "An accepted check reports the end of the last structure and the numbers of channels, patterns, instruments and samples, and fills
-- three lent tables".
use Rattle.std.specs.Prelude.{ℕ, ◌+◌, ◌/◌, min, List, [], ◌∷◌, map, ℤ, length}
use Rattle.xm.specs.Got.{got, ◌>>=◌, ◌>>◌, Test, checked, present, ◌at◌}
use Rattle.xm.specs.Format.{joined}
use Rattle.xm.specs.Answer.{Answer, gives, refuses, answered, numbers, in_front, after, loader_number}
use Rattle.xm.specs.PatternInFile.{PatternFound}
use Rattle.xm.specs.Sample.{StretchFound, data_size, width_of, loop_kind, loop_from, loop_count, finetune, relative_note}
use Rattle.xm.specs.Instrument.{InstrumentFound}
use Rattle.xm.specs.Module.{Found, read_file}

-- "patterns (data place, S, rows it reads as)"
pub record PatternRow : Type 0 where
  pub data_place : ℕ
  pub size : ℕ
  pub rows : ℕ

abbrev pub pattern_row : PatternFound → PatternRow
pattern_row p = record { data_place = p.data_place; size = p.data_size; rows = p.content.rows }

abbrev pub pattern_rows : Found → List PatternRow
pattern_rows found = map pattern_row found.1.0

-- "instruments (place, k, number of its first sample, or of the next sample if k = 0)": `first` samples stand before it.
pub record InstrumentRow : Type 0 where
  pub place : ℕ
  pub samples : ℕ
  pub first : ℕ

abbrev pub sample_count : InstrumentFound → ℕ
sample_count i = length i.samples.0

abbrev pub instrument_rows_from : (first : ℕ) → List InstrumentFound → List InstrumentRow
instrument_rows_from first [] = []
instrument_rows_from first (i ∷ is) =
    record { place = i.place; samples = sample_count i; first = first } ∷ instrument_rows_from (first + sample_count i) is

abbrev pub instrument_rows : Found → List InstrumentRow
instrument_rows found = instrument_rows_from 0 found.1.1

-- "samples": "header place, data place, length in bytes, width (8 or 16), finetune, relative note"; "Each sample row gains loop kind .., loop
-- start and loop length"
pub record SampleRow : Type 0 where
  pub header_place : ℕ
  pub data_place : ℕ
  pub size : ℕ
  pub width : ℕ
  pub loop_kind : ℕ
  pub loop_start : ℕ
  pub loop_length : ℕ
  pub finetune : ℤ
  pub relative_note : ℤ

-- The row of a header, by its place and its data's: what a row's fields are stands here, and nowhere else.
abbrev pub sample_row_at : (header_place data_place : ℕ) (head : List ℕ) → SampleRow
sample_row_at header_place data_place head = record {
  header_place = header_place;
  data_place = data_place;
  size = data_size head;
  width = width_of head;
  loop_kind = loop_kind head;
  loop_start = loop_from head;
  loop_length = loop_count head;
  finetune = finetune head;
  relative_note = relative_note head;
}

abbrev pub sample_row : (head bytes : StretchFound) → SampleRow
sample_row head bytes = sample_row_at head.place bytes.place head.bytes

abbrev pub sample_rows_of : (heads bytes : List StretchFound) → List SampleRow
sample_rows_of [] bytes = []
sample_rows_of (h ∷ hs) [] = []
sample_rows_of (h ∷ hs) (b ∷ bs) = sample_row h b ∷ sample_rows_of hs bs

abbrev pub sample_rows_in : InstrumentFound → List SampleRow
sample_rows_in i = sample_rows_of i.samples.0 i.samples.1

-- "Instruments and samples are numbered from 0 in file order."
abbrev pub sample_rows : Found → List SampleRow
sample_rows found = joined sample_rows_in found.1.1

-- What a check gives, and its numbers in order: number, place, end, channels, patterns, instruments, samples.
pub record CheckReport : Type 0 where
  pub found : Found
  pub end : ℕ

abbrev pub check_results : List (CheckReport → ℕ)
check_results =
    (λ c. c.end)
    ∷ (λ c. c.found.0.content.channels)
    ∷ (λ c. c.found.0.content.patterns)
    ∷ (λ c. c.found.0.content.instruments)
    ∷ (λ c. length (sample_rows c.found))
    ∷ []

abbrev pub checked_as : Found → (end : ℕ) → CheckReport
checked_as found end = record { found = found; end = end }

unfoldable pub checking : (file : List ℕ) → Answer CheckReport
checking file = answered checked_as (read_file file)

abbrev pub check_numbers : (file : List ℕ) → List ℕ
check_numbers file = numbers check_results (checking file)

-- The loader's number: "the end".
abbrev pub check_loader : (file : List ℕ) → ℕ
check_loader file = loader_number CheckReport.end (checking file)

-- The tables "over flat numbers": three numbers to a pattern, three to an instrument; of a sample seven, and its two tunes apart.
abbrev pub pattern_stride : ℕ
pattern_stride = 3

abbrev pub instrument_stride : ℕ
instrument_stride = 3

abbrev pub sample_stride : ℕ
sample_stride = 7

abbrev pub tune_stride : ℕ
tune_stride = 2

abbrev pub pattern_numbers : PatternRow → List ℕ
pattern_numbers r = r.data_place ∷ r.size ∷ r.rows ∷ []

abbrev pub instrument_numbers : InstrumentRow → List ℕ
instrument_numbers r = r.place ∷ r.samples ∷ r.first ∷ []

abbrev pub sample_numbers : SampleRow → List ℕ
sample_numbers r = r.header_place ∷ r.data_place ∷ r.size ∷ r.width ∷ r.loop_kind ∷ r.loop_start ∷ r.loop_length ∷ []

abbrev pub sample_tunes : SampleRow → List ℤ
sample_tunes r = r.finetune ∷ r.relative_note ∷ []

pub record Tables : Type 0 where
  pub patterns : List ℕ
  pub instruments : List ℕ
  pub samples : List ℕ
  pub tunes : List ℤ

-- How many rows are lent: what is left of a last row that is not whole counts for none.
pub record Room : Type 0 where
  pub patterns : ℕ
  pub instruments : ℕ
  pub samples : ℕ

abbrev pub room_tests : Room → Found → List Test
room_tests room found =
    present (length (pattern_rows found)) room.patterns (14 at 0)
    ∷ present (length (instrument_rows found)) room.instruments (14 at 0)
    ∷ present (length (sample_rows found)) room.samples (14 at 0)
    ∷ []

-- "14 is tried last of all".
unfoldable pub checking_into : Room → (file : List ℕ) → Answer CheckReport
checking_into room file = answered checked_as (do
  (found, end) ← read_file file
  checked (room_tests room found)
  got found end)

abbrev pub check_into_numbers : Room → (file : List ℕ) → List ℕ
check_into_numbers room file = numbers check_results (checking_into room file)

-- The loader's number: the end, as of the check.
abbrev pub check_into_loader : Room → (file : List ℕ) → ℕ
check_into_loader room file = loader_number CheckReport.end (checking_into room file)

abbrev pub room_of : Tables → Room
room_of lent = record {
  patterns = length lent.patterns / pattern_stride;
  instruments = length lent.instruments / instrument_stride;
  samples = min (length lent.samples / sample_stride) (length lent.tunes / tune_stride);
}

-- What all the tables hold afterwards: "Rows beyond the count stay", and on a refusal every row.
unfoldable pub tables_after : Answer CheckReport → Tables → Tables
tables_after (gives c) lent = record {
  patterns = in_front (joined pattern_numbers (pattern_rows c.found)) lent.patterns;
  instruments = in_front (joined instrument_numbers (instrument_rows c.found)) lent.instruments;
  samples = in_front (joined sample_numbers (sample_rows c.found)) lent.samples;
  tunes = in_front (joined sample_tunes (sample_rows c.found)) lent.tunes;
}
tables_after (refuses r) lent = lent

-- "The sample table is a lent row of records, one to a sample", beside flat pattern and instrument tables: its room is its rows.
abbrev pub room_with : (patterns instruments : List ℕ) (rows : List SampleRow) → Room
room_with patterns instruments rows = record {
  patterns = length patterns / pattern_stride;
  instruments = length instruments / instrument_stride;
  samples = length rows;
}

abbrev pub rows_after : Answer CheckReport → (lent : List SampleRow) → List SampleRow
rows_after answer lent = after (λ c. sample_rows c.found) answer lent
