-- A sample that is sought.
use Rattle.std.specs.Prelude.{ℕ, ◌+◌, ◌*◌, ◌≤◌, List, ◌++◌, ◌≡◌, length, drop}
use Rattle.xm.specs.Got.{list_in}
use Rattle.xm.specs.Format.{joined}
use Rattle.xm.specs.Header.{kind_at}
use Rattle.xm.specs.Instrument.{InstrumentFound, instrument_format}
use Rattle.xm.specs.Module.{read_file}
use Rattle.xm.specs.Table.{sample_rows_in, sample_rows}
use Rattle.rows.specs.Accepted.{ReadsFrom}
use Rattle.rows.specs.Place.{data_before, rows_from}
use Rattle.rows.specs.declared.sample.Sought.{Sought}

-- So many samples are left of an instrument: `head` is the next one's header, its data begin at `place`, and the data of all end at `end`.
pub record SamplesLeft (file : List ℕ) (size end left head place : ℕ) : Type 0 where
  pub same : place + data_before left size (drop head file) ≡ end
  pub fits : head + left * size ≤ length file
  pub inside : end ≤ length file

-- The rows from its number on are those of the samples that are left of its instrument, and then those of the instruments behind it.
pub record Seeks (file : List ℕ) (x : Sought) : Type 0 where
  pub behind : ℕ
  pub here : SamplesLeft file x.head_size behind x.left x.head x.data_place
  pub count : ℕ
  pub parts : List InstrumentFound
  pub end : ℕ
  pub reads : ReadsFrom (instrument_format (kind_at file)) tt file count behind parts end
  pub same : drop x.number (list_in sample_rows (read_file file))
      ≡ rows_from x.left x.head_size x.head x.data_place (drop x.head file) ++ joined sample_rows_in parts

-- The first sample, sought from the instrument at a place on.
abbrev pub sought_from : (place : ℕ) → Sought
sought_from place = record { number = 0; left = 0; head = 0; head_size = 0; data_place = place }
