-- A whole file: "Order over a file: 2; .. Then each pattern .. Then each instrument"; and its content.
use Rattle.std.specs.Prelude.{ℕ, List, [], ◌∷◌, length, get_or, replicate}
use Rattle.xm.specs.ModuleKind.{ModuleKind}
use Rattle.xm.specs.Got.{Got, ◌>>◌, checked, at_most, ◌at◌}
use Rattle.xm.specs.Format.{Format, Region, over, then, each}
use Rattle.xm.specs.Stored.{Pattern, empty_rows}
use Rattle.xm.specs.Header.{Header, HeaderFound, kind_at, header_format}
use Rattle.xm.specs.PatternInFile.{PatternFound, pattern_format}
use Rattle.xm.specs.Instrument.{Instrument, InstrumentFound, instrument_format}

-- As many patterns and instruments as the header counts; a pattern's reading depends on the number of channels.
abbrev pub patterns_for : Header → List ℕ
patterns_for x = replicate x.patterns x.channels

abbrev pub instruments_for : Header → List Pattern → List (Unit {0})
instruments_for x patterns = replicate x.instruments tt

abbrev pub body_format : ModuleKind → Format Header (List PatternFound × List InstrumentFound) (List Pattern × List Instrument)
body_format kind = then (over patterns_for (each pattern_format)) instruments_for (each (instrument_format kind))

-- What is found in a file, and its content: header, patterns, instruments.
abbrev pub Found : Type 0
Found = HeaderFound × (List PatternFound × List InstrumentFound)

abbrev pub Content : Type 0
Content = Header × (List Pattern × List Instrument)

abbrev pub module_format : ModuleKind → Format (Unit {0}) Found Content
module_format kind = then (header_format kind) (λ u x. x) (body_format kind)

-- The regions of what is found.
abbrev pub regions_of : Found → List Region
regions_of found = (module_format found.0.kind).regions found

-- "2 | file over 16,777,216 bytes"
abbrev pub file_most : ℕ
file_most = 16777216

-- A file of a format: its size first, and then its parts. "Bytes after the last instrument are ignored."
unfoldable pub read_whole : {I A : Type 0} → Format (Unit {0}) I A → (file : List ℕ) → Got I
read_whole F file = do
  checked (at_most file_most (length file) (2 at 0) ∷ [])
  F.read tt 0 file

-- Of either kind, by its mark and version.
abbrev pub read_file : (file : List ℕ) → Got Found
read_file file = read_whole (module_format (kind_at file)) file

-- "the standard empty one: 64 rows of empty cells"
abbrev pub standard : (channels : ℕ) → Pattern
standard channels = empty_rows channels 64

-- "An order entry naming no pattern is accepted; it stands for the standard empty pattern", and "only an order entry that names no pattern
-- still stands for 64 rows": what an order position within the song length plays.
unfoldable pub plays : Content → (position : ℕ) → Pattern
plays content position = get_or content.1.0 (get_or content.0.orders position 0) (standard content.0.channels)
