-- A run of patterns, a run of instruments, and a whole file, as they are written.
use Rattle.std.specs.Prelude.{ℕ, Bool, true, false, List, length, replicate}
use Rattle.xm.specs.ModuleKind.{ModuleKind}
use Rattle.xm.specs.Got.{Got, list_in}
use Rattle.xm.specs.Format.{each}
use Rattle.xm.specs.Header.{Header, kind_at}
use Rattle.xm.specs.PatternInFile.{pattern_format}
use Rattle.xm.specs.Instrument.{InstrumentFound, instrument_format}
use Rattle.xm.specs.Module.{Found, Content, read_file}
use Rattle.xm.specs.Press.{content_of, pressed}
use Rattle.xm.specs.Convert.{without_tracker}
use Rattle.writers.specs.Found.{read_at, written_at, pressed_at, end_of}
use Rattle.module.specs.declared.Reached.{Reached}

-- How far `count` patterns from a place on reach, and how much is written of them.
abbrev pub patterns_reached : (file : List ℕ) (place channels count : ℕ) → Reached
patterns_reached file place channels count = record {
  place = end_of place (read_at (each pattern_format) (replicate count channels) file place);
  written = length (pressed_at (each pattern_format) (replicate count channels) file place);
}

-- `count` instruments from a place on, read by the file's own kind, and written in a module of another.
abbrev pub instruments_read : (file : List ℕ) (place count : ℕ) → Got (List InstrumentFound)
instruments_read file place count = read_at (each (instrument_format (kind_at file))) (replicate count tt) file place

abbrev pub instruments_as : (to : ModuleKind) (file : List ℕ) (place count : ℕ) → List ℕ
instruments_as to file place count = written_at (each (instrument_format (kind_at file))) (each (instrument_format to)) (replicate count tt) file place

-- An accepted file as it is written in a module of a kind: with the tracker name that it has, or converted.
abbrev pub header_kept : (kept : Bool) → Header → Header
header_kept true x = x
header_kept false x = without_tracker x

abbrev pub content_kept : (kept : Bool) → Content → Content
content_kept kept content = (header_kept kept content.0, content.1)

abbrev pub written_file : (to : ModuleKind) (kept : Bool) (file : List ℕ) → List ℕ
written_file to kept file = list_in (λ (found : Found). pressed to (content_kept kept (content_of found))) (read_file file)
