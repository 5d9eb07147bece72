-- What stands in front of each structure, and what its step gives of a reading that was accepted: what the walk needs of it.
use Rattle.std.specs.Prelude.{ℕ, zero, suc, ◌+◌, List, ◌≡◌, Result, Ok, Err, length, drop}
use Rattle.xm.specs.Number.{part}
use Rattle.xm.specs.ModuleKind.{ModuleKind}
use Rattle.xm.specs.Got.{Test}
use Rattle.xm.specs.Stored.{write_stored}
use Rattle.xm.specs.Header.{channels_at, patterns_at, instruments_at, header_end, kind_at, HeaderFound}
use Rattle.xm.specs.PatternInFile.{pattern_head_size_at, rows_at, data_size_at, PatternFound}
use Rattle.xm.specs.Sample.{size_of_first}
use Rattle.xm.specs.Instrument.{instrument_size_at, count_at, sample_head_size_at, fields_of, InstrumentFound, read_instrument}
use Rattle.xm.specs.Table.{sample_count}
use Rattle.refusal.specs.Refusal.{step_by}
use Rattle.refusal.specs.Test.{tested}
use Rattle.refusal.specs.declared.Cause.{Cause}
use Rattle.refusal.specs.declared.Refusal.{Refusal}
use Rattle.refusal.specs.declared.Step.TheVariants.{Given}
use Rattle.measure.specs.Measure.{same_bytes}
use Rattle.steps.specs.declared.header.HeaderPart.{HeaderPart}
use Rattle.steps.specs.declared.pattern.PatternHead.{PatternHead}
use Rattle.steps.specs.declared.pattern.PatternPart.{PatternPart}
use Rattle.steps.specs.declared.instrument.InstrumentHead.{InstrumentHead}
use Rattle.steps.specs.declared.instrument.InstrumentPart.{InstrumentPart}

-- A value, if tests pass; or the cause of the first that does not.
abbrev pub value_for : {A : Type 0} → A → Result (Unit {0}) Cause → Result A Cause
value_for x (Ok passed) = Ok x
value_for x (Err cause) = Err cause

abbrev pub tested_for : {A : Type 0} → List Test → A → Result A Cause
tested_for ts x = value_for x (tested ts)

-- The header.
abbrev pub header_part : (file : List ℕ) → HeaderPart
header_part file = record { channels = channels_at file; patterns = patterns_at file; instruments = instruments_at file; start = header_end file }

abbrev pub header_given : HeaderFound → (used : ℕ) → HeaderPart
header_given i used = record { channels = i.content.channels; patterns = i.content.patterns; instruments = i.content.instruments; start = used }

-- A pattern at a place of the file, by the bytes from there on.
abbrev pub pattern_head : (place : ℕ) → List ℕ → PatternHead
pattern_head place s = record { place = place + pattern_head_size_at s; size = data_size_at s; rows = rows_at s }

abbrev pub pattern_given : (file : List ℕ) (place : ℕ) → PatternFound → (used : ℕ) → PatternPart
pattern_given file place i used = record {
  shortest = length (write_stored i.content);
  same = same_bytes (part i.data_place i.data_size file) (write_stored i.content);
  next = place + used;
}

-- A refusal of its stored cells; in a file its place is that of the cells and the place in them.
abbrev pub refusal_from : (base : ℕ) → Refusal → Refusal
refusal_from base refusal = record { number = refusal.number; place = base + refusal.place }

-- An instrument; without samples it has no H.
abbrev pub head_size_of : (k : ℕ) → List ℕ → ℕ
head_size_of zero s = 0
head_size_of (suc k) s = sample_head_size_at s

abbrev pub instrument_head : ModuleKind → (place : ℕ) → List ℕ → InstrumentHead
instrument_head kind place s =
    let fields = fields_of kind s in
    record { samples = count_at fields; heads = place + instrument_size_at s; head_size = head_size_of (count_at fields) fields }

abbrev pub instrument_given : (place : ℕ) → InstrumentFound → (used : ℕ) → InstrumentPart
instrument_given place i used = record { size = i.size; samples = sample_count i; head_size = size_of_first i.samples.0; next = place + used }

-- The step at a place of a file, of its own kind, gave this part.
abbrev pub InstrumentIs : (file : List ℕ) (place : ℕ) → InstrumentPart → Type 0
InstrumentIs file place piece = Given piece ≡ step_by (instrument_given place) (read_instrument (kind_at file) place (drop place file))
