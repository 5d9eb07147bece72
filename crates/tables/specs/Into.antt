-- The check that fills the tables: what is lent, and its room.
use Rattle.std.specs.Prelude.{ℕ, ◌/◌, List, [], ◌∷◌, ℤ}
use Rattle.xm.specs.Got.{Test, present, ◌at◌}
use Rattle.xm.specs.Format.{joined}
use Rattle.xm.specs.Answer.{Answer, after}
use Rattle.xm.specs.Table.{CheckReport, pattern_rows, instrument_rows, pattern_numbers, instrument_numbers, pattern_stride, instrument_stride, Tables, Room, room_of}
use Rattle.xm.specs.Table.{checking_into, tables_after}
use Rattle.walk.specs.declared.Module.{Module}

abbrev pub lent : (patterns instruments samples : List ℕ) (tunes : List ℤ) → Tables
lent patterns instruments samples tunes = record { patterns = patterns; instruments = instruments; samples = samples; tunes = tunes }

-- What a check into the tables answers, and what they hold afterwards.
abbrev pub checked_into : (file : List ℕ) → Tables → Answer CheckReport
checked_into file tables = checking_into (room_of tables) file

abbrev pub tables_then : (file : List ℕ) → Tables → Tables
tables_then file tables = tables_after (checked_into file tables) tables

-- The room by the lengths of what is lent, and the rows for samples; and its tests by the counts of an accepted file.
abbrev pub room_beside : (patterns instruments rows : ℕ) → Room
room_beside patterns instruments rows = record { patterns = patterns / pattern_stride; instruments = instruments / instrument_stride; samples = rows }

abbrev pub room_tests_of : Room → Module → List Test
room_tests_of room x =
    present x.patterns room.patterns (14 at 0) ∷ present x.instruments room.instruments (14 at 0)
    ∷ present x.samples room.samples (14 at 0) ∷ []

-- The pattern table and the instrument table afterwards, each by itself.
abbrev pub patterns_after : Answer CheckReport → (lent : List ℕ) → List ℕ
patterns_after = after (λ (c : CheckReport). joined pattern_numbers (pattern_rows c.found))

abbrev pub instruments_after : Answer CheckReport → (lent : List ℕ) → List ℕ
instruments_after = after (λ (c : CheckReport). joined instrument_numbers (instrument_rows c.found))
