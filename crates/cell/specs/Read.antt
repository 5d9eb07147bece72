-- One stored cell as the code has it: its fields by its lead byte, plain and marked alike, and a cell's five fields as a list.
use Rattle.std.specs.Prelude.{ℕ, ◌+◌, ◌/◌, ◌%◌, ◌≤◌, cond, List, [], ◌∷◌, ◌≡◌, ltb, get_or}
use Rattle.xm.specs.Cell.{marked_from, bit}
use Rattle.cell.specs.declared.read.Cell.{Cell}
use Rattle.cell.specs.declared.read.Field.{Field}
use Rattle.cell.specs.declared.read.Fields.{Fields}

-- The bits of the fields that are there, and how far behind the lead byte the first one stands. A plain cell has all five, from its lead
-- byte on.
abbrev pub bits_by : (lead : ℕ) → ℕ
bits_by lead = cond (ltb lead marked_from) 31 lead

unfoldable pub fields_from : (lead : ℕ) → ℕ
fields_from lead = cond (ltb lead marked_from) 0 1

-- The first field of a cell at a place, by its lead byte, and the one behind another.
pub record FirstField (lead start : ℕ) (field : Field) : Type 0 where
  pub place : field.place ≡ start + fields_from lead
  pub near : field.place ≤ start + 1
  pub bits : field.bits ≡ bits_by lead

pub record NextField (field next : Field) : Type 0 where
  pub place : next.place ≡ field.place + field.bits % 2
  pub near : next.place ≤ field.place + 1
  pub bits : next.bits ≡ field.bits / 2

-- A cell's five fields: the first by the lead byte, each other one behind the one before it.
pub record FieldsOf (lead start : ℕ) (fields : Fields) : Type 0 where
  pub note : FirstField lead start fields.note
  pub instrument : NextField fields.note fields.instrument
  pub volume : NextField fields.instrument fields.volume
  pub effect : NextField fields.volume fields.effect
  pub parameter : NextField fields.effect fields.parameter

-- The five fields of a list as a cell, and a cell's as a list.
abbrev pub cell_of : List ℕ → Cell
cell_of fields = record {
  note = get_or fields 0 0;
  instrument = get_or fields 1 0;
  volume = get_or fields 2 0;
  effect = get_or fields 3 0;
  parameter = get_or fields 4 0;
}

abbrev pub cell_fields : Cell → List ℕ
cell_fields cell = cell.note ∷ cell.instrument ∷ cell.volume ∷ cell.effect ∷ cell.parameter ∷ []

-- How many of them aren't 0.
abbrev pub kept_count : Cell → ℕ
kept_count cell = bit cell.note + (bit cell.instrument + (bit cell.volume + (bit cell.effect + bit cell.parameter)))
