-- Laws of one stored cell as the code has it: its fields one behind the other, its length by them, and its five fields as a list.
-- Assumes nothing.
use Prim.Native.Nat.{ℕ, zero, suc, ◌+◌, ◌*◌, ◌%◌, ◌≤◌, ◌<◌}
use mathlib.Core.Bool.{Bool, true, false, not, cond}
use mathlib.Core.List.{List, [], ◌∷◌}
use mathlib.Core.Path.{◌≡◌, refl, sym, ap, ap₂, ◌∙◌}
use native.Mathlib.Nat.{add-zero}
use native.Mathlib.Omega.{arith}
use borrow.Author.Tests.{ltb-true, ltb-false, ne_eqb}
use lib.Bits.{bit_and, and_mask}
use lib.Count.{ones, ones_in}
use lib.Dec.{ltb, eqb}
use lib.ListN.{length, get_or, drop, replicate, length-drop}
use lib.Seq.{drop-drop}
use mir.Val.{bool_byte}
use Rattle.xm.specs.Got.{got, refused, ◌at◌}
use Rattle.xm.specs.Cell.{five, length_by, field_by, fields_by, needed, cell_at, read_cell, bit, marks, kepts}
use Rattle.xm.proofs.Cell.{five_same, kepts_sum, marks_sum, ones-five, length_plain, length_marked, cell_plain, cell_marked, length_some, cell_length, fields_at}
use Rattle.xm.proofs.Cell.{read_short, read_got, cell_read}
use Rattle.xm.proofs.Lay.{head_at_lem}
use Rattle.xm.proofs.Got.{got_both}
use Rattle.refusal.specs.declared.Step.{Step}
use Rattle.refusal.specs.declared.Step.TheVariants.{Given}
use Rattle.refusal.specs.Refusal.{place_step}
use Rattle.refusal.proofs.Steps.{next_got}
use Rattle.cell.specs.declared.read.Cell.{Cell}
use Rattle.cell.specs.declared.read.Field.{Field}
use Rattle.cell.specs.declared.read.Fields.{Fields}
use Rattle.cell.specs.Read.{bits_by, fields_from, FirstField, NextField, FieldsOf, cell_of, cell_fields, kept_count}

-- One for a byte that isn't 0
pub one_if : (x : ℕ) {one : ℕ} → one ≡ bool_byte (not (eqb x 0)) → one ≡ bit x
one_if zero e = e
one_if (suc x) e = rw (ne_eqb (suc x) 0 (λ z. omega arith)) at e

-- how many of a cell's five aren't 0, and a bit for each
pub kepts_in : (cell : List ℕ) → length cell ≡ 5
    → length (kepts cell) ≡ bit (get_or cell 0 0) + (bit (get_or cell 1 0) + (bit (get_or cell 2 0) + (bit (get_or cell 3 0) + bit (get_or cell 4 0))))
kepts_in cell size = ap (λ (l : List ℕ). length (kepts l)) (sym (five_same cell size)) ∙ kepts_sum _ _ _ _ _

pub marks_in : (cell : List ℕ) → length cell ≡ 5
    → marks cell ≡ bit (get_or cell 0 0) + 2 * bit (get_or cell 1 0) + 4 * bit (get_or cell 2 0) + 8 * bit (get_or cell 3 0) + 16 * bit (get_or cell 4 0)
marks_in cell size = ap marks (sym (five_same cell size)) ∙ marks_sum _ _ _ _ _

-- A cell's fields as a list
pub fields_of_lem : (s : List ℕ) {cell : Cell} → cell ≡ cell_of (cell_at s) → cell_fields cell ≡ cell_at s
fields_of_lem s e = ap cell_fields e ∙ five_same (cell_at s) (cell_length s)

pub kept_fields : (cell : Cell) → kept_count cell ≡ length (kepts (cell_fields cell))
kept_fields cell = sym (kepts_sum cell.note cell.instrument cell.volume cell.effect cell.parameter)

pub kept_of : (s : List ℕ) {cell : Cell} → cell ≡ cell_of (cell_at s) → kept_count cell ≡ length (kepts (cell_at s))
kept_of s {cell} e = kept_fields cell ∙ ap (λ (l : List ℕ). length (kepts l)) (fields_of_lem s e)

-- The two answers of reading the cell at a place
module _ (place : ℕ) (s : List ℕ) where
  needed_at : needed (drop place s) ≡ length_by (get_or s place 0)
  needed_at = ap length_by (head_at_lem place s 0)

  pub read_short_at : length s < place + length_by (get_or s place 0) → read_cell place (drop place s) ≡ refused (7 at place)
  read_short_at h = read_short place (drop place s) (omega (arith, needed_at, length-drop place s, length_some (get_or s place 0)))

  pub read_got_at : place + length_by (get_or s place 0) ≤ length s → read_cell place (drop place s) ≡ got (cell_at (drop place s)) (length_by (get_or s place 0))
  read_got_at fits = read_got place (drop place s) (omega (arith, needed_at, length-drop place s)) ∙ ap (got (cell_at (drop place s))) needed_at

-- An empty cell: one byte, five zeros
module _ (place : ℕ) (s : List ℕ) (e : get_or s place 0 ≡ 128) where
  pub empty_length : length_by (get_or s place 0) ≡ 1
  unfolding length_by ones ones_in
  empty_length = ap length_by e

  pub empty_cell : cell_at (drop place s) ≡ replicate 5 0
  unfolding fields_by
  empty_cell =
      let lead : get_or (drop place s) 0 0 ≡ 128 = head_at_lem place s 0 ∙ e in
      cell_marked (drop place s) (omega arith) ∙ ap (λ (b : ℕ). fields_by 5 b (drop 1 (drop place s))) lead

-- What a cell that was tried says
pub record Tried (place : ℕ) (s : List ℕ) (next : ℕ) : Type 0 where
  pub reads : read_cell place (drop place s) ≡ got (cell_at (drop place s)) (length_by (get_or s place 0))
  pub fits : place + length_by (get_or s place 0) ≤ length s
  pub long : next ≡ place + length_by (get_or s place 0)

pub tried : (place : ℕ) (s : List ℕ) {step : Step ℕ} {next : ℕ} → place ≤ length s → step ≡ place_step place (read_cell place (drop place s)) → step ≡ Given next
    → Tried place s next
tried place s inside e told =
    next_got place (read_cell place (drop place s)) (sym told ∙ e) λ cell used ec en.
    let r = cell_read place (drop place s) cell used ec in
    let long = r.long ∙ needed_at place s in
    record { reads = ec ∙ got_both r.same long; fits = omega (arith, long, r.long, r.fits, length-drop place s); long = omega (arith, long) }

-- A plain cell has five fields, and a marked one its lead byte and as many as that has ones in its low five bits
pub length_ones : (lead bits from : ℕ) → bits ≡ bits_by lead → from ≡ fields_from lead → from + ones (bit_and bits 31) ≡ length_by lead
unfolding fields_from ones
length_ones lead bits from = go (ltb lead 128) refl
  where
    go : (t : Bool) → ltb lead 128 ≡ t → bits ≡ cond t 31 lead → from ≡ cond t 0 1 → from + ones (bit_and bits 31) ≡ length_by lead
    go true e b f = rw (b, f) (sym (length_plain lead (ltb-true lead 128 e)))
    go false e b f = rw (b, f) (ap (λ (n : ℕ). 1 + ones n) (and_mask lead 5) ∙ sym (length_marked lead (ltb-false lead 128 e)))

-- A plain cell's five bytes are the fields of five bits, so that every cell's fields are those of its bits
pub plain_fields : (s : List ℕ) → five s ≡ fields_by 5 31 s
unfolding fields_by
plain_fields [] = refl
plain_fields (a ∷ []) = refl
plain_fields (a ∷ b ∷ []) = refl
plain_fields (a ∷ b ∷ c ∷ []) = refl
plain_fields (a ∷ b ∷ c ∷ d ∷ []) = refl
plain_fields (a ∷ b ∷ c ∷ d ∷ e ∷ s) = refl

pub cell_bits : (place : ℕ) (s : List ℕ) → cell_at (drop place s) ≡ fields_by 5 (bits_by (get_or s place 0)) (drop (place + fields_from (get_or s place 0)) s)
unfolding fields_from
cell_bits place s = go (ltb (get_or s place 0) 128) refl
  where
    lead : get_or (drop place s) 0 0 ≡ get_or s place 0
    lead = head_at_lem place s 0

    go : (t : Bool) → ltb (get_or s place 0) 128 ≡ t → cell_at (drop place s) ≡ fields_by 5 (cond t 31 (get_or s place 0)) (drop (place + cond t 0 1) s)
    go true e =
        cell_plain (drop place s) (omega (arith, lead, ltb-true (get_or s place 0) 128 e)) ∙ plain_fields (drop place s)
        ∙ ap (λ (n : ℕ). fields_by 5 31 (drop n s)) (sym (add-zero place))
    go false e =
        cell_marked (drop place s) (omega (arith, lead, ltb-false (get_or s place 0) 128 e))
        ∙ ap₂ (λ (x : ℕ) (y : List ℕ). fields_by 5 x y) lead (drop-drop 1 place s)

-- and its length tells where they end
length_bits : (place lead : ℕ) → place + fields_from lead + ones_in 5 (bits_by lead) ≡ place + length_by lead
unfolding fields_from ones_in
length_bits place lead = go (ltb lead 128) refl
  where
    go : (t : Bool) → ltb lead 128 ≡ t → place + cond t 0 1 + ones_in 5 (cond t 31 lead) ≡ place + length_by lead
    go true e = omega (arith, length_plain lead (ltb-true lead 128 e))
    go false e = omega (arith, length_marked lead (ltb-false lead 128 e), ones-five lead)

-- One field after the other: so many from one on stand in the first n bytes
pub record FieldInside (count : ℕ) (field : Field) (n : ℕ) : Type 0 where
  pub ends : field.place + ones_in count field.bits ≤ n

pub first_inside : (place lead n : ℕ) {field : Field} → FirstField lead place field → place + length_by lead ≤ n → FieldInside 5 field n
first_inside place lead n f h = record { ends = rw (f.place, f.bits, length_bits) h }

module _ {count : ℕ} {field : Field} {n : ℕ} where
  pub next_inside : FieldInside (suc count) field n → {next : Field} → NextField field next → FieldInside count next n
  unfolding ones_in
  next_inside e g = record { ends = rw (g.place, g.bits) (omega (arith, e.ends)) }

  pub field_inside : FieldInside (suc count) field n → field.place + field.bits % 2 ≤ n
  unfolding ones_in
  field_inside e = omega (arith, e.ends)

-- behind the fifth the cell ends
next_ends : (count : ℕ) {field next : Field} → NextField field next → next.place + ones_in count next.bits ≡ field.place + ones_in (suc count) field.bits
unfolding ones_in
next_ends count g = rw (g.place, g.bits) (omega arith)

last_ends : (field : Field) → field.place ≡ field.place + ones_in 0 field.bits
unfolding ones_in
last_ends field = omega arith

pub fields_end_lem : {lead place : ℕ} {first second third fourth fifth behind : Field} → FirstField lead place first → NextField first second
    → NextField second third
    → NextField third fourth → NextField fourth fifth → NextField fifth behind → behind.place ≡ place + length_by lead
fields_end_lem {lead} {place} {first} {behind = behind} f g h i j k =
    let start : first.place + ones_in 5 first.bits ≡ place + length_by lead = rw (f.place, f.bits) (length_bits place lead) in
    last_ends behind ∙ next_ends 0 k ∙ next_ends 1 j ∙ next_ends 2 i ∙ next_ends 3 h ∙ next_ends 4 g ∙ start

next_fields : (count : ℕ) (s : List ℕ) {field next : Field} → NextField field next
    → fields_by (suc (suc count)) field.bits (drop field.place s)
    ≡ field_by field.bits (drop field.place s) ∷ fields_by (suc count) next.bits (drop next.place s)
next_fields count s {field} n = rw (n.bits, n.place) (fields_at (suc count) field.bits field.place s)

last_field : (bits : ℕ) (s : List ℕ) → fields_by 1 bits s ≡ field_by bits s ∷ []
unfolding fields_by
last_field bits s = refl

module _ (place : ℕ) (s : List ℕ) {first : Field} (f : FirstField (get_or s place 0) place first) where
  pub cell_first : cell_at (drop place s) ≡ fields_by 5 first.bits (drop first.place s)
  cell_first = rw (f.bits, f.place) (cell_bits place s)

  pub cell_fields_lem : {second third fourth fifth : Field} → NextField first second → NextField second third → NextField third fourth → NextField fourth fifth
      → cell_at (drop place s)
      ≡ field_by first.bits (drop first.place s) ∷ field_by second.bits (drop second.place s) ∷ field_by third.bits (drop third.place s)
      ∷ field_by fourth.bits (drop fourth.place s) ∷ field_by fifth.bits (drop fifth.place s) ∷ []
  cell_fields_lem g h i j = rw (cell_first, next_fields 3 s g, next_fields 2 s h, next_fields 1 s i, next_fields 0 s j, last_field)

-- All five of a cell that stands there whole
pub record Inside (fields : Fields) (n : ℕ) : Type 0 where
  pub note : fields.note.place + fields.note.bits % 2 ≤ n
  pub instrument : fields.instrument.place + fields.instrument.bits % 2 ≤ n
  pub volume : fields.volume.place + fields.volume.bits % 2 ≤ n
  pub effect : fields.effect.place + fields.effect.bits % 2 ≤ n
  pub parameter : fields.parameter.place + fields.parameter.bits % 2 ≤ n

module _ (place : ℕ) (s : List ℕ) {fields : Fields} (f : FieldsOf (get_or s place 0) place fields) where
  pub fields_inside : place + length_by (get_or s place 0) ≤ length s → Inside fields (length s)
  fields_inside h =
      let note = first_inside place (get_or s place 0) (length s) f.note h in
      let instrument = next_inside note f.instrument in
      let volume = next_inside instrument f.volume in
      let effect = next_inside volume f.effect in
      record {
        note = field_inside note;
        instrument = field_inside instrument;
        volume = field_inside volume;
        effect = field_inside effect;
        parameter = field_inside (next_inside effect f.parameter);
      }

  pub fields_lem : {note instrument volume effect parameter : ℕ} → note ≡ field_by fields.note.bits (drop fields.note.place s)
      → instrument ≡ field_by fields.instrument.bits (drop fields.instrument.place s) → volume ≡ field_by fields.volume.bits (drop fields.volume.place s)
      → effect ≡ field_by fields.effect.bits (drop fields.effect.place s) → parameter ≡ field_by fields.parameter.bits (drop fields.parameter.place s)
      → record { note = note; instrument = instrument; volume = volume; effect = effect; parameter = parameter } ≡ cell_of (cell_at (drop place s))
  fields_lem a b c d e = rw (a, b, c, d, e) (sym (ap cell_of (cell_fields_lem place s f.note f.instrument f.volume f.effect f.parameter)))
