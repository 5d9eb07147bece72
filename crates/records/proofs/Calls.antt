-- What holds of every answer and memory that meet the contracts of the check with records and of the calls about a record. Assumes nothing.
use Prim.Native.Nat.{ℕ, zero, suc, ◌+◌, ◌/◌, ◌<◌, ◌≤◌, min}
use mathlib.Core.Bool.{Bool, true, false}
use mathlib.Core.List.{List, [], ◌∷◌, ◌++◌, map, map-append}
use mathlib.Core.Path.{◌≡◌, refl, sym, ap, ap₂, ◌∙◌}
use lib.Dec.{leb}
use lib.IntN.{ℤ}
use lib.ListN.{length, get_or, take, drop, length-map, get_or-append, get_or-map}
use lib.Seq.{take-append_seam}
use Rattle.std.specs.Prelude.{Result, Ok, Err}
use native.Mathlib.Omega.{arith}
use Rattle.std.specs.List.{drop-map}
use Rattle.xm.specs.Number.{Bytes, byte_at}
use Rattle.xm.specs.ModuleKind.{normal}
use Rattle.xm.specs.Got.{◌at◌, ◌>>◌, ensure, checked}
use Rattle.xm.specs.Got as reading
use Rattle.xm.specs.Format.{joined}
use Rattle.xm.specs.Answer.{Answer, gives, refuses, number_of, in_front}
use Rattle.xm.specs.Sample.{least_head, head_bytes, length_of, kind_of}
use Rattle.xm.specs.Adpcm.{decoding_by}
use Rattle.xm.specs.Table.{CheckReport, sample_rows, sample_stride, tune_stride, check_into_numbers, checking_into, room_with, rows_after, Tables, tables_after}
use Rattle.xm.specs.Table as paper
use Rattle.xm.specs.Asking.{Stretch, asking, stretch_of, asking_rows, no_row}
use Rattle.xm.specs.Demands.{LoopReads, AcceptedFile, stretch_at}
use Rattle.xm.proofs.Accepted.{accepted_files, loop_at, decodes_at, normal-byte}
use Rattle.xm.proofs.Table.{joined-map}
use Rattle.refusal.specs.Refusal.{code_refusal, outcome}
use Rattle.refusal.specs.declared.Refusal.{Refusal}
use Rattle.walk.specs.File.{code_module, verdict_numbers}
use Rattle.walk.specs.declared.Module.{Module}
use Rattle.tables.specs.Into.{lent, checked_into, room_beside, patterns_after, instruments_after}
use Rattle.rows.specs.Place.{code_row, code_row_numbers, tunes_of}
use Rattle.rows.specs.declared.sample.SampleRow.{SampleRow}
use Rattle.tables.proofs.Calls.{into_numbers, head_at, row_head_size, values_at}
use Rattle.tables.proofs.IntoLaws.{into_accepted}
use Rattle.records.specs.Records.{row_of, rows_of, records_of, no_record, checked_records, records_after, row_asking, row_asking_in, rows_given}
use Rattle.records.specs.Records.{row_asked_numbers, row_asked_tunes, row_numbers, row_tunes}
use Rattle.records.proofs.RecordsLaws.{RecordsTold, row_lent, row_beyond}

-- The numbers are the paper's
pub records_numbers : (file patterns instruments : List ℕ) (records : List SampleRow) {answer : Result Module Refusal}
    → answer ≡ outcome code_module (checked_records file patterns instruments records)
    → verdict_numbers answer ≡ check_into_numbers (room_with patterns instruments (rows_of records)) file
records_numbers file patterns instruments records met = into_numbers (room_with patterns instruments (rows_of records)) file met

numbers_same : (answer : Answer paper.SampleRow) → row_asked_numbers (outcome code_row answer) ≡ row_numbers answer
numbers_same (gives row) = refl
numbers_same (refuses r) = refl

tunes_same : (answer : Answer paper.SampleRow) → row_asked_tunes (outcome code_row answer) ≡ row_tunes answer
tunes_same (gives row) = refl
tunes_same (refuses r) = refl

-- The data of the row that is given back: the same question as by its number
asks_given : (file : List ℕ) (rows : List paper.SampleRow) (number : ℕ)
    → asking_rows file (rows_given (outcome code_row (row_asking_in rows number))) 0 ≡ asking_rows file rows number
unfolding asking row_asking checked ensure ◌>>◌
asks_given file rows number = go (leb (number + 1) (length rows)) refl
  where
    go : (b : Bool) → leb (number + 1) (length rows) ≡ b → asking_rows file (rows_given (outcome code_row (row_asking_in rows number))) 0 ≡ asking_rows file rows number
    go true q = rw q
    go false q = rw q

module _ (records : List SampleRow) (number : ℕ) {answer : Result SampleRow Refusal} (met : answer ≡ outcome code_row (row_asking_in (rows_of records) number)) where
  pub row_numbers_lem : row_asked_numbers answer ≡ row_numbers (row_asking_in (rows_of records) number)
  row_numbers_lem = ap row_asked_numbers met ∙ numbers_same (row_asking_in (rows_of records) number)

  pub row_tunes_lem : row_asked_tunes answer ≡ row_tunes (row_asking_in (rows_of records) number)
  row_tunes_lem = ap row_asked_tunes met ∙ tunes_same (row_asking_in (rows_of records) number)

  -- A row lent is given as it stands, and 16 else
  pub row_given : number < length records → answer ≡ Ok (get_or records number no_record)
  row_given low = met ∙ sym (row_lent records number low)

  pub row_refused : length records ≤ number → answer ≡ Err (code_refusal (16 at 0))
  row_refused high = met ∙ sym (row_beyond records number high)

  -- What is asked with the row that was given back is asked by its number: of its stretch, and of the number that tells 0 from 16
  asked_by_number : (file : List ℕ) → asking_rows file (rows_given answer) 0 ≡ asking_rows file (rows_of records) number
  asked_by_number file = ap (λ (row : Result SampleRow Refusal). asking_rows file (rows_given row) 0) met ∙ asks_given file (rows_of records) number

  pub stretch_by_number : (file : List ℕ) {stretch : List ℕ} → stretch ≡ stretch_of file (asking_rows file (rows_given answer) 0)
      → stretch ≡ stretch_of file (asking_rows file (rows_of records) number)
  stretch_by_number file told = told ∙ ap (stretch_of file) (asked_by_number file)

  pub refusal_by_number : (file : List ℕ) {refusal : ℕ} → refusal ≡ number_of (asking_rows file (rows_given answer) 0)
      → refusal ≡ number_of (asking_rows file (rows_of records) number)
  refusal_by_number file told = told ∙ ap (λ (a : Answer Stretch). number_of a) (asked_by_number file)

  -- No second answer fits
  pub row_once : (other : Result SampleRow Refusal) → other ≡ outcome code_row (row_asking_in (rows_of records) number) → answer ≡ other
  row_once other e = met ∙ sym e

-- nor another answer of the check, nor other tables or records
pub records_once : (file patterns instruments : List ℕ)
    (records : List SampleRow) {answer other : Result Module Refusal} {patterns₁ patterns₂ instruments₁ instruments₂ : List ℕ} {records₁ records₂ : List SampleRow}
    → RecordsTold file patterns instruments records answer patterns₁ instruments₁ records₁
    → RecordsTold file patterns instruments records other patterns₂ instruments₂ records₂
    → (answer ≡ other) × (patterns₁ ≡ patterns₂) × (instruments₁ ≡ instruments₂) × (records₁ ≡ records₂)
records_once file patterns instruments records t u = (
  t.answers ∙ sym u.answers,
  t.leaves_patterns ∙ sym u.leaves_patterns,
  t.leaves_instruments ∙ sym u.leaves_instruments,
  t.leaves_records ∙ sym u.leaves_records,
)

-- A refused check changes nothing
pub records_unchanged : (file patterns instruments : List ℕ)
    (records : List SampleRow) {answer : Result Module Refusal} {patterns₁ instruments₁ : List ℕ} {records₁ : List SampleRow} {r : reading.Refusal}
    → RecordsTold file patterns instruments records answer patterns₁ instruments₁ records₁ → checked_records file patterns instruments records ≡ refuses r
    → (patterns₁ ≡ patterns) × (instruments₁ ≡ instruments) × (records₁ ≡ records)
records_unchanged file patterns instruments records t e = (
  t.leaves_patterns ∙ ap (λ (a : Answer CheckReport). patterns_after a patterns) e,
  t.leaves_instruments ∙ ap (λ (a : Answer CheckReport). instruments_after a instruments) e,
  t.leaves_records ∙ ap (λ (a : Answer CheckReport). records_after a records) e,
)

-- The same answer as of the check into flat tables that have as many rows
pub same_answer : (file patterns instruments samples : List ℕ) (tunes : List ℤ) (records : List SampleRow)
    → min (length samples / sample_stride) (length tunes / tune_stride) ≡ length records
    → checked_into file (lent patterns instruments samples tunes) ≡ checked_records file patterns instruments records
same_answer file patterns instruments samples tunes records e =
    ap (λ (rows : ℕ). checking_into (room_beside (length patterns) (length instruments) rows) file) (e ∙ sym (length-map records row_of))

-- The records afterwards are the paper's rows afterwards
rows_records : (rows : List paper.SampleRow) → rows_of (records_of rows) ≡ rows
rows_records [] = refl
rows_records (r ∷ rows) = ap (λ (more : List paper.SampleRow). r ∷ more) (rows_records rows)

pub rows_in_front : (rows : List paper.SampleRow) (records : List SampleRow) → rows_of (in_front (records_of rows) records) ≡ in_front rows (rows_of records)
rows_in_front rows records =
    map-append row_of (records_of rows) (drop (length (records_of rows)) records)
    ∙ ap₂ (λ (front beyond : List paper.SampleRow). front ++ beyond) (rows_records rows)
    (sym (drop-map row_of (length (records_of rows)) records) ∙ ap (λ (n : ℕ). drop n (rows_of records)) (length-map rows code_row))

pub rows_after_lem : (answer : Answer CheckReport) (records : List SampleRow) → rows_of (records_after answer records) ≡ rows_after answer (rows_of records)
rows_after_lem (gives c) records = rows_in_front (sample_rows c.found) records
rows_after_lem (refuses r) records = refl

-- and the same rows as the flat tables': their numbers are those of the records, in the same order
module _ (c : CheckReport) (tables : Tables) (records : List SampleRow) where
  abbrev stored : List SampleRow
  stored = take (length (sample_rows c.found)) (records_after (gives c) records)

  stored_all : stored ≡ records_of (sample_rows c.found)
  stored_all =
      ap (λ (n : ℕ). take n (records_after (gives c) records)) (sym (length-map (sample_rows c.found) code_row))
      ∙ take-append_seam (records_of (sample_rows c.found)) (drop (length (records_of (sample_rows c.found))) records)

  pub same_numbers : (tables_after (gives c) tables).samples ≡ in_front (joined code_row_numbers stored) tables.samples
  unfolding tables_after
  same_numbers =
      ap (λ (written : List ℕ). in_front written tables.samples)
      (sym (ap (joined code_row_numbers) stored_all ∙ joined-map code_row_numbers code_row (sample_rows c.found)))

  pub same_tunes : (tables_after (gives c) tables).tunes ≡ in_front (joined tunes_of stored) tables.tunes
  unfolding tables_after
  same_tunes =
      ap (λ (written : List ℤ). in_front written tables.tunes) (sym (ap (joined tunes_of) stored_all ∙ joined-map tunes_of code_row (sample_rows c.found)))

-- Of the records that an accepted check leaves
module _ (file : List ℕ) (plain : Bytes file) (patterns instruments : List ℕ) (records : List SampleRow) (c : CheckReport)
    (accepted : checked_records file patterns instruments records ≡ gives c)
    (number : ℕ) (low : number < length (sample_rows c.found)) where
  found : AcceptedFile file c.found c.end
  found = accepted_files file c.found c.end plain (into_accepted _ file c accepted λ q room. q)

  abbrev pub after : List SampleRow
  after = records_after (checked_records file patterns instruments records) records

  -- each is that of its sample,
  pub stored_record : get_or after number no_record ≡ code_row (get_or (sample_rows c.found) number no_row)
  stored_record =
      ap (λ (answer : Answer CheckReport). get_or (records_after answer records) number no_record) accepted
      ∙ get_or-append (records_of (sample_rows c.found)) _ no_record number (omega (arith, low, length-map (sample_rows c.found) code_row))
      ∙ get_or-map code_row (sample_rows c.found) number no_row

  -- is handed back as the content's stretch,
  pub stored_asked : asking_rows file (rows_of after) number ≡ gives (stretch_at (sample_rows c.found) number)
  stored_asked =
      ap (λ (answer : Answer CheckReport). asking_rows file (rows_of (records_after answer records)) number) accepted
      ∙ ap (λ (rows : List paper.SampleRow). asking_rows file rows number) (rows_in_front (sample_rows c.found) records)
      ∙ found.asked.records (drop (length (sample_rows c.found)) (rows_of records)) number low

  -- decodes to the content's values, at its width, by the kind and the length of the header that is read at its header place, as far as its region
  -- goes
  abbrev stored_row : SampleRow
  stored_row = get_or after number no_record

  abbrev pub head_read : List ℕ
  head_read = head_bytes (row_head_size c number) (drop stored_row.header_place file)

  pub stored_decodes : decoding_by (kind_of head_read) (length_of head_read) stored_row.width (stretch_of file (asking_rows file (rows_of after) number))
      (length (values_at c number))
      ≡ gives (values_at c number)
  stored_decodes = rw (stored_record, stored_asked) (decodes_at file c.found c.end found number low (length (values_at c number)) (omega arith))

  -- and whole in a normal module,
  pub stored_whole : c.found.0.kind ≡ normal → (k : ℕ) → k < least_head → byte_at k head_read ≡ byte_at (stored_row.header_place + k) file
  stored_whole q k l = rw stored_record (normal-byte file c.found c.end found number low q k l)

  -- with its header's loop, in samples, within these values.
  pub stored_loops : LoopReads (head_at c number) stored_row.width stored_row.loop_kind stored_row.loop_start stored_row.loop_length
      × (stored_row.loop_start + stored_row.loop_length ≤ length (values_at c number))
  stored_loops = rw stored_record (loop_at file c.found c.end found number low)
