-- The laws that storing the records, and asking with a row read back, rest on. Assumes nothing.
use Prim.Native.Nat.{ℕ, zero, suc, ◌+◌, ◌≤◌, ◌<◌}
use mathlib.Core.Bool.{Bool, true, false}
use mathlib.Core.List.{List, [], ◌∷◌}
use mathlib.Core.Path.{◌≡◌, refl, sym, ap, ap₂, ◌∙◌}
use native.Mathlib.Numerals.{add-one}
use native.Mathlib.Omega.{arith}
use lib.ListN.{length, get_or, set, take, drop, length-map, length-append, length-take, length-drop, get_or-map}
use lib.Seq.{take_all}
use lib.Dec.{ltb}
use borrow.Author.Tests.{ltb-true, ltb-false}
use Rattle.std.specs.Prelude.{Option, Some, None, Result, Ok, Err}
use Rattle.std.specs.Option.{ok_or, option_copied}
use Rattle.std.specs.Slice.{IsItemAt}
use denote.Ref.{Bor}
use Rattle.std.specs.List.{slice_get}
use Rattle.std.proofs.lemmas.Option.{slice_get-get_or, slice_get_past, slice_get_read}
use Rattle.xm.specs.Got.{Got, ◌at◌, list_in}
use Rattle.xm.specs.Answer.{Answer, gives, refuses, in_front}
use Rattle.xm.specs.Module.{Found, read_file}
use Rattle.xm.specs.Table.{CheckReport, sample_rows, checking_into}
use Rattle.xm.specs.Table as paper
use Rattle.xm.specs.Asking.{no_row, asking_rows}
use Rattle.xm.proofs.Got.{pass}
use Rattle.xm.proofs.Answer.{answer_gives, answer_refuses, tests_fail}
use Rattle.refusal.specs.Refusal.{code_refusal, outcome}
use Rattle.refusal.specs.declared.Refusal.{Refusal}
use Rattle.walk.specs.File.{code_module}
use Rattle.walk.specs.declared.Module.{Module}
use Rattle.tables.specs.Into.{room_beside, patterns_after, instruments_after}
use Rattle.rows.specs.Place.{code_row}
use Rattle.rows.specs.declared.sample.SampleRow.{SampleRow}
use Rattle.asking.specs.Ask.{code_stretch}
use Rattle.asking.proofs.AskLaws.{ask_unlent}
use Rattle.tables.proofs.VerdictLaws.{never, same_module}
use Rattle.tables.proofs.IntoLaws.{into_accepted}
use Rattle.records.specs.Records.{row_of, rows_of, records_of, no_record, records_in, checked_records, records_after, row_asking, row_asking_in, rows_given}

-- One more record is stored
module _ {A : Type 0} where
  pub stored_one : (rows lent : List A) (i : ℕ) (d : A) → i < length rows → i < length lent
      → set (in_front (take i rows) lent) i (get_or rows i d) ≡ in_front (take (suc i) rows) lent
  stored_one [] lent i d l m = absurd (omega arith)
  stored_one (r ∷ rows) [] i d l m = absurd (omega arith)
  stored_one (r ∷ rows) (y ∷ lent) zero d l m = refl
  stored_one (r ∷ rows) (y ∷ lent) (suc i) d l m = ap (λ (more : List A). r ∷ more) (stored_one rows lent i d (omega arith) (omega arith))

  pub stored_length_lem : (rows lent : List A) (i : ℕ) → i ≤ length lent → length (in_front (take i rows) lent) ≡ length lent
  stored_length_lem rows lent i l =
      omega (arith, length-append (take i rows) (drop (length (take i rows)) lent), length-drop (length (take i rows)) lent, length-take i rows)

-- The records of a file, by number
pub records_length : (file : List ℕ) → length (records_in file) ≡ length (list_in sample_rows (read_file file))
records_length file = length-map (list_in sample_rows (read_file file)) code_row

pub record_is : (file : List ℕ) (number : ℕ) → code_row (get_or (list_in sample_rows (read_file file)) number no_row) ≡ get_or (records_in file) number no_record
record_is file number = sym (get_or-map code_row (list_in sample_rows (read_file file)) number no_row)

-- The record of the next number is stored
pub stored_next : (file : List ℕ) (lent : List SampleRow) (i : ℕ) {row : SampleRow} {held : List SampleRow}
    → row ≡ code_row (get_or (list_in sample_rows (read_file file)) i no_row)
    → held ≡ in_front (take i (records_in file)) lent
    → i < length (records_in file)
    → i < length lent
    → set held i row ≡ in_front (take (i + 1) (records_in file)) lent
stored_next file lent i e h l m =
    ap₂ (λ (held : List SampleRow) (row : SampleRow). set held i row) h (e ∙ record_is file i)
    ∙ stored_one (records_in file) lent i no_record l m
    ∙ ap (λ (j : ℕ). in_front (take j (records_in file)) lent) (sym (add-one i))

-- A check beside the records: what it counts is there and has room, and so many records stored are the records afterwards
module _ (file patterns instruments : List ℕ) (lent : List SampleRow) where
  abbrev beside : Answer CheckReport
  beside = checking_into (room_beside (length patterns) (length instruments) (length lent)) file

  room_same : beside ≡ checked_records file patterns instruments lent
  room_same = ap (λ (rows : ℕ). checking_into (room_beside (length patterns) (length instruments) rows) file) (sym (length-map lent row_of))

  -- What the call answers and leaves
  pub record RecordsTold (v : Result Module Refusal) (patterns' instruments' : List ℕ) (lent' : List SampleRow) : Type 0 where
    pub answers : v ≡ outcome code_module (checked_records file patterns instruments lent)
    pub leaves_patterns : patterns' ≡ patterns_after (checked_records file patterns instruments lent) patterns
    pub leaves_instruments : instruments' ≡ instruments_after (checked_records file patterns instruments lent) instruments
    pub leaves_records : lent' ≡ records_after (checked_records file patterns instruments lent) lent

  told : {v : Result Module Refusal} {patterns' instruments' : List ℕ} {lent' : List SampleRow}
      → v ≡ outcome code_module beside → patterns' ≡ patterns_after beside patterns → instruments' ≡ instruments_after beside instruments
      → lent' ≡ records_after beside lent → RecordsTold v patterns' instruments' lent'
  told e p i s = record {
    answers = e ∙ ap (outcome code_module) room_same;
    leaves_patterns = p ∙ ap (λ (a : Answer CheckReport). patterns_after a patterns) room_same;
    leaves_instruments = i ∙ ap (λ (a : Answer CheckReport). instruments_after a instruments) room_same;
    leaves_records = s ∙ ap (λ (a : Answer CheckReport). records_after a lent) room_same;
  }

  -- accepted, as many as were counted
  module _ {x : Module} (e : Ok x ≡ outcome code_module beside) where
    pub count_fits : (x.samples ≤ length (records_in file)) × (x.samples ≤ length lent)
    count_fits = go beside refl e
      where
        go : (a : Answer CheckReport) → beside ≡ a → Ok x ≡ outcome code_module a → (x.samples ≤ length (records_in file)) × (x.samples ≤ length lent)
        go (gives c) q v =
            into_accepted _ file c q λ found room.
            let many = ap Module.samples (same_module v) in (
              omega (arith, many, records_length file, ap (λ (g : Got Found). length (list_in sample_rows g)) found),
              omega (arith, many, room.2),
            )
        go (refuses r) q v = never v

    pub told_stored : {patterns' instruments' : List ℕ} {lent' : List SampleRow}
        → patterns' ≡ patterns_after beside patterns → instruments' ≡ instruments_after beside instruments
        → lent' ≡ in_front (take x.samples (records_in file)) lent → RecordsTold (Ok x) patterns' instruments' lent'
    told_stored p i s = told e p i (s ∙ go beside refl e)
      where
        go : (a : Answer CheckReport) → beside ≡ a → Ok x ≡ outcome code_module a → in_front (take x.samples (records_in file)) lent ≡ records_after a lent
        go (gives c) q v = into_accepted _ file c q λ found room.
            let all : take (length (sample_rows c.found)) (records_of (sample_rows c.found)) ≡ records_of (sample_rows c.found) =
            take_all (length (sample_rows c.found)) (records_of (sample_rows c.found)) (omega (arith, length-map (sample_rows c.found) code_row)) in
            ap₂ (λ (n : ℕ) (g : Got Found). in_front (take n (records_of (list_in sample_rows g))) lent) (ap Module.samples (same_module v)) found
            ∙ ap (λ (rows : List SampleRow). in_front rows lent) all
        go (refuses r) q v = never v

-- A row asked for, by the test that is made
module _ (records : List SampleRow) (number : ℕ) where
  pub row_lent : number < length records → Ok (get_or records number no_record) ≡ outcome code_row (row_asking_in (rows_of records) number)
  unfolding row_asking
  row_lent h =
      sym (
      ap (outcome code_row) (answer_gives _ (pass _ (omega (arith, length-map records row_of), tt) refl))
      ∙ ap (λ (row : paper.SampleRow). Ok (code_row row)) (get_or-map row_of records number no_record))

  pub row_beyond : length records ≤ number → Err (code_refusal (16 at 0)) ≡ outcome code_row (row_asking_in (rows_of records) number)
  unfolding row_asking
  row_beyond h = sym (ap (outcome code_row) (answer_refuses _ (tests_fail _ _ (refl, tt) (λ all. omega (arith, all.0, length-map records row_of)))))

-- as a look-up, by what `get` gives
looked_up : {X : Type 0} (xs : List X) (i : ℕ) (o : Option (Bor X)) → IsItemAt xs i o → option_copied o ≡ slice_get xs i
looked_up xs i None h = sym (slice_get_past xs i h.3)
looked_up xs i (Some x) h = sym (slice_get_read xs (length xs) i x.now refl h.3.0 h.1)

pub row_asked : (records : List SampleRow) (number : ℕ) (o : Option (Bor SampleRow)) → IsItemAt records number o
    → ok_or (option_copied o) (code_refusal (16 at 0)) ≡ outcome code_row (row_asking_in (rows_of records) number)
row_asked records number o h = ap (λ (row : Option SampleRow). ok_or row (code_refusal (16 at 0))) (looked_up records number o h) ∙ go (ltb number (length records)) refl
  where
    go : (b : Bool) → ltb number (length records) ≡ b
        → ok_or (slice_get records number) (code_refusal (16 at 0)) ≡ outcome code_row (row_asking_in (rows_of records) number)
    go true e = rw (slice_get-get_or records number no_record (ltb-true _ _ e)) (row_lent records number (ltb-true _ _ e))
    go false e = rw (slice_get_past records number (ltb-false _ _ e)) (row_beyond records number (ltb-false _ _ e))

-- None was given back, so none is asked for
pub none_given : (file : List ℕ) {asked : Result SampleRow Refusal} {refusal : Refusal} → asked ≡ Err refusal
    → Err (code_refusal (16 at 0)) ≡ outcome code_stretch (asking_rows file (rows_given asked) 0)
none_given file e = rw e (sym (ask_unlent file 0 0 (record { place = no_row.data_place; length = no_row.size }) (omega arith)))
