-- The loops that fill the tables: the numbers of the rows that are left are still to be laid. Assumes nothing.
use Prim.Native.Nat.{ℕ, ◌+◌, ◌-◌, ◌*◌, ◌≤◌, ◌<◌}
use mathlib.Core.Bool.{true}
use mathlib.Core.List.{List, [], ◌∷◌, ◌++◌, map}
use mathlib.Core.Path.{◌≡◌, refl, sym, ap, ap₂, ◌∙◌}
use native.Mathlib.Numerals.{add-one}
use native.Mathlib.Omega.{arith}
use lib.IntN.{ℤ}
use lib.ListN.{length, get_or, drop, length-append, drop_of_length-le}
use lib.Seq.{drop-cons}
use Rattle.xm.specs.Number.{Bytes}
use Rattle.xm.specs.Got.{Got, got, refused, AllHold, list_in, accepted}
use Rattle.xm.specs.Format.{joined}
use Rattle.xm.specs.Answer.{in_front}
use Rattle.xm.specs.Lay.{lay}
use Rattle.xm.specs.Header.{instruments_at, patterns_at, header_end, kind_at}
use Rattle.xm.specs.PatternInFile.{PatternFound}
use Rattle.xm.specs.Instrument.{samples_most, instrument_tests, InstrumentFound, instrument_format}
use Rattle.xm.specs.Module.{Found, file_most, read_file}
use Rattle.xm.specs.Table.{SampleRow, pattern_row, pattern_rows, sample_count, instrument_rows_from, instrument_rows, sample_rows, pattern_numbers}
use Rattle.xm.specs.Table.{instrument_numbers, sample_numbers, sample_tunes, sample_stride, tune_stride}
use Rattle.xm.specs.Asking.{no_row}
use Rattle.xm.proofs.Lay.{Laid, laid_none, laid_done}
use Rattle.slices.proofs.Stores.{laid_lay}
use Rattle.rows.specs.Accepted.{ReadsFrom, InstrumentsFrom}
use Rattle.steps.specs.Step.{pattern_head}
use Rattle.rows.specs.Place.{data_end, InstrumentHeadStands}
use Rattle.steps.specs.declared.pattern.PatternHead.{PatternHead}
use Rattle.steps.specs.declared.instrument.InstrumentHead.{InstrumentHead}
use Rattle.rows.proofs.Reading.{accepted-small, accepted-header, some_accepted, reads_none}
use Rattle.rows.proofs.InstrumentLaws.{instrument_at, InstrumentStands, instruments_next}
use Rattle.rows.proofs.PlaceLoops.{Skipping, PatternFits, skipping_start, skipping_left, skipping_on, skipping_end}
use Rattle.rows.proofs.SampleLaws.{rows_in, some_instrument}

-- There is room for a piece that is still to be laid
laid_room : {A : Type 0} {lent goal out : List A} {to : ℕ} {rest : List A} → Laid lent goal out to rest → (w rest' : List A)
    → rest ≡ w ++ rest' → to + length w ≤ length out
laid_room l w rest' e = omega (arith, l.room, ap length e, length-append w rest')

-- Patterns
patterns_in : (g : Got Found) → list_in pattern_rows g ≡ map pattern_row (list_in (λ (found : Found). found.1.0) g)
patterns_in (got found end) = refl
patterns_in (refused r) = refl

abbrev pub pattern_goal : (file : List ℕ) → List ℕ
pattern_goal file = joined pattern_numbers (list_in pattern_rows (read_file file))

pub record FillingPatterns (file lent out : List ℕ) (left place to : ℕ) : Type 0 where
  pub parts : List PatternFound
  pub skipping : Skipping file left place parts
  pub laid : Laid lent (pattern_goal file) out to (joined pattern_numbers (map pattern_row parts))

module _ (file lent : List ℕ) where
  pub patterns_start : accepted (read_file file) ≡ true → length (pattern_goal file) ≤ length lent → {left : ℕ} → left ≡ patterns_at file
      → FillingPatterns file lent lent left (header_end file) 0
  patterns_start h room e = record {
    parts = list_in (λ (found : Found). found.1.0) (read_file file);
    skipping = skipping_left file (skipping_start file h) e;
    laid = rw (← patterns_in (read_file file)) (laid_none lent (pattern_goal file) room);
  }

  module _ {out : List ℕ} {left place to : ℕ} (w : FillingPatterns file lent out left place to) where
    pub patterns_done : left ≡ 0 → out ≡ in_front (pattern_goal file) lent
    patterns_done z = laid_done w.laid (ap (λ (l : List PatternFound). joined pattern_numbers (map pattern_row l)) (skipping_end file w.skipping z).0)

    module _ (l : 0 < left) {x : PatternHead} (e : x ≡ pattern_head place (drop place file)) where
      pub patterns_fit : PatternFits file x
      patterns_fit = skipping_on file w.skipping l e λ i more ep es en fits rest. fits

      row_first : {i : PatternFound} {more : List PatternFound} → w.parts ≡ i ∷ more → pattern_numbers (pattern_row i) ≡ x.place ∷ x.size ∷ x.rows ∷ []
          → joined pattern_numbers (map pattern_row w.parts) ≡ (x.place ∷ x.size ∷ x.rows ∷ []) ++ joined pattern_numbers (map pattern_row more)
      row_first {i} {more} ep en =
          ap (λ (l : List PatternFound). joined pattern_numbers (map pattern_row l)) ep
          ∙ ap (λ (l : List ℕ). l ++ joined pattern_numbers (map pattern_row more)) en

      pub patterns_room : to + 3 ≤ length out
      patterns_room =
          skipping_on file w.skipping l e λ i more ep es en fits rest. laid_room w.laid (x.place ∷ x.size ∷ x.rows ∷ []) _ (row_first ep en)

      pub patterns_on : {new : List ℕ} {left' to' : ℕ} → new ≡ lay out to (x.place ∷ x.size ∷ x.rows ∷ []) → left' ≡ left - 1 → to' ≡ to + 3
          → FillingPatterns file lent new left' (x.place + x.size) to'
      patterns_on n q z = skipping_on file w.skipping l e λ i more ep es en fits rest.
          record {
            parts = more;
            skipping = skipping_left file rest q;
            laid = laid_lay w.laid (x.place ∷ x.size ∷ x.rows ∷ []) _ (row_first ep en) n z;
          }

-- Instruments
instruments_in : (g : Got Found) → list_in instrument_rows g ≡ instrument_rows_from 0 (list_in (λ (found : Found). found.1.1) g)
instruments_in (got found end) = refl
instruments_in (refused r) = refl

abbrev pub instrument_goal : (file : List ℕ) → List ℕ
instrument_goal file = joined instrument_numbers (list_in instrument_rows (read_file file))

pub record FillingInstruments (file lent out : List ℕ) (left place first to : ℕ) : Type 0 where
  pub small : length file ≤ file_most
  pub parts : List InstrumentFound
  pub end : ℕ
  pub reads : ReadsFrom (instrument_format (kind_at file)) tt file left place parts end
  pub few : first + samples_most * left ≤ samples_most * 128
  pub laid : Laid lent (instrument_goal file) out to (joined instrument_numbers (instrument_rows_from first parts))

module _ (file lent : List ℕ) where
  pub instruments_start : accepted (read_file file) ≡ true → {place : ℕ} → InstrumentsFrom file place → length (instrument_goal file) ≤ length lent
      → {left : ℕ} → left ≡ instruments_at file → FillingInstruments file lent lent left place 0 0
  instruments_start h from room e = record {
    small = accepted-small file h;
    parts = list_in (λ (found : Found). found.1.1) (read_file file);
    end = from.end;
    reads = rw e from.reads;
    few = omega (arith, e, (accepted-header file h).1.1.1.1.1.1.1.0);
    laid = rw (← instruments_in (read_file file)) (laid_none lent (instrument_goal file) room);
  }

  module _ {out : List ℕ} {left place first to : ℕ} (w : FillingInstruments file lent out left place first to) where
    pub instruments_done : left ≡ 0 → out ≡ in_front (instrument_goal file) lent
    instruments_done z =
        laid_done w.laid
        (ap (λ (l : List InstrumentFound). joined instrument_numbers (instrument_rows_from first l))
        (reads_none (instrument_format (kind_at file)) tt file (rw z at w.reads)).0)

    module _ (bytes : Bytes file) (l : 0 < left) where
      pub instruments_tests : AllHold (instrument_tests (kind_at file) place (drop place file))
      instruments_tests = instruments_next file w.small bytes w.reads l λ i n more ei s ep rest. s.tests

      pub instruments_place : place ≤ length file
      instruments_place = instruments_next file w.small bytes w.reads l λ i n more ei s ep rest. omega (arith, s.inside)

      module _ {x : InstrumentHead} (e : x ≡ instrument_at file place) where
        pub instruments_stands : InstrumentHeadStands file x
        instruments_stands = instruments_next file w.small bytes w.reads l λ i n more ei s ep rest. rw e s.stands

        instrument_first : {i : InstrumentFound} {n : ℕ} {more : List InstrumentFound} → InstrumentStands file place i n → w.parts ≡ i ∷ more
            → joined instrument_numbers (instrument_rows_from first w.parts)
            ≡ (place ∷ x.samples ∷ first ∷ []) ++ joined instrument_numbers (instrument_rows_from (first + x.samples) more)
        instrument_first {i} {n} {more} s ep =
            let k : sample_count i ≡ x.samples = s.counted ∙ sym (ap InstrumentHead.samples e) in
            ap (λ (l : List InstrumentFound). joined instrument_numbers (instrument_rows_from first l)) ep
            ∙ ap₂ (λ (p n : ℕ). (p ∷ n ∷ first ∷ []) ++ joined instrument_numbers (instrument_rows_from (first + n) more)) s.starts k

        pub instruments_room : to + 3 ≤ length out
        instruments_room =
            instruments_next file w.small bytes w.reads l λ i n more ei s ep rest.
            laid_room w.laid (place ∷ x.samples ∷ first ∷ []) _ (instrument_first s ep)

        pub instruments_on : {new : List ℕ} {there later left' to' : ℕ} → new ≡ lay out to (place ∷ x.samples ∷ first ∷ []) → there ≡ data_end file x
            → later ≡ first + x.samples → left' ≡ left - 1 → to' ≡ to + 3 → FillingInstruments file lent new left' there later to'
        instruments_on {there = there} n q f o z = instruments_next file w.small bytes w.reads l λ i m more ei s ep rest.
            let behind : there ≡ place + m = q ∙ ap (data_end file) e ∙ sym s.next in
            record {
              small = w.small;
              parts = more;
              end = w.end;
              reads = rw (behind, o) rest;
              few = omega (arith, w.few, s.stands.few, ap InstrumentHead.samples e);
              laid = rw f (laid_lay w.laid (place ∷ x.samples ∷ first ∷ []) _ (instrument_first s ep) n z);
            }

-- Where there are samples, the first number of a filled table is the place where the instruments start
pub instruments_first : (file lent : List ℕ) → Bytes file → 0 < length (list_in sample_rows (read_file file))
    → InstrumentsFrom file (get_or (in_front (instrument_goal file) lent) 0 0)
instruments_first file lent bytes some =
    let h = some_accepted sample_rows (read_file file) some in
    let after = (skipping_start file h).after in
    some_instrument file (accepted-small file h) bytes after.reads (omega (arith, some, ap length (rows_in (read_file file)))) λ i n more s ep rest.
    rw (instruments_in (read_file file), ep, s.starts) after

-- Samples
pub record FillingSamples (rows : List SampleRow) (lent out : List ℕ) (tunes_lent tunes : List ℤ) (number : ℕ) : Type 0 where
  pub some : number ≤ length rows
  pub laid : Laid lent (joined sample_numbers rows) out (sample_stride * number) (joined sample_numbers (drop number rows))
  pub tuned : Laid tunes_lent (joined sample_tunes rows) tunes (tune_stride * number) (joined sample_tunes (drop number rows))

module _ (rows : List SampleRow) (lent : List ℕ) (tunes_lent : List ℤ) where
  pub samples_start : length (joined sample_numbers rows) ≤ length lent → length (joined sample_tunes rows) ≤ length tunes_lent
      → FillingSamples rows lent lent tunes_lent tunes_lent 0
  samples_start h t =
      record { some = omega arith; laid = laid_none lent (joined sample_numbers rows) h; tuned = laid_none tunes_lent (joined sample_tunes rows) t }

  module _ {out : List ℕ} {tunes : List ℤ} {number : ℕ} (w : FillingSamples rows lent out tunes_lent tunes number) where
    pub samples_done : length rows ≤ number → (out ≡ in_front (joined sample_numbers rows) lent) × (tunes ≡ in_front (joined sample_tunes rows) tunes_lent)
    samples_done h =
        let none = drop_of_length-le rows h in
        (laid_done w.laid (ap (joined sample_numbers) none), laid_done w.tuned (ap (joined sample_tunes) none))

    module _ (l : number < length rows) where
      abbrev row : SampleRow
      row = get_or rows number no_row

      first : drop number rows ≡ row ∷ drop (number + 1) rows
      first = rw (add-one number) (drop-cons rows number no_row l)

      pub samples_room : sample_stride * number + sample_stride ≤ length out
      samples_room = laid_room w.laid (sample_numbers row) _ (ap (joined sample_numbers) first)

      pub tunes_room : tune_stride * number + tune_stride ≤ length tunes
      tunes_room = laid_room w.tuned (sample_tunes row) _ (ap (joined sample_tunes) first)

      pub samples_on : {new : List ℕ} {new_tunes : List ℤ} → new ≡ lay out (sample_stride * number) (sample_numbers row)
          → new_tunes ≡ lay tunes (tune_stride * number) (sample_tunes row)
          → FillingSamples rows lent new tunes_lent new_tunes (number + 1)
      samples_on n t = record {
        some = omega arith;
        laid = laid_lay w.laid (sample_numbers row) _ (ap (joined sample_numbers) first) n (omega arith);
        tuned = laid_lay w.tuned (sample_tunes row) _ (ap (joined sample_tunes) first) t (omega arith);
      }
