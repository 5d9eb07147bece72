-- A sample's row in the file, and the search for it. Assumes nothing.
use Prim.Native.Nat.{ℕ, zero, suc, ◌+◌, ◌-◌, ◌≤◌, ◌<◌}
use mathlib.Core.Bool.{Bool, true, false, cond}
use mathlib.Core.List.{List, ◌∷◌, ◌++◌}
use mathlib.Core.Path.{◌≡◌, refl, sym, ap, ◌∙◌}
use native.Mathlib.Numerals.{add-one}
use native.Mathlib.Omega.{arith}
use lib.IntN.{ℤ}
use lib.ListN.{length, get_or, drop, length-drop}
use lib.Seq.{drop-cons, drop-drop}
use Rattle.xm.specs.Number.{Bytes}
use Rattle.xm.specs.Got.{Got, got, refused, AllHold, list_in}
use Rattle.xm.specs.Format.{joined}
use Rattle.xm.specs.Header.{kind_at}
use Rattle.xm.specs.Sample.{head_bytes, in_samples, data_size}
use Rattle.xm.specs.Instrument.{InstrumentFound, instrument_format, instrument_tests}
use Rattle.xm.specs.Module.{Found, file_most, read_file}
use Rattle.xm.specs.Table as paper
use Rattle.xm.specs.Table.{sample_row_at, sample_rows_in, sample_rows}
use Rattle.xm.specs.Asking.{no_row}
use Rattle.rows.specs.Accepted.{ReadsFrom, InstrumentsFrom}
use Rattle.rows.specs.Place.{data_before, data_start, InstrumentHeadStands, rows_from}
use Rattle.rows.specs.Sought.{Seeks, sought_from}
use Rattle.steps.specs.declared.instrument.InstrumentHead.{InstrumentHead}
use Rattle.rows.specs.declared.sample.SampleRow.{SampleRow}
use Rattle.rows.proofs.Reading.{accepted-small, some_accepted, reads_none}
use Rattle.rows.proofs.InstrumentLaws.{instrument_at, InstrumentStands, instruments_next}
use Rattle.rows.proofs.PlaceLoops.{left_start, left_room, left_on, left_end}

-- The row by its fields
pub row_path : {a a' b b' l l' w w' k k' s s' o o' : ℕ} {f f' n n' : ℤ} → a ≡ a' → b ≡ b' → l ≡ l' → w ≡ w' → k ≡ k' → s ≡ s' → o ≡ o' → f ≡ f' → n ≡ n'
    → ◌≡◌ {A = SampleRow}
    (record {
      header_place = a;
      data_place = b;
      length = l;
      width = w;
      loop_kind = k;
      loop_start = s;
      loop_length = o;
      finetune = f;
      relative_note = n;
    })
    (record {
      header_place = a';
      data_place = b';
      length = l';
      width = w';
      loop_kind = k';
      loop_start = s';
      loop_length = o';
      finetune = f';
      relative_note = n';
    })
row_path p q r t u v x y z = cc

-- A count in samples is no more than that in bytes
pub samples_few : (wide : Bool) (n : ℕ) → in_samples (cond wide 16 8) n ≤ n
samples_few true n = omega arith
samples_few false n = omega arith

-- The next sample that is left of an instrument lies in the file, and so does what is behind it
pub record SampleFits (file : List ℕ) (head size place : ℕ) : Type 0 where
  pub small : length file ≤ file_most
  pub bytes : place ≤ length file
  pub next_head : head + size ≤ length file
  pub next_bytes : place + data_size (head_bytes size (drop head file)) ≤ length file

-- The row of the next sample that is left of an instrument
rows_step : (left size head bytes_place : ℕ) (s : List ℕ) → 0 < left
    → rows_from left size head bytes_place s
    ≡ sample_row_at head bytes_place (head_bytes size s) ∷ rows_from (left - 1) size (head + size) (bytes_place + data_size (head_bytes size s)) (drop size s)
unfolding rows_from
rows_step zero size head bytes_place s l = absurd (omega arith)
rows_step (suc left) size head bytes_place s l = let z : suc left - 1 ≡ left = omega arith in rw z

-- The rows of a file are those of its instruments
pub rows_in : (g : Got Found) → list_in sample_rows g ≡ joined sample_rows_in (list_in (λ (found : Found). found.1.1) g)
rows_in (got found end) = refl
rows_in (refused r) = refl

-- Where a row is to come, there is an instrument
pub some_instrument : {R : Type 0} (file : List ℕ) → length file ≤ file_most → Bytes file → {count place end : ℕ} {parts : List InstrumentFound}
    → ReadsFrom (instrument_format (kind_at file)) tt file count place parts end
    → 0 < length (joined sample_rows_in parts)
    → ((i : InstrumentFound) (n : ℕ) (more : List InstrumentFound) → InstrumentStands file place i n → parts ≡ i ∷ more
    → ReadsFrom (instrument_format (kind_at file)) tt file (count - 1) (place + n) more end → R) → R
some_instrument file small bytes {count = zero} r l k =
    absurd (omega (arith, l, ap (λ (l : List InstrumentFound). length (joined sample_rows_in l)) (reads_none (instrument_format (kind_at file)) tt file r).0))
some_instrument file small bytes {count = suc count} r l k = instruments_next file small bytes r (omega arith) λ i n more ei s ep rest. k i n more s ep rest

module _ (file : List ℕ) (number : ℕ) (some : number < length (list_in sample_rows (read_file file))) (bytes : Bytes file) where
  abbrev all : List paper.SampleRow
  all = list_in sample_rows (read_file file)

  pub seeks_small : length file ≤ file_most
  seeks_small = accepted-small file (some_accepted sample_rows (read_file file) some)

  pub seeks_start : {place : ℕ} → InstrumentsFrom file place → Seeks file (sought_from place)
  unfolding data_before rows_from
  seeks_start {place} from =
      let inside : place ≤ length file =
      some_instrument file seeks_small bytes from.reads (omega (arith, some, ap length (rows_in (read_file file)))) λ i n more s ep rest.
      omega (arith, s.inside) in
      record {
        behind = place;
        here = record { same = omega arith; fits = omega arith; inside = inside };
        count = _;
        parts = _;
        end = from.end;
        reads = from.reads;
        same = rows_in (read_file file);
      }

  module _ {left head size place : ℕ} (w : Seeks file (record { number = number; left = left; head = head; head_size = size; data_place = place })) where
    -- with a sample left, the row sought is its
    module _ (l : 0 < left) where
      abbrev found : paper.SampleRow
      found = sample_row_at head place (head_bytes size (drop head file))

      both : get_or all number no_row ∷ drop (suc number) all
          ≡ found ∷ rows_from (left - 1) size (head + size) (place + data_size (head_bytes size (drop head file))) (drop size (drop head file))
          ++ joined sample_rows_in w.parts
      both =
          sym (drop-cons all number no_row some)
          ∙ w.same
          ∙ ap (λ (rows : List paper.SampleRow). rows ++ joined sample_rows_in w.parts) (rows_step left size head place (drop head file) l)

      pub seeks_fits : SampleFits file head size place
      seeks_fits =
          let room = left_room file size w.behind w.here l in
          let next = left_on file size w.behind w.here l refl in
          record {
            small = seeks_small;
            bytes = omega (arith, w.here.same, w.here.inside);
            next_head = room;
            next_bytes = omega (arith, next.same, next.inside);
          }

      pub seeks_found : get_or all number no_row ≡ found
      seeks_found = ap (λ (rows : List paper.SampleRow). get_or rows 0 no_row) both

      pub seeks_after : {place' : ℕ} → place' ≡ place + data_size (head_bytes size (drop head file))
          → Seeks file (record { number = number + 1; left = left - 1; head = head + size; head_size = size; data_place = place' })
      seeks_after e = record {
        behind = w.behind;
        here = rw e (left_on file size w.behind w.here l refl);
        count = w.count;
        parts = w.parts;
        end = w.end;
        reads = w.reads;
        same = rw (add-one number, e, ← drop-drop size head file) (ap (drop 1) both);
      }

    -- with none left, it is one of the next instrument's or of a later one's
    module _ (z : left ≡ 0) where
      rest_same : drop number all ≡ joined sample_rows_in w.parts
      unfolding rows_from
      rest_same = rw z at w.same

      seeks_next : {R : Type 0}
          → ((i : InstrumentFound) (n : ℕ) (more : List InstrumentFound) → InstrumentStands file place i n → w.parts ≡ i ∷ more
          → ReadsFrom (instrument_format (kind_at file)) tt file (w.count - 1) (place + n) more w.end → R)
          → R
      seeks_next k =
          let reads : ReadsFrom (instrument_format (kind_at file)) tt file w.count place w.parts w.end =
          rw (left_end file size w.behind w.here z) w.reads in
          some_instrument file seeks_small bytes reads (omega (arith, some, ap length rest_same, length-drop number all)) k

      pub seeks_tests : AllHold (instrument_tests (kind_at file) place (drop place file))
      seeks_tests = seeks_next λ i n more s ep rest. s.tests

      module _ {x : InstrumentHead} (e : x ≡ instrument_at file place) where
        pub seeks_stands : InstrumentHeadStands file x
        seeks_stands = seeks_next λ i n more s ep rest. rw e s.stands

        pub seeks_on : Seeks file (record { number = number; left = x.samples; head = x.heads; head_size = x.head_size; data_place = data_start x })
        seeks_on = seeks_next λ i n more s ep rest. rw e (record {
          behind = place + n;
          here = rw s.next (left_start file (instrument_at file place) s.stands);
          count = w.count - 1;
          parts = more;
          end = w.end;
          reads = rest;
          same = rest_same ∙ ap (joined sample_rows_in) ep ∙ ap (λ (rows : List paper.SampleRow). rows ++ joined sample_rows_in more) s.rows;
        })

        pub seeks_less : length file - data_start x < length file - place
        seeks_less = seeks_next λ i n more s ep rest. omega (arith, ap InstrumentHead.heads e, s.behind, seeks_stands.inside)
