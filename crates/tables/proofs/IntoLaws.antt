-- The check beside rows for samples, and the check into the tables: refused as the check is, refused for room, or accepted and filled. Assumes nothing.
use Prim.Native.Nat.{ℕ, ◌+◌, ◌/◌, ◌≤◌, ◌<◌, min}
use mathlib.Core.Bool.{Bool, true, false, cond}
use lib.Dec.{leb}
use mathlib.Core.List.{List, [], ◌∷◌}
use mathlib.Core.Path.{◌≡◌, refl, sym, ap, ap₂, ◌∙◌, subst}
use native.Mathlib.Nat.{min-le_left, min-le_right}
use native.Mathlib.Omega.{arith}
use lib.IntN.{ℤ}
use lib.ListN.{length, get_or, length-map, length-replicate, replicate, drop}
use Rattle.xm.specs.Number.{Bytes}
use Rattle.xm.specs.Got.{got, ◌at◌, Test, list_in, accepted}
use Rattle.xm.specs.Got as paper
use Rattle.xm.specs.Format.{joined}
use Rattle.xm.specs.Answer.{Answer, gives, refuses, in_front}
use Rattle.xm.specs.Header.{Header, channels_at, patterns_at, instruments_at, header_end, kind_at}
use Rattle.xm.specs.PatternInFile.{pattern_format}
use Rattle.xm.specs.Instrument.{InstrumentFound, instrument_format}
use Rattle.xm.specs.Module.{Found, read_file}
use Rattle.xm.specs.Table.{pattern_row, pattern_rows, sample_count, instrument_rows_from, instrument_rows, sample_rows, CheckReport, checked_as, checking}
use Rattle.xm.specs.Table.{checking_into}
use Rattle.xm.specs.Table.{Tables, Room, room_of, room_tests, tables_after, pattern_stride, instrument_stride, sample_stride, tune_stride, pattern_numbers}
use Rattle.xm.specs.Table.{instrument_numbers, sample_numbers, sample_tunes}
use Rattle.xm.specs.Demands.{HasRoom}
use Rattle.xm.proofs.Answer.{gives_bound, gives_passed, gives_same}
use Rattle.xm.proofs.Format.{joined_length, read_length}
use Rattle.xm.proofs.Demands.{tables_tell}
use Rattle.std.specs.Prelude.{Result, Ok, Err}
use Rattle.refusal.specs.Refusal.{code_refusal, refusal_at, outcome}
use Rattle.refusal.specs.declared.Refusal.{Refusal}
use Rattle.walk.specs.File.{code_module}
use Rattle.walk.specs.declared.Module.{Module}
use Rattle.xm.proofs.Got.{no_true}
use Rattle.refusal.specs.Test.{tested}
use Rattle.refusal.specs.declared.Cause.{Cause}
use Rattle.refusal.specs.declared.Cause.TheVariants.{NoRoom}
use Rattle.refusal.proofs.TestLaws.{tested_lem, tested_holds}
use Rattle.tables.specs.Into.{lent, room_beside, room_tests_of, patterns_after, instruments_after}
use Rattle.rows.specs.Accepted.{InstrumentsFrom}
use Rattle.rows.proofs.Reading.{file_reads}
use Rattle.tables.proofs.FillLaws.{instruments_first}
use Rattle.tables.proofs.VerdictLaws.{never, same_module, verdict_got, verdict_refused}

-- As many rows as the check counts
rows_from_lem : (first : ℕ) (is : List InstrumentFound) → length (instrument_rows_from first is) ≡ length is
rows_from_lem first [] = refl
rows_from_lem first (i ∷ is) = rw (rows_from_lem (first + sample_count i) is)

pub record Counted (found : Found) (x : Module) : Type 0 where
  pub patterns : length (pattern_rows found) ≡ x.patterns
  pub instruments : length (instrument_rows found) ≡ x.instruments
  pub samples : length (sample_rows found) ≡ x.samples

pub rows_counted : (file : List ℕ) (found : Found) (end : ℕ) → read_file file ≡ got found end → {x : Module}
    → Ok x ≡ outcome code_module (gives (checked_as found end)) → Counted found x
rows_counted file found end e {x} v =
    let w = file_reads file found end e in
    let same = same_module v in
    record {
      patterns =
          length-map found.1.0 pattern_row
          ∙ read_length pattern_format (replicate (patterns_at file) (channels_at file)) (header_end file)
          (drop (header_end file) file) found.1.0 _ w.patterns.reads
          ∙ length-replicate (patterns_at file) (channels_at file)
          ∙ sym (ap Module.patterns same ∙ ap Header.patterns w.header);
      instruments =
          rows_from_lem 0 found.1.1
          ∙ read_length (instrument_format (kind_at file)) (replicate (instruments_at file) tt) w.from (drop w.from file)
          found.1.1 _ w.instruments.reads
          ∙ length-replicate (instruments_at file) tt
          ∙ sym (ap Module.instruments same ∙ ap Header.instruments w.header);
      samples = sym (ap Module.samples same);
    }

-- Too little room is refused for that cause alone
no_room : (room : Room) (x : Module) {cause : Cause} → tested (room_tests_of room x) ≡ Err cause → cause ≡ NoRoom
no_room room x {cause} = go (leb x.patterns room.patterns) (leb x.instruments room.instruments) (leb x.samples room.samples)
  where
    go : (a b c : Bool) → cond a (cond b (cond c (Ok (tt {0})) (Err NoRoom)) (Err NoRoom)) (Err NoRoom) ≡ Err cause → cause ≡ NoRoom
    go false b c e = cc
    go true false c e = cc
    go true true false e = cc
    go true true true e = absurd (no_true (cc))

-- Accepted, a check into some room says what is found, and that there is room for it
module _ (room : Room) (file : List ℕ) where
  pub into_accepted : {R : Type 0} (c : CheckReport) → checking_into room file ≡ gives c
      → (read_file file ≡ got c.found c.end → HasRoom room c.found → R) → R
  unfolding checking_into
  into_accepted c e k =
      gives_bound _ (read_file file) _ e λ found end q d.
      gives_passed _ (room_tests room found) _ d λ h d.
      let same : checked_as found end ≡ c = gives_same d in
      let there : HasRoom room c.found = rw (← ap CheckReport.found same) (h.0, h.1.0, h.1.1.0) in
      k (q ∙ ap₂ got (ap CheckReport.found same) (ap CheckReport.end same)) there

-- Beside so many rows
module _ (file patterns instruments : List ℕ) (rows : ℕ) where
  abbrev into : Answer CheckReport
  into = checking_into (room_beside (length patterns) (length instruments) rows) file

  -- what a call answers, and what it leaves in the two tables
  pub record IntoTold (answer : Result Module Refusal) (patterns' instruments' : List ℕ) : Type 0 where
    pub answers : answer ≡ outcome code_module into
    pub leaves_patterns : patterns' ≡ patterns_after into patterns
    pub leaves_instruments : instruments' ≡ instruments_after into instruments

  told_refused : {r : paper.Refusal} → into ≡ refuses r → IntoTold (Err (code_refusal r)) patterns instruments
  told_refused e = record {
    answers = sym (ap (outcome code_module) e);
    leaves_patterns = sym (ap (λ (a : Answer CheckReport). patterns_after a patterns) e);
    leaves_instruments = sym (ap (λ (a : Answer CheckReport). instruments_after a instruments) e);
  }

  pub beside_refused : {v : Result Module Refusal} {f : Refusal} → v ≡ outcome code_module (checking file) → v ≡ Err f → IntoTold v patterns instruments
  beside_refused e told = verdict_refused file e told λ r q same. rw same (told_refused ((tables_tell file _).own_first r q))

  module _ {x : Module} (e : Ok x ≡ outcome code_module (checking file)) where
    told_found : {R : Type 0} → ((found : Found) (end : ℕ) → read_file file ≡ got found end → Ok x ≡ outcome code_module (gives (checked_as found end))
        → Counted found x → R) → R
    told_found k = verdict_got file e λ found end q v. k found end q v (rows_counted file found end q v)

    abbrev tests : List Test
    tests = room_tests_of (room_beside (length patterns) (length instruments) rows) x

    pub beside_cramped : {cause : Cause} → tested tests ≡ Err cause → IntoTold (Err (refusal_at cause 0)) patterns instruments
    beside_cramped f = told_found λ found end q v c.
        rw (no_room _ x f)
        (told_refused (((tables_tell file _).no_room_exactly found end q).1
        (λ h. no_true (cc (f, tested_lem tests (omega (arith, h.0, c.patterns), (omega (arith, h.1, c.instruments), (omega (arith, h.2, c.samples), tt))))))))

    room_for : tested tests ≡ Ok tt → (found : Found) → Counted found x → HasRoom (room_beside (length patterns) (length instruments) rows) found
    room_for f found c =
        let h = tested_holds tests f in (omega (arith, h.0, c.patterns), omega (arith, h.1.0, c.instruments), omega (arith, h.1.1.0, c.samples))

    -- there is room for every number, so that the tables can be filled
    pub record Roomy : Type 0 where
      pub accepts : accepted (read_file file) ≡ true
      pub for_patterns : length (joined pattern_numbers (list_in pattern_rows (read_file file))) ≤ length patterns
      pub for_instruments : length (joined instrument_numbers (list_in instrument_rows (read_file file))) ≤ length instruments

    pub beside_roomy : tested tests ≡ Ok tt → Roomy
    beside_roomy f = told_found λ found end q v c.
        let h = room_for f found c in
        record {
          accepts = rw q refl;
          for_patterns = rw q (omega (arith, h.0, joined_length pattern_stride pattern_numbers (λ row. refl) (pattern_rows found)));
          for_instruments = rw q (omega (arith, h.1, joined_length instrument_stride instrument_numbers (λ row. refl) (instrument_rows found)));
        }

    pub beside_filled : tested tests ≡ Ok tt → {patterns' instruments' : List ℕ}
        → patterns' ≡ in_front (joined pattern_numbers (list_in pattern_rows (read_file file))) patterns
        → instruments' ≡ in_front (joined instrument_numbers (list_in instrument_rows (read_file file))) instruments
        → IntoTold (Ok x) patterns' instruments'
    beside_filled f p i = told_found λ found end q v c.
        let a : into ≡ gives (checked_as found end) = (tables_tell file _).filled_else found end q (room_for f found c) in
        record {
          answers = v ∙ sym (ap (outcome code_module) a);
          leaves_patterns = p ∙ rw q refl ∙ sym (ap (λ (a : Answer CheckReport). patterns_after a patterns) a);
          leaves_instruments = i ∙ rw q refl ∙ sym (ap (λ (a : Answer CheckReport). instruments_after a instruments) a);
        }

-- Into the tables: beside the rows for samples that are lent as flat numbers, which stay to be filled
module _ (file patterns instruments samples : List ℕ) (tunes : List ℤ) where
  abbrev tables : Tables
  tables = lent patterns instruments samples tunes

  abbrev answer : Answer CheckReport
  answer = checking_into (room_of tables) file

  abbrev rows_lent : ℕ
  rows_lent = min (length samples / sample_stride) (length tunes / tune_stride)

  -- what a call answers, and what it leaves in the tables
  pub record ToldInto (v : Result Module Refusal) (left : Tables) : Type 0 where
    pub answers : v ≡ outcome code_module answer
    pub leaves : left ≡ tables_after answer tables

  lent_path : {a b c d e f : List ℕ} {g h : List ℤ} → a ≡ b → c ≡ d → e ≡ f → g ≡ h → lent a c e g ≡ lent b d f h
  lent_path p q r s = cc

  module _ {rows : ℕ} {v : Result Module Refusal} {patterns' instruments' : List ℕ} (n : rows ≡ rows_lent)
      (told : IntoTold file patterns instruments rows v patterns' instruments') where
    here : IntoTold file patterns instruments rows_lent v patterns' instruments'
    here = subst (λ (rows : ℕ). IntoTold file patterns instruments rows v patterns' instruments') n told

    pub into_refused : {f : Refusal} → v ≡ Err f → ToldInto v (lent patterns' instruments' samples tunes)
    unfolding tables_after
    into_refused refused = record { answers = here.answers; leaves = go answer refl }
      where
        go : (a : Answer CheckReport) → answer ≡ a → lent patterns' instruments' samples tunes ≡ tables_after answer tables
        go (gives c) q = never (sym (here.answers ∙ ap (outcome code_module) q) ∙ refused)
        go (refuses r) q = rw q (lent_path (here.leaves_patterns ∙ rw q refl) (here.leaves_instruments ∙ rw q refl) refl refl)

    module _ {x : Module} (is : v ≡ Ok x) where
      accepts : {R : Type 0} → ((c : CheckReport) → answer ≡ gives c → read_file file ≡ got c.found c.end → HasRoom (room_of tables) c.found
          → x.samples ≡ length (sample_rows c.found) → R) → R
      accepts {R} k = go answer refl
        where
          go : (a : Answer CheckReport) → answer ≡ a → R
          go (gives c) q =
              into_accepted (room_of tables) file c q λ found h. k c q found h (ap Module.samples (same_module (sym is ∙ here.answers ∙ ap (outcome code_module) q)))
          go (refuses r) q = never (sym is ∙ here.answers ∙ ap (outcome code_module) q)

      -- the instrument table tells where the samples are sought from, and there is room for every number of theirs
      pub record RoomyInto : Type 0 where
        pub start : 0 < x.samples → InstrumentsFrom file (get_or instruments' 0 0)
        pub count : x.samples ≡ length (list_in sample_rows (read_file file))
        pub for_samples : length (joined sample_numbers (list_in sample_rows (read_file file))) ≤ length samples
        pub for_tunes : length (joined sample_tunes (list_in sample_rows (read_file file))) ≤ length tunes

      pub into_roomy : Bytes file → RoomyInto
      into_roomy bytes = accepts λ c q found h n.
          let l = min-le_left (length samples / sample_stride) (length tunes / tune_stride) in
          let r = min-le_right (length samples / sample_stride) (length tunes / tune_stride) in
          record {
            start = λ some. rw (here.leaves_instruments, q) (rw found at (instruments_first file instruments bytes (rw found (omega (arith, some, n)))));
            count = rw found n;
            for_samples = rw found (omega (arith, h.2, l, joined_length sample_stride sample_numbers (λ row. refl) (sample_rows c.found)));
            for_tunes = rw found (omega (arith, h.2, r, joined_length tune_stride sample_tunes (λ row. refl) (sample_rows c.found)));
          }

      pub into_filled : {samples' : List ℕ} {tunes' : List ℤ}
          → samples' ≡ in_front (joined sample_numbers (list_in sample_rows (read_file file))) samples
          → tunes' ≡ in_front (joined sample_tunes (list_in sample_rows (read_file file))) tunes
          → ToldInto (Ok x) (lent patterns' instruments' samples' tunes')
      unfolding tables_after
      into_filled s t = accepts λ c q found h n. record {
        answers = sym is ∙ here.answers;
        leaves = rw q (lent_path (here.leaves_patterns ∙ rw q refl) (here.leaves_instruments ∙ rw q refl) (s ∙ rw found refl) (t ∙ rw found refl));
      }
