-- Laws of an accepted file that is written. Assumes nothing.
use Prim.Native.Nat.{ℕ, ◌+◌, ◌-◌, ◌≤◌}
use mathlib.Core.Bool.{Bool, true, false, not, ◌&&◌}
use mathlib.Core.List.{List, ◌++◌}
use mathlib.Core.Path.{◌≡◌, refl, sym, ap, ap₂, ◌∙◌, subst}
use native.Mathlib.Nat.{zero-add, add-sub_cancel_left}
use native.Mathlib.Omega.{arith}
use lib.ListN.{length, take, drop, replicate, length-append, length-drop}
use lib.Seq.{drop-drop, length-take-le}
use Rattle.xm.specs.Number.{word_at, part}
use Rattle.xm.specs.ModuleKind.{ModuleKind, normal, stripped, kind_by}
use Rattle.xm.specs.Got.{got, AllHold, list_in, Told}
use Rattle.xm.specs.Format.{each}
use Rattle.xm.specs.Header.{Header, HeaderFound, size_from, orders_most, least_header, header_end, song_length_at, channels_at, patterns_at, instruments_at, is_stripped}
use Rattle.xm.specs.Header.{kind_at, header_tests, header_of, restart_of, read_header, write_header}
use Rattle.xm.specs.Stored.{channels_most}
use Rattle.xm.specs.PatternInFile.{PatternFound, pattern_format}
use Rattle.xm.specs.Instrument.{InstrumentFound, instrument_format}
use Rattle.xm.specs.Module.{patterns_for, instruments_for, body_format, Found, module_format, file_most, read_file}
use Rattle.xm.specs.Press.{content_of, pressed}
use Rattle.xm.proofs.Got.{told_got, got_told, passed, bind_got, got_value, got_carry}
use Rattle.xm.proofs.Kind.{kind_stripped}
use Rattle.xm.proofs.Module.{whole_read}
use Rattle.mark.specs.Mark.{Marks}
use Rattle.steps.specs.Step.{header_part}
use Rattle.steps.specs.declared.header.HeaderPart.{HeaderPart}
use Rattle.writers.specs.Found.{read_at, pressed_at, end_of}
use Rattle.writers.specs.Header.{tracker_by, header_with}
use Rattle.writers.proofs.HeaderLaws.{table_size_lem, tracker_size, header_size}
use Rattle.module.specs.Module.{patterns_reached, instruments_read, instruments_as, header_kept, content_kept, written_file}

-- The file's own kind
pub normal_own : (file : List ℕ) → normal ≡ kind_at file → is_stripped file ≡ false
normal_own file e = go (is_stripped file) (e ∙ kind_stripped file)
  where
    go : (is : Bool) → normal ≡ kind_by is → is ≡ false
    go true e = absurd (cc)
    go false e = refl

pub stripped_own : (file : List ℕ) → stripped ≡ kind_at file → is_stripped file ≡ true
stripped_own file e = go (is_stripped file) (e ∙ kind_stripped file)
  where
    go : (is : Bool) → stripped ≡ kind_by is → is ≡ true
    go true e = refl
    go false e = absurd (cc)

module _ (file marks : List ℕ) where
  abbrev kind : ModuleKind
  kind = kind_at file

  abbrev Marked : Found → Type 0
  Marked found = Marks file 0 found.1.0 marks

  -- A marked file, as it was read
  record AsRead : Type 0 where
    small : length file ≤ file_most
    tests : AllHold (header_tests kind 0 file)
    patterns : List PatternFound
    used : ℕ
    reads : read_at (each pattern_format) (replicate (patterns_at file) (channels_at file)) file (header_end file) ≡ got patterns used
    instruments : List InstrumentFound
    others : ℕ
    reads_last : instruments_read file (header_end file + used) (instruments_at file) ≡ got instruments others
    marked : Marks file 0 patterns marks
    written : (to : ModuleKind) (kept : Bool) → written_file to kept file
        ≡ write_header to (header_kept kept (header_of kind file))
        ++ ((each pattern_format).write ((each pattern_format).view patterns)
        ++ (each (instrument_format to)).write ((each (instrument_format kind)).view instruments))

  as_read : Told Marked (read_file file) → AsRead
  unfolding read_header
  as_read told =
      told_got Marked (read_file file) told λ found end e m.
      whole_read (module_format kind) file found end e λ small e₁.
      bind_got (read_header kind 0 file) _ e₁ λ i n ei e₂.
      bind_got ((body_format kind).read i.content (0 + n) (drop n file)) _ e₂ λ v k ev e₃.
      bind_got ((each pattern_format).read (patterns_for i.content) (0 + n) (drop n file)) _ ev λ ps u ep e₄.
      bind_got ((each (instrument_format kind)).read (instruments_for i.content ((each pattern_format).view ps)) (0 + n + u) (drop u (drop n file))) _ e₄
      λ is r es e₅.
      passed _ _ ei λ h e₆.
      let found_is : (i, v) ≡ found = got_value e₃ in
      let body_is : (ps, is) ≡ v = got_value e₅ in
      record {
        small = small;
        tests = h;
        patterns = ps;
        used = u;
        reads =
            got_carry (λ (i : HeaderFound) (n : ℕ). (each pattern_format).read (patterns_for i.content) n (drop n file) ≡ got ps u) (sym e₆)
            (rw (zero-add n) at ep);
        instruments = is;
        others = r;
        reads_last =
            got_carry (λ (i : HeaderFound) (n : ℕ).
            (each (instrument_format kind)).read (replicate i.content.instruments tt) (n + u) (drop (n + u) file) ≡ got is r) (sym e₆)
            (rw (zero-add n, drop-drop u n file) at es);
        marked = subst (λ (body : List PatternFound × List InstrumentFound). Marks file 0 body.0 marks) (sym body_is) (subst Marked (sym found_is) m);
        written = λ to kept.
            ap (list_in (λ (f : Found). pressed to (content_kept kept (content_of f)))) e
            ∙ ap (λ (f : Found). pressed to (content_kept kept (content_of f))) (sym found_is)
            ∙ ap₂ (λ (x : HeaderFound) (body : List PatternFound × List InstrumentFound). pressed to (content_kept kept (content_of (x, body))))
            (sym (got_value e₆)) (sym body_is);
      }

  module _ (told : Told Marked (read_file file)) where
    abbrev w : AsRead
    w = as_read told

    pub numbers_inside : 80 ≤ length file
    numbers_inside = w.tests.0

    -- The orders are there
    song_few : song_length_at file ≤ orders_most
    song_few = w.tests.1.1.1.1.0.1

    song_inside : 80 + song_length_at file ≤ length file
    song_inside = omega (arith, table_size_lem kind (song_length_at file) song_few, w.tests.1.1.1.0, w.tests.1.1.1.1.1.1.1.1.0)

    song : length (part 80 (song_length_at file) file) ≡ song_length_at file
    song = length-take-le (song_length_at file) (drop 80 file) (omega (arith, length-drop 80 file, song_inside))

    -- The header's own tracker name, if it has one and if it is kept
    own_header : (kept : Bool)
        → header_with (tracker_by (not (is_stripped file) && kept) file) (patterns_at file) (part 80 (song_length_at file) file) file
        ≡ header_kept kept (header_of kind file)
    own_header kept =
        ap (λ (n : ℕ). with_song (tracker_by (not (is_stripped file) && kept) file) n) song
        ∙ by_kind (is_stripped file) kept
        ∙ ap (λ (k : ModuleKind). header_kept kept (header_of k file)) (sym (kind_stripped file))
      where
        with_song : (tracker : List ℕ) (song_length : ℕ) → Header
        with_song tracker song_length = record {
          module_name = part 17 20 file;
          tracker_name = tracker;
          song_length = song_length;
          restart = restart_of song_length (word_at 66 file);
          channels = channels_at file;
          patterns = patterns_at file;
          instruments = instruments_at file;
          flags = word_at 74 file;
          tempo = word_at 76 file;
          bpm = word_at 78 file;
          orders = part 80 (song_length_at file) file;
        }

        by_kind : (is kept : Bool) → with_song (tracker_by (not is && kept) file) (song_length_at file) ≡ header_kept kept (header_of (kind_by is) file)
        by_kind true true = refl
        by_kind true false = refl
        by_kind false true = refl
        by_kind false false = refl

    -- In the code's numbers
    module _ {head : HeaderPart} {song_length : ℕ} {named : Bool} (to : ModuleKind) (kept : Bool) (p : head ≡ header_part file)
        (l : song_length ≡ song_length_at file)
        (t : named ≡ (not (is_stripped file) && kept)) where
      abbrev orders : List ℕ
      orders = take (80 + song_length - 80) (drop 80 file)

      abbrev header : List ℕ
      header = write_header to (header_with (tracker_by named file) head.patterns orders file)

      abbrev rows : List ℕ
      rows = pressed_at (each pattern_format) (replicate head.patterns head.channels) file head.start

      abbrev last : ℕ
      last = (patterns_reached file head.start head.channels head.patterns).place

      pub record ModuleLies : Type 0 where
        pub small : length file ≤ file_most
        pub song_few : song_length ≤ orders_most
        pub orders_inside : 80 + song_length ≤ length file
        pub orders_long : length orders ≡ song_length
        pub some : 1 ≤ head.channels
        pub high : head.channels ≤ channels_most
        pub many : head.patterns ≤ 256
        pub told_first : Told (λ is. Marks file 0 is marks) (read_at (each pattern_format) (replicate head.patterns head.channels) file head.start)
        pub told_last : Told (λ is. Unit {0}) (instruments_read file last head.instruments)
        pub header_long : length header ≡ size_from + least_header to song_length
        pub long : length (written_file to kept file)
            ≡ size_from + least_header to song_length + (length rows + length (instruments_as to file last head.instruments))
        pub written : written_file to kept file ≡ header ++ (rows ++ instruments_as to file last head.instruments)

      is_orders : orders ≡ part 80 (song_length_at file) file
      is_orders = rw (l, add-sub_cancel_left)

      orders_song : length orders ≡ song_length
      orders_song = ap length is_orders ∙ song ∙ sym l

      first_read : read_at (each pattern_format) (replicate head.patterns head.channels) file head.start ≡ got w.patterns w.used
      first_read = rw p w.reads

      last_is : last ≡ header_end file + w.used
      last_is = ap (end_of head.start) first_read ∙ ap (λ (h : HeaderPart). h.start + w.used) p

      last_read : instruments_read file last head.instruments ≡ got w.instruments w.others
      last_read = ap₂ (λ (at k : ℕ). instruments_read file at k) last_is (ap HeaderPart.instruments p) ∙ w.reads_last

      is_header : header ≡ write_header to (header_kept kept (header_of kind file))
      is_header =
          ap₂ (λ (tracker orders : List ℕ). write_header to (header_with tracker head.patterns orders file)) (ap (λ (b : Bool). tracker_by b file) t) is_orders
          ∙ ap (λ (h : HeaderPart).
          write_header to (header_with (tracker_by (not (is_stripped file) && kept) file) h.patterns (part 80 (song_length_at file) file) file)) p
          ∙ ap (write_header to) (own_header kept)

      is_written : written_file to kept file ≡ header ++ (rows ++ instruments_as to file last head.instruments)
      is_written =
          w.written to kept
          ∙ ap₂ (λ (x y : List ℕ). x ++ y) (sym is_header)
          (ap₂ (λ (x y : List ℕ). x ++ y) (sym (ap (list_in (λ (is : List PatternFound). (each pattern_format).write ((each pattern_format).view is))) first_read))
          (sym (ap (list_in (λ (is : List InstrumentFound). (each (instrument_format to)).write ((each (instrument_format kind)).view is))) last_read)))

      pub module_lies : ModuleLies
      module_lies =
          let h = w.tests in
          let long-header : length header ≡ size_from + least_header to song_length =
          header_size to (tracker_by named file) head.patterns orders file (tracker_size named file numbers_inside) numbers_inside
          (omega (arith, orders_song, l, song_few))
          ∙ ap (λ (n : ℕ). size_from + least_header to n) orders_song in
          record {
            small = w.small;
            song_few = omega (arith, l, song_few);
            orders_inside = omega (arith, l, song_inside);
            orders_long = orders_song;
            some = omega (arith, ap HeaderPart.channels p, h.1.1.1.1.1.1.0);
            high = omega (arith, ap HeaderPart.channels p, h.1.1.1.1.1.1.0);
            many = omega (arith, ap HeaderPart.patterns p, h.1.1.1.1.1.0);
            told_first = got_told (λ is. Marks file 0 is marks) first_read w.marked;
            told_last = got_told (λ is. Unit {0}) last_read tt;
            header_long = long-header;
            long = ap length is_written ∙ rw (length-append, length-append) (omega (arith, long-header));
            written = is_written;
          }
