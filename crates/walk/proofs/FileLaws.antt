-- Laws of the walk over a whole file, and of the check. Assumes nothing.
use Prim.Native.Nat.{ℕ, ◌+◌, ◌-◌, ◌≤◌, ◌<◌}
use mathlib.Core.List.{List}
use mathlib.Core.Path.{◌≡◌, refl, sym, ap, ◌∙◌}
use native.Mathlib.Nat.{zero-add}
use native.Mathlib.Omega.{arith}
use lib.ListN.{length, drop, replicate, length-append, length-drop, length-replicate}
use lib.Seq.{drop-drop}
use Rattle.xm.specs.Number.{Bytes, word_at}
use Rattle.xm.specs.ModuleKind.{ModuleKind, normal, stripped}
use Rattle.xm.specs.Got.{Got, got, refused, ◌>>=◌, ◌>>◌, ◌at◌}
use Rattle.xm.specs.Got as paper
use Rattle.xm.specs.Format.{Format, each}
use Rattle.xm.specs.Answer.{answered}
use Rattle.xm.specs.Header.{Header, HeaderFound, least_header, orders_most, GoodTracker, GoodHeader, kind_at, read_header, write_header, header_format}
use Rattle.xm.specs.PatternInFile.{PatternFound, pattern_format}
use Rattle.xm.specs.Instrument.{InstrumentFound, instrument_format}
use Rattle.xm.specs.Module.{patterns_for, instruments_for, Found, file_most, module_format, read_whole, read_file}
use Rattle.xm.specs.Table.{checking}
use Rattle.xm.proofs.Number.{bytes_drop}
use Rattle.xm.proofs.Got.{no_true, test_fails, pass, passed, step as step_on, step_refused, got_value, got_carry}
use Rattle.xm.proofs.Format.{many_keeps}
use Rattle.xm.proofs.Header.{header_keeps}
use Rattle.xm.proofs.PatternInFile.{pattern_keeps}
use Rattle.xm.proofs.Module.{whole_read}
use Rattle.std.specs.Prelude.{Ok, Err}
use Rattle.refusal.specs.Refusal.{paper_refusal, outcome, step_by, place_step}
use Rattle.refusal.specs.declared.Refusal.{Refusal}
use Rattle.refusal.specs.declared.Step.TheVariants.{Given}
use Rattle.refusal.proofs.Steps.{given_got, next_got}
use Rattle.mark.specs.Mark.{Marks}
use Rattle.steps.specs.Step.{header_given}
use Rattle.steps.specs.declared.header.HeaderPart.{HeaderPart}
use Rattle.walk.specs.File.{run_given, count_given, pressed_as, code_module}
use Rattle.walk.specs.declared.Run.{Run}
use Rattle.walk.specs.declared.Count.{Count}

-- A refusal is the answer, and leaves nothing to mark
pub walk_refuses : (to : ModuleKind) (file marks : List ℕ) {r : Refusal} → read_file file ≡ refused (paper_refusal r)
    → (Err r ≡ outcome length (answered (pressed_as to) (read_file file))) × ((found : Found) (end : ℕ) → read_file file ≡ got found end → Marks file 0 found.1.0 marks)
walk_refuses to file marks e = (sym (ap (λ (g : Got Found). outcome length (answered (pressed_as to) g)) e), λ found end q. absurd (no_true (cc)))

pub check_refuses : (file : List ℕ) {r : Refusal} → read_file file ≡ refused (paper_refusal r) → Err r ≡ outcome code_module (checking file)
unfolding checking
check_refuses file e = cc

-- Its size is tried first, and then the header
pub file_large : {I A : Type 0} (F : Format (Unit {0}) I A) (file : List ℕ) → file_most < length file → read_whole F file ≡ refused (2 at 0)
unfolding read_whole
file_large F file h = test_fails _ _ _ (λ q. omega arith)

pub file_small : {I A : Type 0} (F : Format (Unit {0}) I A) (file : List ℕ) → length file ≤ file_most → read_whole F file ≡ F.read tt 0 file
unfolding read_whole
file_small F file h = pass _ (h, tt) refl

refused_first : {A B : Type 0} (size : Got (Unit {0})) (g : Got A) (k : A × ℕ → Got B) {r : paper.Refusal} → (size >> g) ≡ refused r
    → (size >> (g >>= k)) ≡ refused r
unfolding ◌>>◌ ◌>>=◌
refused_first (got u n) (got i m) k e = cc
refused_first (got u n) (refused q) k e = cc
refused_first (refused q) g k e = cc

-- A header's length in either kind of module, by the song length: the tracker name takes 20 bytes in both
tracker_size : (kind : ModuleKind) (name : List ℕ) → GoodTracker kind name → length name ≡ 20
tracker_size normal name g = g.0
tracker_size stripped name g = ap length g

pub header-length : (kind to : ModuleKind) (x : Header) → GoodHeader kind x → length (write_header to x) ≡ least_header to x.song_length + 60
unfolding write_header
header-length kind normal x g =
    let zeros = length-replicate {A = ℕ} (orders_most - x.song_length) 0 in
    simp length-append (omega (arith, g.name_size, tracker_size kind x.tracker_name g.tracker_good, g.orders_size, g.counts.0, zeros))
header-length kind stripped x g = simp length-append (omega (arith, g.name_size, tracker_size kind x.tracker_name g.tracker_good, g.orders_size))

pub header_most : (kind : ModuleKind) (song_length : ℕ) → least_header kind song_length ≤ 276 + song_length
header_most normal song_length = omega arith
header_most stripped song_length = omega arith

header_there : (kind : ModuleKind) (place : ℕ) (s : List ℕ) (i : HeaderFound) (n : ℕ) → read_header kind place s ≡ got i n → 80 ≤ length s
unfolding read_header
header_there kind place s i n e = passed _ _ e λ h e. h.0

song-length : (kind : ModuleKind) (place : ℕ) (s : List ℕ) (i : HeaderFound) (n : ℕ) → read_header kind place s ≡ got i n → i.content.song_length ≡ word_at 64 s
unfolding read_header
song-length kind place s i n e = passed _ _ e λ h e. ap (λ (i : HeaderFound). i.content.song_length) (sym (got_value e))

module _ (file : List ℕ) where
  abbrev kind : ModuleKind
  kind = kind_at file

  pub header_out : {r : paper.Refusal} → read_whole (header_format kind) file ≡ refused r → read_file file ≡ refused r
  unfolding read_whole
  header_out e = refused_first _ _ _ e

  module _ {part : HeaderPart} (e : Given part ≡ step_by header_given (read_whole (header_format kind) file)) where
    record Began : Type 0 where
      head : HeaderFound
      small : length file ≤ file_most
      reads : read_header kind 0 file ≡ got head part.start
      channels : part.channels ≡ head.content.channels
      patterns : part.patterns ≡ head.content.patterns
      instruments : part.instruments ≡ head.content.instruments

    began : Began
    began = go (read_whole (header_format kind) file) refl e
      where
        go : (g : Got HeaderFound) → read_whole (header_format kind) file ≡ g → Given part ≡ step_by header_given g → Began
        go (got i n) q e = whole_read (header_format kind) file i n q λ small r.
            record { head = i; small = small; reads = cc; channels = cc; patterns = cc; instruments = cc }
        go (refused r) q e = absurd (no_true (cc))

    whole : read_file file ≡ (module_format kind).read tt 0 file
    whole = file_small (module_format kind) file began.small

    pub record HeaderTold : Type 0 where
      pub small : length file ≤ file_most
      pub long : 80 ≤ length file
      pub start : part.start ≤ length file
      pub low : 1 ≤ part.channels
      pub high : part.channels ≤ 64
      pub many : part.patterns ≤ 256
      pub few : part.instruments ≤ 128

    pub header_told : Bytes file → HeaderTold
    header_told b =
        let h = began in
        let w = (header_keeps kind).keeps 0 file h.head part.start b h.reads in
        let counts = w.good.counts in
        record {
          small = h.small;
          long = header_there kind 0 file h.head part.start h.reads;
          start = w.inside;
          low = omega arith;
          high = omega arith;
          many = omega arith;
          few = omega arith;
        }

    -- The patterns
    abbrev patterns : Got (List PatternFound)
    patterns = (each pattern_format).read (replicate part.patterns part.channels) part.start (drop part.start file)

    same_patterns : (each pattern_format).read (patterns_for began.head.content) (0 + part.start) (drop part.start file) ≡ patterns
    same_patterns = let h = began in rw (zero-add, ← h.channels, ← h.patterns)

    pub patterns_out : {r : paper.Refusal} → patterns ≡ refused r → read_file file ≡ refused r
    patterns_out q = whole ∙ step_on _ began.reads (step_refused _ (step_refused _ (same_patterns ∙ q)))

    -- were read or only tried
    pub record PatternsAt (next : ℕ) : Type 0 where
      pub parts : List PatternFound
      pub used : ℕ
      pub reads : patterns ≡ got parts used
      pub ends : next ≡ part.start + used

    pub record PatternsRead (first : Run) : Type 0 where
      pub ended : PatternsAt first.next
      pub pressed : first.pressed ≡ length ((each pattern_format).write ((each pattern_format).view ended.parts))

    pub patterns_read : {first : Run} → Given first ≡ step_by (run_given pattern_format part.start) patterns → PatternsRead first
    patterns_read d = given_got (run_given pattern_format part.start) patterns d λ is n q e.
        record { ended = record { parts = is; used = n; reads = q; ends = ap Run.next e }; pressed = ap Run.pressed e }

    pub patterns_tried : {next : ℕ} → Given next ≡ place_step part.start patterns → PatternsAt next
    patterns_tried d = next_got part.start patterns d λ is n q z. record { parts = is; used = n; reads = q; ends = z }

    module _ {next : ℕ} (ps : PatternsAt next) where
      pub record PatternsTold : Type 0 where
        pub inside : next ≤ length file
        pub pressed : length ((each pattern_format).write ((each pattern_format).view ps.parts)) ≤ length file

      pub patterns_told : Bytes file → PatternsTold
      patterns_told b =
          let t = header_told b in
          let w = (many_keeps pattern_format part.patterns (pattern_keeps part.channels t.low)).keeps part.start (drop part.start file)
          ps.parts ps.used (bytes_drop part.start b) ps.reads in
          let l = length-drop part.start file in
          record { inside = omega (arith, w.inside, t.start, ps.ends); pressed = omega (arith, w.inside, w.short) }

      -- The instruments
      abbrev instruments : Got (List InstrumentFound)
      instruments = (each (instrument_format kind)).read (replicate part.instruments tt) next (drop next file)

      same_instruments : (each (instrument_format kind)).read (instruments_for began.head.content ((each pattern_format).view ps.parts))
          (0 + part.start + ps.used) (drop ps.used (drop part.start file)) ≡ instruments
      same_instruments = let h = began in rw (zero-add, drop-drop, ← ps.ends, ← h.instruments)

      pub instruments_out : {r : paper.Refusal} → instruments ≡ refused r → read_file file ≡ refused r
      instruments_out q = whole ∙ step_on _ began.reads (step_refused _ (step_on _ (same_patterns ∙ ps.reads) (step_refused _ (same_instruments ∙ q))))

      -- All of the file is read
      all_read : (rest : List InstrumentFound) (n last : ℕ) → instruments ≡ got rest n → last ≡ next + n
          → read_file file ≡ got (began.head, (ps.parts, rest)) last
      all_read rest n last ei q =
          let on : last ≡ part.start + (ps.used + n) = omega (arith, ps.ends) in
          whole ∙ step_on _ began.reads (step_on _ (step_on _ (same_patterns ∙ ps.reads) (step_on _ (same_instruments ∙ ei) refl)) (cc on))

      -- and measured
      module _ (to : ModuleKind) {last : Run} (o : Given last ≡ step_by (run_given (instrument_format to) next) instruments) where
        pub walk_accepted : Bytes file → {size pressed : ℕ} → size ≡ least_header to (word_at 64 file) + 60
            → pressed ≡ size + length ((each pattern_format).write ((each pattern_format).view ps.parts)) + last.pressed
            → Ok pressed ≡ outcome length (answered (pressed_as to) (read_file file))
        walk_accepted b q x = given_got (run_given (instrument_format to) next) instruments o λ is m ei e.
            let h = began in
            let good = ((header_keeps kind).keeps 0 file h.head part.start b h.reads).good in
            let front = header-length kind to h.head.content good
            ∙ ap (λ (n : ℕ). least_header to n + 60) (song-length kind 0 file h.head part.start h.reads) in
            let l : last.pressed ≡ length ((each (instrument_format to)).write ((each (instrument_format to)).view is)) = ap Run.pressed e in
            ap Ok (sym (simp length-append (omega (arith, front))))
            ∙ sym (ap (λ (g : Got Found). outcome length (answered (pressed_as to) g)) (all_read is m last.next ei (ap Run.next e)))

        -- with the marks of its patterns that their loop left
        pub walk_marked : (marks : List ℕ) → ((ps : List PatternFound) (n : ℕ) → patterns ≡ got ps n → Marks file 0 ps marks)
            → (found : Found) (end : ℕ) → read_file file ≡ got found end → Marks file 0 found.1.0 marks
        walk_marked marks told found end f = given_got (run_given (instrument_format to) next) instruments o λ is m ei e.
            got_carry (λ (r : Found) (u : ℕ). Marks file 0 r.1.0 marks) (sym (all_read is m last.next ei (ap Run.next e)) ∙ f)
            (told ps.parts ps.used ps.reads)

      -- or counted
      pub check_accepted : {last : Count} → Given last ≡ step_by (count_given next) instruments → {end channels patterns instruments samples : ℕ} → end ≡ last.next
          → channels ≡ part.channels
          → patterns ≡ part.patterns → instruments ≡ part.instruments → samples ≡ last.samples
          → Ok (record { end = end; channels = channels; patterns = patterns; instruments = instruments; samples = samples })
          ≡ outcome code_module (checking file)
      unfolding checking
      check_accepted {last} o a b c d f = given_got (count_given next) instruments o λ is m ei e.
          let h = began in
          let w = all_read is m last.next ei (ap Count.next e) in
          let s = ap Count.samples e in cc
