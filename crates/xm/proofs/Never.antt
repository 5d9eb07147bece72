-- Refusal numbers that are never given: 11 of a stripped file, 3 of one that has a pair of mark and version, 4 of one whose header is large
-- enough, 10 of an instrument whose numbers are. Assumes nothing.
use Prim.Native.Nat.{ℕ, ◌+◌, ◌*◌, ◌≤◌, ◌<◌}
use mathlib.Core.Bool.{Bool, true, false}
use mathlib.Core.Logic.{◌↔◌}
use mathlib.Core.List.{List, [], ◌∷◌, ◌++◌}
use mathlib.Core.Path.{◌≡◌, refl, sym, ap, ◌∙◌}
use native.Mathlib.Decide.{dec_le}
use native.Mathlib.Omega.{arith}
use lib.Dec.{leb, ltb, eqb}
use borrow.Author.Tests.{leb-true, leb-false, ltb-true, lt-ltb, eqb-true, eqb-false}
use lib.ListN.{length, drop, replicate}
use Rattle.xm.specs.Number.{word_at, long_at, part}
use Rattle.xm.specs.ModuleKind.{ModuleKind, normal, stripped}
use Rattle.xm.specs.Got.{Refusal, Got, refused, ◌>>◌, Test, checked, present, at_least, exactly, when, ◌at◌}
use Rattle.xm.specs.Format.{Format, over, then, each, each_read, All}
use Rattle.xm.specs.Cell.{cell_format, read_cell}
use Rattle.xm.specs.Stored.{read_cells, read_stored}
use Rattle.xm.specs.Header.{Header, HeaderFound, mark, version, mark_at, version_at, size_at, song_length_at, orders_from}
use Rattle.xm.specs.Header.{least_header, count_tests, patterns_at, channels_at, instruments_at, header_end, header_format, read_header}
use Rattle.xm.specs.PatternInFile.{pattern_format, read_pattern}
use Rattle.xm.specs.Sample.{head_format, read_head, data_format, read_data, samples_format}
use Rattle.xm.specs.Instrument.{fields_of, instrument_format, read_instrument}
use Rattle.xm.specs.Module.{patterns_for, instruments_for, body_format, module_format, file_most, read_whole, read_file}
use Rattle.xm.specs.Answer.{refuses}
use Rattle.xm.specs.Table.{checked_as, checking}
use Rattle.xm.specs.Demands.{Fits, KindsRefused, TenExactly}
use Rattle.xm.proofs.Got.{got_never, refused_bind, same_refusal, refused_tests, step_refused, pass, test_holds, test_fails}
use Rattle.xm.proofs.Answer.{answer_refuses, refuses-refused}
use Rattle.xm.proofs.Kind.{fits_pair, kind_else, kind_reads}
use Rattle.xm.proofs.Format.{all, all_replicate}

abbrev Other : ℕ → Refusal → Type 0
Other number r = r.number ≡ number → ⊥

pub record Never {H I A : Type 0} (F : Format H I A) (h : H) (number : ℕ) : Type 0 where
  pub never : (place : ℕ) (s : List ℕ) (r : Refusal) → F.read h place s ≡ refused r → Other number r

-- Formats put together
over_never : {H K I A : Type 0} (f : K → H) {F : Format H I A} (k : K) (number : ℕ) → Never F (f k) number → Never (over f F) k number
over_never f k number b = record { never = b.never }

then_never : {H I A K J B : Type 0} (next : H → A → K) {F : Format H I A} {G : Format K J B} (number : ℕ) {h : H}
    → Never F h number → ((a : A) → Never G (next h a) number)
    → Never (then F next G) h number
then_never next {F} {G} number {h} b c = record {
  never = λ place s r e.
      refused_bind (F.read h place s) _ e (b.never place s r) λ i n ei e₁.
      refused_bind (G.read (next h (F.view i)) (place + n) (drop n s)) _ e₁ ((c (F.view i)).never (place + n) (drop n s) r)
      (λ j m ej e₂. absurd (got_never e₂));
}

module _ {H I A : Type 0} (F : Format H I A) (number : ℕ) where
  each_other : (hs : List H) → All (λ (h : H). Never F h number) hs → (place : ℕ) (s : List ℕ) (r : Refusal)
      → each_read F hs place s ≡ refused r → Other number r
  each_other [] b place s r e = absurd (got_never e)
  each_other (h ∷ hs) b place s r e =
      refused_bind (F.read h place s) _ e (b.0.never place s r) λ i n ei e₁.
      refused_bind (each_read F hs (place + n) (drop n s)) _ e₁ (each_other hs b.1 (place + n) (drop n s) r) (λ js m ej e₂. absurd (got_never e₂))

  each_never : (hs : List H) → All (λ (h : H). Never F h number) hs → Never (each F) hs number
  each_never hs b = record { never = each_other hs b }

  many_never : (n : ℕ) {h : H} → Never F h number → Never (each F) (replicate n h) number
  many_never n {h} b = each_never (replicate n h) (all_replicate (λ (h : H). Never F h number) h n b)

-- A number that is none of those given for samples; and none of those given behind the header of a stripped module. 11 is given only in a
-- normal one
record SamplesFree (number : ℕ) : Type 0 where
  one : 1 ≡ number → ⊥
  twelve : 12 ≡ number → ⊥
  thirteen : 13 ≡ number → ⊥

record Free (number : ℕ) : Type 0 where
  samples : SamplesFree number
  six : 6 ≡ number → ⊥
  seven : 7 ≡ number → ⊥
  eight : 8 ≡ number → ⊥
  ten : 10 ≡ number → ⊥

abbrev FreeIn : ModuleKind → ℕ → Type 0
FreeIn normal number = Free number × (11 ≡ number → ⊥)
FreeIn stripped number = Free number

free : (kind : ModuleKind) (number : ℕ) → FreeIn kind number → Free number
free normal number u = u.0
free stripped number u = u

module _ (number : ℕ) (u : Free number) where
  cell_never : Never cell_format tt number
  unfolding read_cell
  cell_never = record { never = λ place s r e. refused_tests (Other number) _ _ e (u.seven, tt) λ hs e₁. absurd (got_never e₁) }

  stored_never : (channels rows place : ℕ) (d : List ℕ) (r : Refusal) → read_stored channels rows place d ≡ refused r → Other number r
  unfolding read_stored read_cells
  stored_never channels rows place [] r e = absurd (got_never e)
  stored_never channels rows place (b ∷ d) r e =
      refused_bind _ _ e ((many_never cell_format number (rows * channels) cell_never).never place (b ∷ d) r) λ xs n ex e₁.
      refused_tests (Other number) _ _ e₁ (u.eight, tt) λ hs e₂. absurd (got_never e₂)

  pattern_never : (channels : ℕ) → Never pattern_format channels number
  unfolding read_pattern
  pattern_never channels = record {
    never = λ place s r e.
        refused_tests (Other number) _ _ e (u.samples.one, (u.six, (u.six, (u.samples.one, tt)))) λ hs e₁.
        refused_bind _ _ e₁ (stored_never channels (word_at 5 s) (place + long_at 0 s) (part (long_at 0 s) (word_at 7 s) s) r)
        (λ q m eq e₂. absurd (got_never e₂));
  }

module _ (number : ℕ) (u : SamplesFree number) where
  head_never : (size : ℕ) → Never head_format size number
  unfolding read_head
  head_never size = record {
    never = λ place s r e.
        refused_tests (Other number) _ _ e (u.one, (u.twelve, (u.thirteen, (u.thirteen, (u.thirteen, (u.thirteen, (u.thirteen, tt)))))))
        λ hs e₁. absurd (got_never e₁);
  }

  data_never : (head : List ℕ) → Never data_format head number
  unfolding read_data
  data_never head = record { never = λ place s r e. refused_tests (Other number) _ _ e (u.one, tt) λ hs e₁. absurd (got_never e₁) }

  samples_never : (k size : ℕ) → Never samples_format (replicate k size) number
  samples_never k size =
      then_never (λ sizes heads. heads) number (many_never head_format number k (head_never size))
      (λ heads. each_never data_format number heads (all data_never heads))

instrument_never : (kind : ModuleKind) (number : ℕ) → FreeIn kind number → Never (instrument_format kind) tt number
unfolding read_instrument
instrument_never normal number u = record {
  never = λ place s r e.
      let one = u.0.samples.one in
      refused_tests (Other number) _ _ e (one, (u.0.ten, (u.0.ten, (u.0.ten, (one, (u.1, (one, tt))))))) λ hs e₁.
      refused_bind _ _ e₁ ((samples_never number u.0.samples (word_at 27 s) (long_at 29 s)).never (place + long_at 0 s) (drop (long_at 0 s) s) r)
      (λ v m ev e₂. absurd (got_never e₂));
}
instrument_never stripped number u = record {
  never = λ place s r e.
      let one = u.samples.one in
      refused_tests (Other number) _ _ e (one, (u.ten, (one, (u.ten, (one, tt))))) λ hs e₁.
      let fields = fields_of stripped s in
      refused_bind _ _ e₁ ((samples_never number u.samples (word_at 27 fields) (long_at 29 fields)).never (place + long_at 0 s) (drop (long_at 0 s) s) r)
      (λ v m ev e₂. absurd (got_never e₂));
}

body_never : (kind : ModuleKind) (number : ℕ) → FreeIn kind number → (x : Header) → Never (body_format kind) x number
body_never kind number u x =
    let patterns = many_never pattern_format number x.patterns (pattern_never number (free kind number u) x.channels) in
    then_never instruments_for number (over_never patterns_for x number patterns)
    (λ patterns. many_never (instrument_format kind) number x.instruments (instrument_never kind number u))

-- The tests of a header behind its mark and version
abbrev later : ModuleKind → (place : ℕ) → List ℕ → List Test
later kind place s =
    at_least (least_header kind (song_length_at s)) (size_at s) (4 at place)
    ∷ count_tests (song_length_at s) (patterns_at s) (channels_at s) (instruments_at s) place
    ++ (present (header_end s) (length s) (1 at place) ∷ [])

-- A file that has its first 80 bytes and a pair of mark and version, and is refused
module _ (kind : ModuleKind) (file : List ℕ) (small : length file ≤ file_most) (long : orders_from ≤ length file) (f : Fits kind file) where
  abbrev has_orders : Test
  has_orders = present orders_from (length file) (1 at 0)

  abbrev is_marked : Test
  is_marked = exactly (mark kind) (mark_at file) (3 at 0)

  abbrev is_version : Test
  is_version = exactly (version kind) (version_at file) (3 at 0)

  first_three : (g : Got HeaderFound) → (checked (has_orders ∷ is_marked ∷ is_version ∷ later kind 0 file) >> g) ≡ (checked (later kind 0 file) >> g)
  first_three g =
      test_holds has_orders (is_marked ∷ is_version ∷ later kind 0 file) g long
      ∙ test_holds is_marked (is_version ∷ later kind 0 file) g (fits_pair kind file f).0
      ∙ test_holds is_version (later kind 0 file) g (fits_pair kind file f).1

  checking_read : (r : Refusal) → checking file ≡ refuses r → (module_format kind).read tt 0 file ≡ refused r
  unfolding checking read_whole
  checking_read r e = sym (pass _ (small, tt) refl) ∙ sym (kind_reads kind file f) ∙ refuses-refused checked_as (read_file file) e

  read_checking : (r : Refusal) → (module_format kind).read tt 0 file ≡ refused r → checking file ≡ refuses r
  unfolding checking read_whole
  read_checking r e = answer_refuses checked_as (kind_reads kind file f ∙ pass _ (small, tt) e)

  refused_later : (number : ℕ) → FreeIn kind number → (r : Refusal) → checking file ≡ refuses r
      → (read_header kind 0 file ≡ refused r → Other number r) → Other number r
  refused_later number u r e head =
      refused_bind (read_header kind 0 file) _ (checking_read r e) head λ i n ei e₁.
      refused_bind ((body_format kind).read i.content (0 + n) (drop n file)) _ e₁ ((body_never kind number u i.content).never (0 + n) (drop n file) r)
      (λ v m ev e₂. absurd (got_never e₂))

  -- is not refused by 3, and by 4 exactly when its header is too small
  never_three : FreeIn kind 3 → checking file ≡ refuses (3 at 0) → ⊥
  unfolding read_header
  never_three u e =
      refused_later 3 u (3 at 0) e
      (λ eh. refused_tests (Other 3) (later kind 0 file) _ (sym (first_three _) ∙ eh) (omega arith) λ hs e₁. absurd (got_never e₁))
      refl

  never_four : FreeIn kind 4 → least_header kind (song_length_at file) ≤ size_at file → checking file ≡ refuses (4 at 0) → ⊥
  unfolding read_header
  never_four u l e =
      refused_later 4 u (4 at 0) e
      (λ eh.
      let counts = count_tests (song_length_at file) (patterns_at file) (channels_at file) (instruments_at file) 0 in
      refused_tests (Other 4) (counts ++ (present (header_end file) (length file) (1 at 0) ∷ [])) _ (sym (first_three _ ∙ test_holds _ _ _ l) ∙ eh)
      (omega arith) λ hs e₁. absurd (got_never e₁))
      refl

  small_four : size_at file < least_header kind (song_length_at file) → checking file ≡ refuses (4 at 0)
  unfolding read_header
  small_four l = read_checking (4 at 0) (step_refused _ (first_three _ ∙ test_fails _ _ _ (λ h. omega arith)))

free_of : (number : ℕ) → number ≤ 5 → 2 ≤ number → Free number
free_of number h l = record {
  samples = record { one = λ q. omega arith; twelve = λ q. omega arith; thirteen = λ q. omega arith };
  six = λ q. omega arith;
  seven = λ q. omega arith;
  eight = λ q. omega arith;
  ten = λ q. omega arith;
}

free_in : (kind : ModuleKind) (number : ℕ) → number ≤ 5 → 2 ≤ number → FreeIn kind number
free_in normal number h l = (free_of number h l, λ q. omega arith)
free_in stripped number h l = free_of number h l

-- 3 is given where neither pair fits
neither_three : (file : List ℕ) → length file ≤ file_most → orders_from ≤ length file → ((kind : ModuleKind) → Fits kind file → ⊥)
    → checking file ≡ refuses (3 at 0)
unfolding checking read_whole read_header
neither_three file small long none = answer_refuses checked_as (as_normal ∙ pass _ (small, tt) (step_refused _ (by (eqb (mark_at file) (mark normal)) refl)))
  where
    as_normal : read_file file ≡ read_whole (module_format normal) file
    as_normal = ap (λ (k : ModuleKind). read_whole (module_format k) file) (kind_else file (none stripped))

    by : (t : Bool) → eqb (mark_at file) (mark normal) ≡ t → read_header normal 0 file ≡ refused (3 at 0)
    by true p =
        let marked = eqb-true (mark_at file) (mark normal) p in
        test_holds _ _ _ long ∙ test_holds _ _ _ marked ∙ test_fails _ _ _ (λ q. none normal (marked, q))
    by false p = test_holds _ _ _ long ∙ test_fails _ _ _ (λ q. eqb-false (mark_at file) (mark normal) p q)

-- 11 is never given of a stripped file
free_eleven : Free 11
free_eleven = record {
  samples = record { one = λ q. omega arith; twelve = λ q. omega arith; thirteen = λ q. omega arith };
  six = λ q. omega arith;
  seven = λ q. omega arith;
  eight = λ q. omega arith;
  ten = λ q. omega arith;
}

header_eleven : Never (header_format stripped) tt 11
unfolding read_header
header_eleven = record {
  never = λ place s r e.
      refused_tests (Other 11) _ _ e (omega arith) λ hs e₁. absurd (got_never e₁);
}

module_eleven : Never (module_format stripped) tt 11
module_eleven = then_never (λ u x. x) 11 header_eleven (body_never stripped 11 free_eleven)

eleven_never : (file : List ℕ) → Fits stripped file → (place : ℕ) → checking file ≡ refuses (11 at place) → ⊥
unfolding checking read_whole
eleven_never file f place e =
    refused_tests (Other 11) _ _ (sym (kind_reads stripped file f) ∙ refuses-refused checked_as (read_file file) e) ((λ q. omega arith), tt)
    (λ hs e₁. module_eleven.never 0 file (11 at place) e₁) refl

pub kinds_refused : (file : List ℕ) → KindsRefused file
kinds_refused file = record {
  three_exactly = λ small long. (
    λ q kind f. never_three kind file small long f (free_in kind 3 (omega arith) (omega arith)) q,
    neither_three file small long,
  );
  four_exactly = λ small long f. four normal small long f;
  four_stripped = λ small long f. four stripped small long f;
  eleven_never = eleven_never file;
}
  where
    four : (kind : ModuleKind) → length file ≤ file_most → orders_from ≤ length file → Fits kind file
        → (checking file ≡ refuses (4 at 0)) ↔ (size_at file < least_header kind (song_length_at file))
    four kind small long f = (below (leb (least_header kind (song_length_at file)) (size_at file)) refl, small_four kind file small long f)
      where
        below : (t : Bool) → leb (least_header kind (song_length_at file)) (size_at file) ≡ t → checking file ≡ refuses (4 at 0)
            → size_at file < least_header kind (song_length_at file)
        below true p q =
            let enough = leb-true (least_header kind (song_length_at file)) (size_at file) p in
            absurd (never_four kind file small long f (free_in kind 4 (omega arith) (omega arith)) enough q)
        below false p q = leb-false (least_header kind (song_length_at file)) (size_at file) p

-- 10 is given of an instrument whose I or k is out of range, and by nothing behind them
ten_free : SamplesFree 10
ten_free = record { one = λ q. omega arith; twelve = λ q. omega arith; thirteen = λ q. omega arith }

module _ (place : ℕ) (s : List ℕ) where
  abbrev Refused : ModuleKind → Type 0
  Refused kind = read_instrument kind place s ≡ refused (10 at place)

  samples_ten : (k H : ℕ) (r : Refusal) → samples_format.read (replicate k H) (place + long_at 0 s) (drop (long_at 0 s) s) ≡ refused r → Other 10 r
  samples_ten k H = (samples_never 10 ten_free k H).never (place + long_at 0 s) (drop (long_at 0 s) s)

  normal_ten : 29 ≤ length s → Refused normal → (29 ≤ long_at 0 s) × (word_at 27 s ≤ 16) × (0 < word_at 27 s → 263 ≤ long_at 0 s) → ⊥
  unfolding read_instrument
  normal_ten there e fit =
      let wide = when (ltb 0 (word_at 27 s)) (at_least 263 (long_at 0 s) (10 at place)) in
      let front = test_holds _ _ _ there ∙ test_holds _ _ _ fit.0 ∙ test_holds _ _ _ fit.1
      ∙ test_holds wide _ _ (λ q. fit.2 (ltb-true 0 (word_at 27 s) q)) in
      refused_tests (Other 10) _ _ (sym front ∙ e) ((λ q. omega arith), ((λ q. omega arith), ((λ q. omega arith), tt))) (λ hs e₁.
      refused_bind _ _ e₁ (samples_ten (word_at 27 s) (long_at 29 s) (10 at place)) (λ v m ev e₂. absurd (got_never e₂)))
      refl

  ten_normal : 29 ≤ length s → ((29 ≤ long_at 0 s) × (word_at 27 s ≤ 16) × (0 < word_at 27 s → 263 ≤ long_at 0 s) → ⊥) → Refused normal
  unfolding read_instrument
  ten_normal there none = go (dec_le 29 (long_at 0 s)) (dec_le (word_at 27 s) 16)
    where
      go : Dec (29 ≤ long_at 0 s) → Dec (word_at 27 s ≤ 16) → Refused normal
      go (no h) d = test_holds _ _ _ there ∙ test_fails _ _ _ h
      go (yes h) (no l) = test_holds _ _ _ there ∙ test_holds _ _ _ h ∙ test_fails _ _ _ l
      go (yes h) (yes l) =
          test_holds _ _ _ there ∙ test_holds _ _ _ h ∙ test_holds _ _ _ l
          ∙ test_fails _ _ _ (λ q. none (h, l, λ some. q (lt-ltb 0 (word_at 27 s) some)))

  stripped_ten : 4 ≤ length s → Refused stripped → (4 ≤ long_at 0 s) × (long_at 0 s ≤ length s → word_at 27 (fields_of stripped s) ≤ 16) → ⊥
  unfolding read_instrument
  stripped_ten there e fit = go (dec_le (long_at 0 s) (length s))
    where
      go : Dec (long_at 0 s ≤ length s) → ⊥
      go (no l) =
          let z = same_refusal (sym (test_holds _ _ _ there ∙ test_holds _ _ _ fit.0 ∙ test_fails _ _ _ l) ∙ e) in
          let different : ◌≡◌ {A = ℕ} 1 10 = ap Refusal.number z in
          omega arith
      go (yes l) =
          let fields = fields_of stripped s in
          let front = test_holds _ _ _ there ∙ test_holds _ _ _ fit.0 ∙ test_holds _ _ _ l ∙ test_holds _ _ _ (fit.1 l) in
          refused_tests (Other 10) _ _ (sym front ∙ e) ((λ q. omega arith), tt) (λ hs e₁.
          refused_bind _ _ e₁ (samples_ten (word_at 27 fields) (long_at 29 fields) (10 at place)) (λ v m ev e₂. absurd (got_never e₂)))
          refl

  ten_stripped : 4 ≤ length s → ((4 ≤ long_at 0 s) × (long_at 0 s ≤ length s → word_at 27 (fields_of stripped s) ≤ 16) → ⊥) → Refused stripped
  unfolding read_instrument
  ten_stripped there none = go (dec_le 4 (long_at 0 s)) (dec_le (long_at 0 s) (length s))
    where
      go : Dec (4 ≤ long_at 0 s) → Dec (long_at 0 s ≤ length s) → Refused stripped
      go (no h) d = test_holds _ _ _ there ∙ test_fails _ _ _ h
      go (yes h) (no l) = absurd (none (h, λ q. absurd (l q)))
      go (yes h) (yes l) = test_holds _ _ _ there ∙ test_holds _ _ _ h ∙ test_holds _ _ _ l ∙ test_fails _ _ _ (λ q. none (h, λ inside. q))

  pub ten_exactly : TenExactly place s
  ten_exactly = record {
    normal_so = λ there. (normal_ten there, ten_normal there);
    stripped_so = λ there. (stripped_ten there, ten_stripped there);
  }
