-- How much longer a converted file may be than the one that it is made of: its header, each instrument, and the whole; and that it is
-- converted back. Assumes nothing.
use Prim.Native.Nat.{ℕ, zero, suc, ◌+◌, ◌*◌, ◌/◌, ◌%◌, ◌≤◌}
use mathlib.Core.List.{List, [], ◌∷◌, ◌++◌, append_assoc}
use mathlib.Core.Path.{◌≡◌, refl, sym, ap, ap₂, ◌∙◌}
use native.Mathlib.Decide.{dec_le}
use native.Mathlib.Nat.{suc-mul, mul-le-mul_left}
use native.Mathlib.Omega.{arith}
use lib.ListN.{length, take, replicate, length-append}
use Rattle.xm.specs.Number.{long_at, byte, word, long}
use Rattle.xm.specs.ModuleKind.{ModuleKind, normal, stripped, before, trimmed}
use Rattle.xm.specs.Got.{◌at◌, all_pass}
use Rattle.xm.specs.Format.{joined, flat, EachGood}
use Rattle.xm.specs.Answer.{Answer, gives, refuses, number_of}
use Rattle.xm.specs.Stored.{empty_rows}
use Rattle.xm.specs.Header.{least_header, count_tests, Header, no_tracker, GoodHeader, write_header}
use Rattle.xm.specs.PatternInFile.{write_pattern, GoodStored}
use Rattle.xm.specs.Sample.{least_head, data_size, head_format, head_tests, data_format, smallest_head, GoodHead}
use Rattle.xm.specs.Instrument.{least_instrument, least_stripped, samples_most, voice_size, Instrument, count_of, write_fields, write_instrument}
use Rattle.xm.specs.Instrument.{GoodInstrument, instrument_format}
use Rattle.xm.specs.Module.{Content, module_format, file_most}
use Rattle.xm.specs.Press.{pressed, pressing}
use Rattle.xm.specs.Convert.{without_tracker, converted, converting}
use Rattle.xm.specs.Demands.{FileOf, ConvertsBack, added_most, ConvertsWithin}
use Rattle.xm.proofs.Number.{bytes_zeros, bytes_nil}
use Rattle.xm.proofs.Got.{all_hold}
use Rattle.xm.proofs.Answer.{gives-refuses, gives_same}
use Rattle.xm.proofs.Format.{joined-replicate, each_replicate}
use Rattle.xm.proofs.Cut.{before_le, trimmed_le, trimmed_mono, trimmed_some}
use Rattle.xm.proofs.Stored.{rows_good, rows_none, write_none}
use Rattle.xm.proofs.Header.{header_size}
use Rattle.xm.proofs.PatternInFile.{pattern_size}
use Rattle.xm.proofs.Sample.{smallest_fits, cut_heads, cut_heads_size}
use Rattle.xm.proofs.Instrument.{heads_size, instrument_size}
use Rattle.xm.proofs.Stripped.{none_least, fields_most, stripped_size}
use Rattle.xm.proofs.Module.{module_back, module_keeps}
use Rattle.xm.proofs.Kind.{kinds_told}
use Rattle.xm.proofs.Press.{pressed_file, pressed_shortest, file_size, file_good, press_gives, press_narrow}
use Rattle.xm.proofs.Convert.{header_good, convert_gives, convert_narrow, converts_shortest, stripped_content}

-- The fields behind I of a stripped instrument: with samples k is among them, and so 24 bytes at least
some_kept : (byte : ℕ) (s : List ℕ) → 1 ≤ byte → length (trimmed (byte ∷ [])) ≤ length (trimmed (byte ∷ s))
unfolding trimmed before
some_kept zero s h = absurd (omega arith)
some_kept (suc byte) s h = omega arith

some_fields : (name : List ℕ) (type byte : ℕ) (s : List ℕ) → 1 ≤ byte → length name + 2 ≤ length (trimmed (name ++ (type ∷ byte ∷ s)))
some_fields name type byte s h =
    let inner = trimmed_mono (type ∷ []) (byte ∷ []) (byte ∷ s) (some_kept byte s h) in
    let whole = trimmed_mono name (type ∷ byte ∷ []) (type ∷ byte ∷ s) inner in
    let own = ap (λ (l : List ℕ). length (trimmed l)) (sym (append_assoc name (type ∷ []) (byte ∷ []))) in
    let kept = ap length (trimmed_some (name ++ (type ∷ [])) byte h) in
    omega (arith, whole, own, kept, length-append (name ++ (type ∷ [])) (byte ∷ []), length-append name (type ∷ []))

-- and without samples only name and type are left
none_kept : (type : ℕ) → length (trimmed (type ∷ 0 ∷ 0 ∷ 0 ∷ 0 ∷ 0 ∷ 0 ∷ [])) ≤ length (trimmed (1 ∷ []))
unfolding trimmed before
none_kept type = before_le type []

no_fields : (name voice : List ℕ) (type : ℕ) → voice ≡ [] → length (trimmed (flat (name ∷ byte type ∷ word 0 ∷ long 0 ∷ voice ∷ []))) ≤ length name + 1
no_fields name voice type e =
    let shorter = trimmed_mono name (type ∷ 0 ∷ 0 ∷ 0 ∷ 0 ∷ 0 ∷ 0 ∷ []) (1 ∷ []) (none_kept type) in
    rw e (omega (arith, shorter, trimmed_le (name ++ (1 ∷ [])), length-append name (1 ∷ [])))

-- By the numbers: k, H, the bytes behind I, and the data
grown : (k kept fields bytes : ℕ) → k ≤ samples_most → (1 ≤ k → 24 ≤ fields)
    → least_instrument k + (k * least_head + bytes) ≤ least_stripped + fields + (k * kept + bytes) + 875
grown zero kept fields bytes few h = omega arith
grown (suc k) kept fields bytes few h = omega (arith, h (omega arith))

shrunk : (k kept fields bytes : ℕ) → kept ≤ least_head → (k ≡ 0 → fields ≤ 23) → fields ≤ 237
    → least_stripped + fields + (k * kept + bytes) ≤ least_instrument k + (k * least_head + bytes)
shrunk zero kept fields bytes l none most = omega (arith, none refl)
shrunk (suc k) kept fields bytes l none most = omega (arith, mul-le-mul_left (suc k) l)

module _ (x : Instrument) (g : GoodInstrument x) where
  abbrev heads : List (List ℕ)
  heads = x.samples.0

  abbrev kept : ℕ
  kept = smallest_head heads

  abbrev bytes : List ℕ
  bytes = joined (λ (b : List ℕ). b) x.samples.1

  normal_long : length (write_instrument normal x) ≡ least_instrument (count_of x) + (count_of x * least_head + length bytes)
  normal_long =
      instrument_size x g 0 []
      ∙ omega (arith, length-append (joined (λ (h : List ℕ). h) heads) bytes, heads_size (count_of x) heads g.samples_good.0)

  kept_fits : kept ≤ least_head
  kept_fits = smallest_fits (count_of x) heads g.samples_good.0

  stripped_long : length (write_instrument stripped x) ≡ least_stripped + length (write_fields x) + (count_of x * kept + length bytes)
  stripped_long =
      let cut = cut_heads_size (count_of x) kept heads kept_fits (cut_heads (count_of x) kept heads g.samples_good.0 (omega arith)) in
      stripped_size x g ∙ omega (arith, length-append (joined (take kept) heads) bytes, cut)

  some : 1 ≤ count_of x → 24 ≤ length (write_fields x)
  unfolding write_fields
  some h =
      let rest = count_of x / 256 ∷ (long kept ++ (x.voice ++ [])) in
      omega (arith, g.name_size, some_fields x.name x.type (count_of x % 256) rest (omega (arith, g.few)))

  none : count_of x ≡ 0 → length (write_fields x) ≤ 23
  unfolding write_fields
  none e =
      let same = ap₂ (λ (k h : ℕ). length (trimmed (flat (x.name ∷ byte x.type ∷ word k ∷ long h ∷ x.voice ∷ [])))) e (none_least heads e) in
      omega (arith, same, g.name_size, no_fields x.name x.voice x.type (rw e at g.voice_good))

-- What the parts add: an instrument, and a header by its order table
abbrev instrument_added : (kind to : ModuleKind) → ℕ
instrument_added normal normal = 0
instrument_added normal stripped = 0
instrument_added stripped normal = 875
instrument_added stripped stripped = 0

abbrev header_added : (kind to : ModuleKind) → ℕ
header_added normal normal = 0
header_added normal stripped = 0
header_added stripped normal = 255
header_added stripped stripped = 0

all_added : (kind to : ModuleKind) (n : ℕ) → n ≤ 128 → header_added kind to + n * instrument_added kind to ≤ added_most kind to
all_added normal normal n h = omega arith
all_added normal stripped n h = omega arith
all_added stripped normal n h = omega arith
all_added stripped stripped n h = omega arith

sizes_within : (kind to : ModuleKind) (song_length : ℕ) → (1 ≤ song_length) × (song_length ≤ 256)
    → least_header to song_length ≤ least_header kind song_length + header_added kind to
sizes_within normal normal song_length h = omega arith
sizes_within normal stripped song_length h = omega arith
sizes_within stripped normal song_length h = omega arith
sizes_within stripped stripped song_length h = omega arith

instrument_within : (kind to : ModuleKind) (x : Instrument) → GoodInstrument x
    → length (write_instrument to x) ≤ length (write_instrument kind x) + instrument_added kind to
instrument_within normal normal x g = omega arith
instrument_within stripped stripped x g = omega arith
instrument_within stripped normal x g =
    omega (arith, normal_long x g, stripped_long x g, grown (count_of x) (kept x g) (length (write_fields x)) (length (bytes x g)) g.few (some x g))
instrument_within normal stripped x g =
    let n = length (write_fields x) in
    omega (arith, normal_long x g, stripped_long x g, shrunk (count_of x) (kept x g) n (length (bytes x g)) (kept_fits x g) (none x g) (fields_most x g))

instruments_within : (kind to : ModuleKind) (n : ℕ) (xs : List Instrument) → EachGood (instrument_format kind) (replicate n tt) xs
    → length (joined (write_instrument to) xs) ≤ length (joined (write_instrument kind) xs) + n * instrument_added kind to
instruments_within kind to zero [] g = omega arith
instruments_within kind to zero (x ∷ xs) g = absurd g
instruments_within kind to (suc n) [] g = absurd g
instruments_within kind to (suc n) (x ∷ xs) g =
    omega (
      arith,
      length-append (write_instrument to x) (joined (write_instrument to) xs),
      length-append (write_instrument kind x) (joined (write_instrument kind) xs),
      instrument_within kind to x g.0,
      instruments_within kind to n xs g.1,
      suc-mul n (instrument_added kind to),
    )

-- The header, and the whole
header_within : (kind to : ModuleKind) (x : Header) → GoodHeader kind x
    → length (write_header to (without_tracker x)) ≤ length (write_header kind x) + header_added kind to
header_within kind to x g =
    omega (arith, header_size kind x g, header_size to (without_tracker x) (header_good kind to x g), sizes_within kind to x.song_length g.counts.0)

whole_long : (kind : ModuleKind) (x : Content)
    → length (pressed kind x) ≡ length (write_header kind x.0) + (length (joined write_pattern x.1.0) + length (joined (write_instrument kind) x.1.1))
whole_long kind x =
    let patterns = joined write_pattern x.1.0 in
    let instruments = joined (write_instrument kind) x.1.1 in
    length-append (write_header kind x.0) (patterns ++ instruments)
    ∙ ap (λ (n : ℕ). length (write_header kind x.0) + n) (length-append patterns instruments)

whole_within : (kind to : ModuleKind) (x : Content) → (module_format kind).Good tt x
    → length (pressed to (converted x)) ≤ length (pressed kind x) + added_most kind to
whole_within kind to x g =
    omega (
      arith,
      whole_long kind x,
      whole_long to (converted x),
      header_within kind to x.0 g.0,
      instruments_within kind to x.0.instruments x.1.1 g.1.1,
      all_added kind to x.0.instruments g.0.counts.1.1.1.0,
    )

-- A content that grows by just that: one order, one empty row, and 128 instruments of 16 samples whose headers have only zeros
empty_head : List ℕ
empty_head = replicate least_head 0

abbrev sampled : Instrument
sampled = record { name = replicate 22 0; type = 0; voice = replicate voice_size 0; samples = (replicate samples_most empty_head, replicate samples_most []) }

abbrev fullest : Content
fullest = (
  record {
    module_name = replicate 20 0;
    tracker_name = no_tracker;
    song_length = 1;
    restart = 0;
    channels = 1;
    patterns = 1;
    instruments = 128;
    flags = 0;
    tempo = 0;
    bpm = 0;
    orders = 0 ∷ [];
  },
  (empty_rows 1 1 ∷ [], replicate 128 sampled),
)

head_good : GoodHead empty_head
unfolding empty_head long_at all_pass
head_good = record { size = refl; plain = bytes_zeros least_head; tests = all_hold (head_tests 0 empty_head) refl }

sampled_good : GoodInstrument sampled
unfolding empty_head data_size long_at
sampled_good = record {
  name_size = refl;
  name_plain = bytes_zeros 22;
  type_byte = omega arith;
  few = omega arith;
  voice_good = (refl, bytes_zeros voice_size);
  samples_good = (
    each_replicate head_format least_head empty_head samples_most head_good,
    each_replicate data_format empty_head [] samples_most (record { size = refl; plain = bytes_nil }),
  );
}

row_good : GoodStored 1 (empty_rows 1 1)
row_good = record {
  pattern = rows_good 1 1 (omega arith) (omega arith) (omega arith);
  room = omega (arith, ap length (write_none (empty_rows 1 1) (rows_none 1 1)));
}

fullest_good : (module_format stripped).Good tt fullest
unfolding all_pass
fullest_good = (
  record {
    name_size = refl;
    name_plain = bytes_zeros 20;
    tracker_good = refl;
    counts = all_hold (count_tests 1 1 1 128 0) refl;
    restart_low = omega arith;
    flags_high = omega arith;
    tempo_high = omega arith;
    bpm_high = omega arith;
    orders_size = refl;
    orders_plain = bytes_zeros 1;
  },
  ((row_good, tt), each_replicate (instrument_format stripped) tt sampled 128 sampled_good),
)

-- in either kind as long as its parts are; and stripped it is a file
sampled_fields : length (write_fields sampled) ≡ 24
unfolding write_fields empty_head smallest_head trimmed before
sampled_fields = refl

sampled-kept : smallest_head sampled.samples.0 ≡ 0
unfolding empty_head smallest_head trimmed before
sampled-kept = refl

sampled-stripped : length (write_instrument stripped sampled) ≡ 28
sampled-stripped = stripped_long sampled sampled_good ∙ omega (arith, sampled_fields, ap (λ (n : ℕ). samples_most * n) sampled-kept)

fullest_stripped : length (pressed stripped fullest) ≡ 81 + (length (joined write_pattern fullest.1.0) + 3584)
fullest_stripped =
    whole_long stripped fullest
    ∙ omega (arith, header_size stripped fullest.0 fullest_good.0, joined-replicate (write_instrument stripped) sampled 128, sampled-stripped)

fullest_normal : length (pressed normal (converted fullest)) ≡ 336 + (length (joined write_pattern fullest.1.0) + 115584)
fullest_normal =
    let header = without_tracker fullest.0 in
    let size = header_size normal header (header_good stripped normal fullest.0 fullest_good.0) in
    whole_long normal (converted fullest)
    ∙ omega (arith, size, joined-replicate (write_instrument normal) sampled 128, normal_long sampled sampled_good)

fullest_file : FileOf (module_format stripped) fullest (pressed stripped fullest)
fullest_file =
    let pattern = write_pattern (empty_rows 1 1) in
    let size = pattern_size 1 (empty_rows 1 1) row_good in
    let none = ap length (write_none (empty_rows 1 1) (rows_none 1 1)) in
    let small : length (pressed stripped fullest) ≤ file_most = omega (arith, fullest_stripped, length-append pattern [], size, none) in
    pressed_file (module_format stripped) (module_back stripped) (module_keeps stripped) fullest fullest_good small

-- So by how much a file may grow, and when it is never over the limit
file_within : (kind to : ModuleKind) (content : Content) (file : List ℕ) → FileOf (module_format kind) content file
    → length (pressed to (converted content)) ≤ length file + added_most kind to
file_within kind to content file f =
    let back = module_back kind in
    let keeps = module_keeps kind in
    omega (
      arith,
      whole_within kind to content (file_good (module_format kind) back keeps f),
      pressed_shortest (module_format kind) back keeps f,
    )

pub converts_within : ConvertsWithin
converts_within = record {
  no_longer = file_within;
  room_enough = λ kind to content file room f l q.
      let d = converts_shortest kind to content file room f in
      let small : converting to file room ≡ refuses (2 at 0) → ⊥ = λ e. let z : ◌≡◌ {A = ℕ} 14 2 = sym (ap number_of q) ∙ ap number_of e in omega arith in
      let narrow = (d.no_room_exactly small).0 q (pressed to (converted content)) (d.written small) in
      omega (arith, narrow, file_within kind to content file f, file_size (module_format to) (module_back to) (module_keeps to) (d.written small));
  never_over = λ kind to content file room f l q.
      let over = (converts_shortest kind to content file room f).over_exactly.0 q in
      omega (arith, over, file_within kind to content file f);
  reached = (fullest, pressed stripped fullest, fullest_file, omega (arith, fullest_stripped, fullest_normal));
}

-- and a file that is converted comes back: in its own kind it is no longer than before
own_small : (kind : ModuleKind) (content : Content) (file : List ℕ) → FileOf (module_format kind) content file
    → length (pressed kind (converted content)) ≤ file_most
own_small normal content file f =
    omega (arith, file_within normal normal content file f, file_size (module_format normal) (module_back normal) (module_keeps normal) f)
own_small stripped content file f =
    omega (arith, file_within stripped stripped content file f, file_size (module_format stripped) (module_back stripped) (module_keeps stripped) f)

whole_content : (content : Content) (file : List ℕ) → FileOf (module_format stripped) content file → converted content ≡ content
whole_content content file f = stripped_content content (file_good (module_format stripped) (module_back stripped) (module_keeps stripped) f)

pub converts_back : ConvertsBack
converts_back = record {
  comes_back = λ kind to content file f room room' bytes e l.
      let d = converts_shortest kind to content file room f in
      let small : converting to file room ≡ refuses (2 at 0) → ⊥ = gives-refuses e in
      let same = gives_same (sym (d.given_else small (gives-refuses e)) ∙ e) in
      ap (λ (s : List ℕ). converting kind s room') (sym same) ∙ convert_gives to kind (d.written small) room' (own_small kind content file f) l;
  stripped_whole = whole_content;
  stripped_pressed = λ content file room f. as_pressed content file room f (dec_le (length (pressed stripped content)) room);
}
  where
    as_pressed : (content : Content) (file : List ℕ) (room : ℕ) → FileOf (module_format stripped) content file → Dec (length (pressed stripped content) ≤ room)
        → converting stripped file room ≡ pressing file room
    as_pressed content file room f (yes l) =
        let same = ap (pressed stripped) (whole_content content file f) in
        convert_gives stripped stripped f room (own_small stripped content file f) (omega (arith, ap length same))
        ∙ ap {B = Answer (List ℕ)} (λ (bytes : List ℕ). gives bytes) same
        ∙ sym (((kinds_told file).by_kind stripped content f).presses room
        ∙ press_gives (module_format stripped) (module_back stripped) (module_keeps stripped) f room l)
    as_pressed content file room f (no l) =
        let same = ap (pressed stripped) (whole_content content file f) in
        convert_narrow stripped stripped f room (own_small stripped content file f) (omega (arith, ap length same))
        ∙ sym (((kinds_told file).by_kind stripped content f).presses room
        ∙ press_narrow (module_format stripped) (module_back stripped) (module_keeps stripped) f room (omega arith))
