-- Laws of an instrument that was read and is written. Assumes nothing.
use Prim.Native.Nat.{ℕ, zero, suc, ◌+◌, ◌-◌, ◌*◌, ◌≤◌}
use mathlib.Core.List.{List, [], ◌∷◌, ◌++◌, append_assoc, append-nil}
use mathlib.Core.Path.{◌≡◌, refl, sym, ap, ap₂, ◌∙◌}
use native.Mathlib.Omega.{arith}
use lib.ListN.{length, take, drop, replicate, get_or, length-append, length-drop, length-map}
use lib.Seq.{take-add, take-take, drop-drop, length-take-le}
use Rattle.std.proofs.Common.{Fits, w8}
use Rattle.xm.specs.Number.{Bytes, byte_at, part, byte, word, long}
use Rattle.xm.specs.ModuleKind.{ModuleKind, normal, stripped, padded, before, trimmed}
use Rattle.xm.specs.Got.{got, AllHold, list_in, Told}
use Rattle.xm.specs.Format.{each, joined, flat}
use Rattle.xm.specs.Header.{kind_at}
use Rattle.xm.specs.Sample.{least_head, StretchFound, read_data, head_format, data_format, SamplesFound, samples_format, cut_samples_format, smallest_head}
use Rattle.xm.specs.Instrument.{least_instrument, least_stripped, voice_from, voice_size, instrument_size_at, count_at, sample_head_size_at, fields_of, instrument_tests}
use Rattle.xm.specs.Instrument.{Instrument, InstrumentFound, voice_of, read_instrument, write_voice, count_of, write_fields, write_instrument, GoodInstrument}
use Rattle.xm.specs.Instrument.{instrument_view}
use Rattle.xm.proofs.Number.{bytes_drop, bytes_take}
use Rattle.xm.proofs.Got.{no_true, passed, bind_got, got_value, got_used, got_carry}
use Rattle.xm.proofs.Cut.{padded-length, padded_bytes, padded-drop, padded-long, take-padded, drop-take, trimmed_le, trimmed-take}
use Rattle.xm.proofs.Sample.{smallest_fits}
use Rattle.xm.proofs.Instrument.{heads_used}
use Rattle.xm.proofs.Stripped.{instrument_keeps}
use Rattle.heads.proofs.SampleLaws.{samples_size}
use Rattle.steps.specs.Step.{InstrumentIs}
use Rattle.steps.specs.declared.instrument.InstrumentPart.{InstrumentPart}
use Rattle.steps.proofs.InstrumentLaws.{fields_pass, some_samples, found, AsRead, as_read, PartLies, part_lies, part_inside}
use Rattle.forms.specs.Form.{FormIs, form_by}
use Rattle.forms.specs.declared.Form.{Form}
use Rattle.forms.proofs.KeptLaws.{trimmed_front}
use Rattle.forms.proofs.FormLaws.{least_low}
use Rattle.writers.specs.Found.{instrument_as}
use Rattle.instruments.specs.Form.{FieldsFit}
use Rattle.fields.specs.Fields.{voice_in, fields_in, heads_cut}
use Rattle.writers.proofs.Kept.{part_split, byte-kept, word_kept}
use Rattle.fields.proofs.CutLaws.{padded_short, padded_front}
use Rattle.fields.proofs.PieceLaws.{fields_short, fields_size, heads_size, heads_whole}

-- The fields as they are read, of either kind of module: the bytes of the structure itself, through its cut
module _ (kind : ModuleKind) (place : ℕ) (s : List ℕ) (h : AllHold (instrument_tests kind place s)) where
  abbrev fields : List ℕ
  fields = fields_of kind s

  abbrev own : List ℕ
  own = take (instrument_size_at s) s

  fields_part : (from count : ℕ) → 1 ≤ count → from + count ≤ 241 → (kind ≡ normal → from + count ≤ instrument_size_at s)
      → part from count fields ≡ padded count (drop from own)
  fields_part from count some low whole = go kind h whole
    where
      go : (kind : ModuleKind) → AllHold (instrument_tests kind place s) → (kind ≡ normal → from + count ≤ instrument_size_at s)
          → part from count (fields_of kind s) ≡ padded count (drop from own)
      go normal h whole =
          let I = instrument_size_at s in
          let size = whole refl in
          let there = length-take-le I s (fields_pass normal place s h).there in
          sym
          (padded-long count (drop from own) (omega (arith, there, length-drop from own))
          ∙ ap (take count) (drop-take from I s (omega arith))
          ∙ take-take count (I - from) (drop from s) (omega arith))
      go stripped h whole =
          let n : 241 ≡ from + (241 - from) = omega arith in
          ap (λ (k : ℕ). part from count (padded k own)) n ∙ ap (take count) (padded-drop from (241 - from) own)
          ∙ take-padded count (241 - from) (drop from own) (omega arith)

  fields_plain : Bytes s → Bytes fields
  fields_plain b = go kind
    where
      go : (kind : ModuleKind) → Bytes (fields_of kind s)
      go normal = b
      go stripped = padded_bytes 241 (bytes_take (instrument_size_at s) b)

  fields_there : 29 ≤ length fields
  fields_there = go kind h
    where
      go : (kind : ModuleKind) → AllHold (instrument_tests kind place s) → 29 ≤ length (fields_of kind s)
      go normal h = h.0
      go stripped h = omega (arith, padded-length 241 own)

  -- name, type and k
  front_read : Bytes s → part 4 22 fields ++ (byte (byte_at 26 fields) ++ word (count_at fields)) ≡ padded 25 (drop 4 own)
  front_read b =
      sym
      (part_split 4 22 3 fields
      ∙ ap (λ (l : List ℕ). part 4 22 fields ++ l)
      (part_split 26 1 2 fields
      ∙ ap₂ (λ (x y : List ℕ). x ++ y) (byte-kept 26 fields (omega (arith, fields_there))) (word_kept 27 (fields_plain b) fields_there)))
      ∙ fields_part 4 25 (omega arith) (omega arith) (least kind h)
    where
      least : (kind : ModuleKind) → AllHold (instrument_tests kind place s) → kind ≡ normal → 29 ≤ instrument_size_at s
      least normal h e = h.1.0
      least stripped h e = absurd (no_true (cc))

  -- bytes 33 to 240
  voice_read : (k : ℕ) → count_at fields ≡ k → 1 ≤ k → voice_of k fields ≡ padded voice_size (drop voice_from own)
  voice_read zero e some = absurd (omega arith)
  voice_read (suc k) e some = fields_part voice_from voice_size (omega arith) (omega arith) (least kind h (omega arith))
    where
      least : (kind : ModuleKind) → AllHold (instrument_tests kind place s) → 1 ≤ count_at (fields_of kind s) → kind ≡ normal → 241 ≤ instrument_size_at s
      least normal h some e = omega (arith, some_samples place s h some)
      least stripped h some e = absurd (no_true (cc))

-- What is written of an instrument, by these bytes
regroup : (size name type count voice samples : List ℕ)
    → size ++ (name ++ (type ++ (count ++ (voice ++ (samples ++ []))))) ≡ (size ++ (name ++ (type ++ (count ++ voice)))) ++ samples
regroup size name type count voice samples = simp (append_assoc, append-nil)

regroup_fields : (name type count head voice : List ℕ) → name ++ (type ++ (count ++ (head ++ (voice ++ [])))) ≡ (name ++ (type ++ count)) ++ (head ++ voice)
regroup_fields name type count head voice = simp (append_assoc, append-nil)

none_smallest : (heads : List (List ℕ)) → length heads ≡ 0 → smallest_head heads ≡ 0
unfolding smallest_head
none_smallest [] e = refl
none_smallest (head ∷ heads) e = absurd (omega arith)

module _ (x : Instrument) (s : List ℕ) (front : x.name ++ (byte x.type ++ word (count_of x)) ≡ padded 25 (drop 4 s))
    (voiced : 1 ≤ count_of x → x.voice ≡ padded voice_size (drop voice_from s)) (bare : count_of x ≡ 0 → x.voice ≡ []) where
  abbrev start : List ℕ
  start = padded 25 (drop 4 s)

  -- in a normal module
  normal_fields : (n : ℕ) → count_of x ≡ n
      → x.name ++ (byte x.type ++ (word (count_of x) ++ write_voice n x.voice))
      ≡ padded (least_instrument n - least_stripped) (start ++ voice_in least_head s)
  unfolding write_voice
  normal_fields zero e =
      ap (λ (l : List ℕ). x.name ++ (byte x.type ++ l)) (append-nil (word (count_of x))) ∙ front
      ∙ sym (fields_short 29 (drop 4 s) (voice_in least_head s) (omega arith))
  normal_fields (suc n) e =
      let voice = padded voice_size (drop voice_from s) in
      let long_all : length (start ++ voice_in least_head s) ≡ 237 =
      length-append start (voice_in least_head s)
      ∙ omega (arith, padded-length 25 (drop 4 s), length-append (long least_head) voice, padded-length voice_size (drop voice_from s)) in
      regroup x.name (byte x.type) (word (count_of x)) (long least_head) x.voice (replicate 22 0)
      ∙ ap (λ (l : List ℕ). l ++ replicate 22 0) (sym (regroup_four x.name (byte x.type) (word (count_of x)) (long least_head) x.voice))
      ∙ ap₂ (λ (a b : List ℕ). (a ++ (long least_head ++ b)) ++ replicate 22 0) front (voiced (omega arith))
      ∙ sym (padded_short 259 (start ++ voice_in least_head s) (omega arith) ∙ ap (λ (k : ℕ). (start ++ voice_in least_head s) ++ replicate (259 - k) 0) long_all)
    where
      regroup_four : (name type count head voice : List ℕ) → (name ++ (type ++ count)) ++ (head ++ voice) ≡ name ++ (type ++ (count ++ (head ++ voice)))
      regroup_four name type count head voice = simp append_assoc

  written_normal : write_instrument normal x ≡ fields_in (least_instrument (count_of x)) least_head s ++ samples_format.write x.samples
  unfolding write_instrument
  written_normal =
      regroup (long (least_instrument (count_of x))) x.name (byte x.type) (word (count_of x)) (write_voice (count_of x) x.voice)
      (samples_format.write x.samples)
      ∙ ap (λ (l : List ℕ). (long (least_instrument (count_of x)) ++ l) ++ samples_format.write x.samples) (normal_fields (count_of x) refl)

  -- in a stripped one
  abbrev H : ℕ
  H = smallest_head x.samples.0

  abbrev all : List ℕ
  all = flat (x.name ∷ byte x.type ∷ word (count_of x) ∷ long H ∷ x.voice ∷ [])

  all_parts : all ≡ start ++ (long H ++ x.voice)
  all_parts = regroup_fields x.name (byte x.type) (word (count_of x)) (long H) x.voice ∙ ap (λ (l : List ℕ). l ++ (long H ++ x.voice)) front

  trimmed_all : write_fields x ≡ padded (length (write_fields x)) all
  unfolding write_fields
  trimmed_all = trimmed-take all ∙ sym (padded-long (length (trimmed all)) all (trimmed_le all))

  trimmed_short : count_of x ≡ 0 → length (write_fields x) ≤ length start
  unfolding write_fields trimmed before
  trimmed_short z =
      let none : length (trimmed (long H ++ x.voice)) ≡ 0 =
      ap₂ (λ (h : ℕ) (v : List ℕ). length (trimmed (long h ++ v))) (none_smallest x.samples.0 z) (bare z) in
      omega (arith, ap (λ (l : List ℕ). length (trimmed l)) all_parts, ap length (trimmed_front start (long H ++ x.voice) none), trimmed_le start)

  stripped_fields : (n : ℕ) → count_of x ≡ n → write_fields x ≡ padded (length (write_fields x)) (start ++ voice_in H s)
  stripped_fields zero e =
      let n = length (write_fields x) in
      trimmed_all ∙ ap (padded n) all_parts ∙ padded_front n start (long H ++ x.voice) (trimmed_short e)
      ∙ sym (padded_front n start (voice_in H s) (trimmed_short e))
  stripped_fields (suc n) e =
      trimmed_all ∙ ap (padded (length (write_fields x))) (all_parts ∙ ap (λ (l : List ℕ). start ++ (long H ++ l)) (voiced (omega arith)))

  written_stripped : write_instrument stripped x ≡ fields_in (least_stripped + length (write_fields x)) H s ++ (cut_samples_format H).write x.samples
  unfolding write_instrument
  written_stripped =
      let size = long (least_stripped + length (write_fields x)) in
      let n : length (write_fields x) ≡ least_stripped + length (write_fields x) - least_stripped = omega arith in
      ap (λ (l : List ℕ). size ++ (write_fields x ++ l)) (append-nil ((cut_samples_format H).write x.samples))
      ∙ sym (append_assoc size (write_fields x) ((cut_samples_format H).write x.samples))
      ∙ ap (λ (l : List ℕ). (size ++ l) ++ (cut_samples_format H).write x.samples)
      (stripped_fields (count_of x) refl ∙ ap (λ (k : ℕ). padded k (start ++ voice_in H s)) n)

  -- its fields are no more than there are
  stripped_high : length (write_fields x) ≤ 237
  unfolding write_fields
  stripped_high =
      omega (
        arith,
        trimmed_le all,
        ap length all_parts,
        length-append start (long H ++ x.voice),
        length-append (long H) x.voice,
        padded-length 25 (drop 4 s),
        voice_few (count_of x) refl,
      )
    where
      voice_few : (n : ℕ) → count_of x ≡ n → length x.voice ≤ 208
      voice_few zero e = omega (arith, ap length (bare e))
      voice_few (suc n) e = omega (arith, ap length (voiced (omega arith)), padded-length voice_size (drop voice_from s))

-- The data of all samples, back to back
data_flat : (heads : List (List ℕ)) (place : ℕ) (s : List ℕ) (ds : List StretchFound) (n : ℕ) → (each data_format).read heads place s ≡ got ds n
    → (each data_format).write ((each data_format).view ds) ≡ take n s
unfolding read_data
data_flat [] place s ds n e = got_carry (λ (r : List StretchFound) (u : ℕ). (each data_format).write ((each data_format).view r) ≡ take u s) e refl
data_flat (h ∷ hs) place s ds n e =
    bind_got _ _ e λ i k ei e₁. bind_got _ _ e₁ λ js m ej e₂.
    passed _ _ ei λ t ei.
    let own : i.bytes ≡ take k s = ap StretchFound.bytes (sym (got_value ei)) ∙ ap (λ (u : ℕ). take u s) (got_used ei) in
    got_carry (λ (r : List StretchFound) (u : ℕ). (each data_format).write ((each data_format).view r) ≡ take u s) e₂
    (ap₂ (λ (x y : List ℕ). x ++ y) own (data_flat hs (place + k) (drop k s) js m ej) ∙ sym (take-add k m s))

data_behind : (count size place : ℕ) (s : List ℕ) (v : SamplesFound) (n : ℕ) → samples_format.read (replicate count size) place s ≡ got v n
    → (each data_format).write ((each data_format).view v.1) ≡ part (count * size) (n - count * size) s
data_behind count size place s v n e =
    bind_got _ _ e λ hs m eh e₁. bind_got _ _ e₁ λ ds k ed e₂.
    let used = heads_used count size place s hs m eh in
    let left : k ≡ m + k - count * size = omega (arith, used) in
    got_carry (λ (r : SamplesFound) (u : ℕ). (each data_format).write ((each data_format).view r.1) ≡ part (count * size) (u - count * size) s) e₂
    (data_flat ((each head_format).view hs) (place + m) (drop m s) ds k ed ∙ ap₂ (λ (o u : ℕ). part o u s) used left)

-- An instrument that was read at a place, and the form in which it is written
module _ (file : List ℕ) (place : ℕ) (piece : InstrumentPart) where
  abbrev from : List ℕ
  from = drop place file

  abbrev cut : List ℕ
  cut = take piece.size from

  abbrev heads : ℕ
  heads = place + piece.size

  abbrev behind : ℕ
  behind = heads + piece.samples * piece.head_size

  abbrev pub fields_by : Form → List ℕ
  fields_by form = fields_in form.size form.head_size cut

  abbrev pub heads_by : Form → List ℕ
  heads_by form = heads_cut piece.samples piece.head_size form.head_size (drop heads file)

  pub record InstrumentLies (to : ModuleKind) (form : Form) : Type 0 where
    pub there : heads ≤ length file
    pub headed : behind ≤ piece.next
    pub inside : piece.next ≤ length file
    pub low : least_stripped ≤ form.size
    pub fits : FieldsFit to piece form
    pub kept : form.head_size ≤ least_head
    pub heads_long : length (heads_by form) ≡ piece.samples * form.head_size
    pub long : form.length ≡ length (instrument_as to file place)
    pub sum : form.length ≡ form.size + piece.samples * form.head_size + (piece.next - behind)
    pub written : instrument_as to file place ≡ fields_by form ++ (heads_by form ++ take (piece.next - behind) (drop behind file))

  module _ (is : InstrumentIs file place piece) (b : Bytes file) where
    abbrev kind : ModuleKind
    kind = kind_at file

    abbrev r : AsRead file kind place piece
    r = as_read file kind place is

    abbrev lies : PartLies file kind place r
    lies = part_lies file kind place r

    abbrev x : Instrument
    x = instrument_view (found file kind place r.samples)

    abbrev k : ℕ
    k = count_at (fields_of kind from)

    -- its bytes
    counted : count_of x ≡ k
    counted = length-map r.samples.0 StretchFound.bytes ∙ sym (ap InstrumentPart.samples r.same) ∙ lies.count

    front : x.name ++ (byte x.type ++ word (count_of x)) ≡ padded 25 (drop 4 cut)
    front =
        ap (λ (n : ℕ). x.name ++ (byte x.type ++ word n)) counted
        ∙ front_read kind place from r.tests (bytes_drop place b)
        ∙ ap (λ (n : ℕ). padded 25 (drop 4 (take n from))) (sym lies.size)

    voiced : 1 ≤ count_of x → x.voice ≡ padded voice_size (drop voice_from cut)
    voiced some =
        voice_read kind place from r.tests k refl (omega (arith, counted))
        ∙ ap (λ (n : ℕ). padded voice_size (drop voice_from (take n from))) (sym lies.size)

    bare : count_of x ≡ 0 → x.voice ≡ []
    bare z = ap (λ (n : ℕ). voice_of n (fields_of kind from)) (sym counted ∙ z)

    abbrev bytes : List ℕ
    bytes = (each data_format).write x.samples.1

    data_own : bytes ≡ take (piece.next - behind) (drop behind file)
    data_own =
        let H = sample_head_size_at (fields_of kind from) in
        let I = instrument_size_at from in
        let s = samples_size k H (place + I) (drop I from) r.samples r.used r.reads in
        let next = ap InstrumentPart.next r.same in
        let sum : place + (I + k * H) ≡ behind = omega (arith, lies.ends, lies.size, s.behind) in
        let left : r.used - k * H ≡ piece.next - behind = omega (arith, lies.ends, s.behind) in
        data_behind k H (place + I) (drop I from) r.samples r.used r.reads
        ∙ ap₂ (λ (n : ℕ) (l : List ℕ). take n l) left (drop-drop (k * H) I from ∙ drop-drop (I + k * H) place file ∙ ap (λ (n : ℕ). drop n file) sum)

    -- its headers, of 40 bytes or as many as are kept
    samples_whole : samples_format.write x.samples ≡ heads_cut piece.samples piece.head_size least_head (drop heads file) ++ bytes
    samples_whole =
        ap (λ (l : List (List ℕ)). joined (λ (head : List ℕ). head) l ++ bytes) lies.views
        ∙ ap (λ (l : List ℕ). l ++ bytes) (heads_whole piece.samples piece.head_size (drop heads file))

    samples_cut : (size : ℕ) → (cut_samples_format size).write x.samples ≡ heads_cut piece.samples piece.head_size size (drop heads file) ++ bytes
    samples_cut size = ap (λ (l : List (List ℕ)). joined (take size) l ++ bytes) lies.views

    good : GoodInstrument x
    good = ((instrument_keeps kind).keeps place from (found file kind place r.samples) (instrument_size_at from + r.used) (bytes_drop place b) r.is).good

    -- its form, in a module of either kind
    record Shape (to : ModuleKind) (form : Form) : Type 0 where
      low : least_stripped ≤ form.size
      fits : FieldsFit to piece form
      kept : form.head_size ≤ least_head
      long : form.length ≡ length (write_instrument to x)
      written : write_instrument to x ≡ fields_by form ++ (heads_by form ++ bytes)

    shape : (to : ModuleKind) → Shape to (form_by to x)
    shape normal = record {
      low = omega (arith, least_low (count_of x));
      fits = (ap least_instrument (counted ∙ sym lies.count), refl);
      kept = omega arith;
      long = refl;
      written = written_normal x cut front voiced bare ∙ ap (λ (l : List ℕ). fields_by (form_by normal x) ++ l) samples_whole;
    }
    shape stripped = record {
      low = omega arith;
      fits = (omega arith, omega (arith, stripped_high x cut front voiced bare), smallest_fits (count_of x) x.samples.0 good.samples_good.0);
      kept = smallest_fits (count_of x) x.samples.0 good.samples_good.0;
      long = refl;
      written = written_stripped x cut front voiced bare ∙ ap (λ (l : List ℕ). fields_by (form_by stripped x) ++ l) (samples_cut (smallest_head x.samples.0));
    }

    instrument_lies : {to : ModuleKind} {form : Form} → Told (λ i. FormIs to place piece.next (instrument_view i) form) (read_instrument kind place from)
        → InstrumentLies to form
    instrument_lies {to} {form} told =
        let f : FormIs to place piece.next x form = rw r.is at told in
        let w : Shape to form = rw f.is (shape to) in
        let reads : instrument_as to file place ≡ write_instrument to x = ap (list_in (λ (i : InstrumentFound). write_instrument to (instrument_view i))) r.is in
        let heads_long = heads_size piece.head_size form.head_size w.kept piece.samples (drop heads file) in
        record {
          there = lies.there;
          headed = omega (arith, lies.ends);
          inside = part_inside file kind place r b;
          low = w.low;
          fits = w.fits;
          kept = w.kept;
          heads_long = heads_long;
          long = w.long ∙ ap length (sym reads);
          sum =
              w.long ∙ ap length w.written ∙ length-append (fields_by form) (heads_by form ++ bytes)
              ∙ omega (arith, fields_size form.size form.head_size cut w.low, length-append (heads_by form) bytes, heads_long, lies.ends);
          written = reads ∙ w.written ∙ ap (λ (l : List ℕ). fields_by form ++ (heads_by form ++ l)) data_own;
        }

-- Of the bytes of a slice
pub written_lies : {file : List ℕ} {place : ℕ} {piece : InstrumentPart} {to : ModuleKind} {form : Form} → InstrumentIs file place piece
    → ((i : ℕ) → Fits w8 (get_or file i 0)) → Told (λ i. FormIs to place piece.next (instrument_view i) form) (read_instrument (kind_at file) place (drop place file))
    → InstrumentLies file place piece to form
written_lies {file} {place} {piece} is fits told = instrument_lies file place piece is (record { below = λ i. omega (arith, fits i) }) told
