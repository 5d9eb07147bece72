-- Laws of instruments of a stripped module, and of instruments of either kind. Assumes nothing.
use Prim.Native.Nat.{ℕ, zero, suc, ◌+◌, ◌*◌, ◌/◌, ◌%◌, ◌≤◌, ◌<◌}
use mathlib.Core.List.{List, [], ◌∷◌, ◌++◌, append_assoc, append-nil}
use mathlib.Core.Path.{◌≡◌, refl, sym, ap, ap₂, ◌∙◌, subst}
use native.Mathlib.Omega.{arith}
use lib.Dec.{ltb}
use lib.ListN.{length, take, drop, replicate, length-append, length-drop, length-replicate}
use lib.Seq.{take_at, take_all, drop_at, length-take-le}
use Rattle.xm.specs.Number.{Bytes, byte_at, word_at, long_at, part, byte, word, long}
use Rattle.xm.specs.ModuleKind.{ModuleKind, normal, stripped, padded, before, trimmed}
use Rattle.xm.specs.Got.{got, AllHold, present, at_least, at_most, when, ◌at◌}
use Rattle.xm.specs.Format.{joined, flat, EachGood}
use Rattle.xm.specs.Sample.{least_head, Samples, SamplesFound, samples_format, cut_samples_format, cut_head_format, smallest_head, head_format}
use Rattle.xm.specs.Instrument.{least_stripped, samples_most, voice_size, voice_of, fields_of, instrument_tests, Instrument, InstrumentFound}
use Rattle.xm.specs.Instrument.{read_instrument, write_fields, write_instrument, GoodVoice, GoodInstrument, instrument_view, instrument_format}
use Rattle.xm.specs.Demands.{InstrumentOf, head_size_in, SmallestSizes}
use Rattle.xm.proofs.Number.{bytes_drop, bytes_take, bytes_append, bytes_nil, bytes_cons, agree_long, agree_take, agree_drop}
use Rattle.xm.proofs.Got.{pass, step, passed, bind_got, got_both, got_carry}
use Rattle.xm.proofs.Format.{cons_path, Back, ReadsBack, Keeps, Held, Firm, each_length}
use Rattle.xm.proofs.Field.{Field, byte_field, word_field, long_field, text_field, ◌⊗◌, word_plain, long_plain, long_back}
use Rattle.xm.proofs.Cut.{padded-length, padded_bytes, padded-append, padded_all, padded-drop, padded-trimmed}
use Rattle.xm.proofs.Cut.{trimmed-padded, trimmed_bytes, trimmed_le, trimmed_mono, trimmed_four}
use Rattle.xm.proofs.Sample.{samples_firm, cut_samples_back, cut_samples_keeps, samples_alike, smallest_least}
use Rattle.xm.proofs.Sample.{smallest_fits, cut_heads, whole_heads, heads_mono, cut_heads_size}
use Rattle.xm.proofs.Instrument.{found_path, samples_used, normal_back, normal_keeps, normal_firm}

-- The fields behind I: name, type, k, H, bytes 33 to 240
abbrev Fields : Type 0
Fields = List ℕ × (ℕ × (ℕ × (ℕ × List ℕ)))

abbrev fields : Field Fields
fields = text_field 22 ⊗ byte_field ⊗ word_field ⊗ long_field ⊗ text_field voice_size

-- The tests are of four numbers: I, k, H and the bytes there are
abbrev TestsOf : (I k H n : ℕ) → Type 0
TestsOf I k H n = AllHold (
    present least_stripped n (1 at 0)
    ∷ at_least least_stripped I (10 at 0)
    ∷ present I n (1 at 0)
    ∷ at_most samples_most k (10 at 0)
    ∷ when (ltb 0 k) (present (I + k * H) n (1 at 0))
    ∷ [])

-- A voice: what there is of it, and how it reads
voice_bytes : (k : ℕ) (voice : List ℕ) → GoodVoice k voice → Bytes voice
voice_bytes zero voice g = rw g bytes_nil
voice_bytes (suc k) voice g = g.1

voice_most : (k : ℕ) (voice : List ℕ) → GoodVoice k voice → length voice ≤ voice_size
voice_most zero voice g = rw g (omega arith)
voice_most (suc k) voice g = omega (arith, g.0)

voice_reads : (k : ℕ) (voice s : List ℕ) → GoodVoice k voice → part 33 voice_size s ≡ padded voice_size voice → voice_of k s ≡ voice
voice_reads zero voice s g e = sym g
voice_reads (suc k) voice s g e = e ∙ ap (λ (n : ℕ). padded n voice) (sym g.0) ∙ padded_all voice

good_voice : (k : ℕ) (s : List ℕ) → (length (part 33 voice_size s) ≡ voice_size) × Bytes (part 33 voice_size s) → GoodVoice k (voice_of k s)
good_voice zero s h = refl
good_voice (suc k) s h = h

-- What is written
module _ (x : Instrument) (g : GoodInstrument x) where
  abbrev count : ℕ
  count = length x.samples.0

  abbrev least : ℕ
  least = smallest_head x.samples.0

  abbrev size : ℕ
  size = least_stripped + length (write_fields x)

  -- the fields in front of the voice
  abbrev front : List ℕ
  front = x.name ++ (byte x.type ++ (word count ++ long least))

  front_long : length front ≡ 29
  front_long = length-append x.name (byte x.type ++ (word count ++ long least)) ∙ omega (arith, g.name_size)

  heads_cut : EachGood (cut_head_format least) (replicate count least) x.samples.0
  heads_cut = cut_heads count least x.samples.0 g.samples_good.0 (omega arith)

  least_fits : least ≤ least_head
  least_fits = smallest_fits count x.samples.0 g.samples_good.0

  all_fields : flat (x.name ∷ byte x.type ∷ word count ∷ long least ∷ x.voice ∷ []) ≡ front ++ x.voice
  all_fields = simp (append_assoc, append-nil)

  pub fields_most : length (write_fields x) ≤ 237
  unfolding write_fields
  fields_most =
      let f = flat (x.name ∷ byte x.type ∷ word count ∷ long least ∷ x.voice ∷ []) in
      omega (arith, trimmed_le f, ap length all_fields, length-append front x.voice, front_long, voice_most count x.voice g.voice_good)

  row : Fields
  row = (x.name, (x.type, (count, (least, padded voice_size x.voice))))

  voice_fits : (length (padded voice_size x.voice) ≡ voice_size) × Bytes (padded voice_size x.voice)
  voice_fits = (padded-length voice_size x.voice, padded_bytes voice_size (voice_bytes count x.voice g.voice_good))

  row_fits : fields.Fits row
  unfolding row
  row_fits = ((g.name_size, g.name_plain), (g.type_byte, (omega (arith, g.few), (omega (arith, least_fits), voice_fits))))

  fields_padded : padded 237 (write_fields x) ≡ fields.put row
  unfolding write_fields row
  fields_padded =
      trimmed-padded 237 (flat (x.name ∷ byte x.type ∷ word count ∷ long least ∷ x.voice ∷ []))
      ∙ ap (padded 237) all_fields
      ∙ ap (λ (n : ℕ). padded n (front ++ x.voice)) (sym (ap (λ (n : ℕ). n + voice_size) front_long))
      ∙ padded-append voice_size front x.voice
      ∙ simp append_assoc

  abbrev samples_bytes : List ℕ
  samples_bytes = (cut_samples_format least).write x.samples

  write_parts : (rest : List ℕ) → write_instrument stripped x ++ rest ≡ (long size ++ write_fields x) ++ (samples_bytes ++ rest)
  unfolding write_instrument
  write_parts rest = simp (append_assoc, append-nil)

  pub stripped_size : length (write_instrument stripped x) ≡ size + length samples_bytes
  stripped_size =
      let no_rest = ap (λ (l : List ℕ). long size ++ write_fields x ++ l) (append-nil samples_bytes) in
      ap length (sym (append-nil (write_instrument stripped x)) ∙ write_parts [] ∙ no_rest)
      ∙ length-append (long size ++ write_fields x) samples_bytes
      ∙ ap (λ (n : ℕ). n + length samples_bytes) (length-append (long size) (write_fields x))

  samples_most_lem : count * least ≤ length samples_bytes
  samples_most_lem =
      let heads = x.samples.0 in
      let bytes = joined (λ (b : List ℕ). b) x.samples.1 in
      omega (arith, length-append (joined (take least) heads) bytes, cut_heads_size count least heads least_fits heads_cut)

  -- is read back
  module _ (place : ℕ) (rest : List ℕ) where
    abbrev file : List ℕ
    file = write_instrument stripped x ++ rest

    front_size : length (long size ++ write_fields x) ≡ size
    front_size = length-append (long size) (write_fields x)

    size_reads : long_at 0 file ≡ size
    size_reads =
        ap (long_at 0) (write_parts rest ∙ append_assoc (long size) (write_fields x) (samples_bytes ++ rest))
        ∙ long_back [] size (write_fields x ++ (samples_bytes ++ rest)) (omega (arith, fields_most))

    fields_read : fields_of stripped file ≡ long size ++ fields.put row
    fields_read =
        ap (λ (n : ℕ). padded 241 (take n file)) size_reads
        ∙ ap (λ (l : List ℕ). padded 241 (take size l)) (write_parts rest)
        ∙ ap (padded 241) (take_at (long size ++ write_fields x) (samples_bytes ++ rest) size front_size)
        ∙ padded-append 237 (long size) (write_fields x)
        ∙ ap (λ (l : List ℕ). long size ++ l) fields_padded

    row_reads : fields.get 4 (fields_of stripped file) ≡ row
    row_reads =
        ap (fields.get 4) (fields_read ∙ ap (λ (l : List ℕ). long size ++ l) (sym (append-nil (fields.put row))))
        ∙ fields.back (long size) row [] row_fits

    samples_at : drop size file ≡ samples_bytes ++ rest
    samples_at = ap (drop size) (write_parts rest) ∙ drop_at (long size ++ write_fields x) (samples_bytes ++ rest) size front_size

    reads_tests : AllHold (instrument_tests stripped place file)
    unfolding row
    reads_tests =
        let l : size + length samples_bytes ≤ length file = omega (arith, length-append (write_instrument stripped x) rest, stripped_size) in
        subst (λ (I : ℕ). TestsOf I (word_at 27 (fields_of stripped file)) (long_at 29 (fields_of stripped file)) (length file)) (sym size_reads)
        (subst (λ (r : Fields). TestsOf size r.1.1.0 r.1.1.1.0 (length file)) (sym row_reads)
        (omega arith, (omega arith, (omega arith, (g.few, ((λ q. omega (arith, samples_most_lem)), tt))))))

    reads_samples : ReadsBack (cut_samples_format least) (replicate count least) (place + size) x.samples rest
    reads_samples = (cut_samples_back count least least_fits).back (place + size) x.samples rest (heads_cut, g.samples_good.1)

    stripped_found : InstrumentFound
    stripped_found = record { place = place; size = size; name = x.name; type = x.type; voice = x.voice; samples = reads_samples.found }

    reads_all : read_instrument stripped place file ≡ got stripped_found (length (write_instrument stripped x))
    unfolding read_instrument stripped_found row
    reads_all =
        let f = fields_of stripped file in
        let k : word_at 27 f ≡ count = ap (λ (r : Fields). r.1.1.0) row_reads in
        let H : long_at 29 f ≡ least = ap (λ (r : Fields). r.1.1.1.0) row_reads in
        let I = long_at 0 file in
        let r : samples_format.read (replicate (word_at 27 f) (long_at 29 f)) (place + I) (drop I file) ≡ got reads_samples.found (length samples_bytes) =
        ap₂ (λ (k H : ℕ). samples_format.read (replicate k H) (place + I) (drop I file)) k H
        ∙ ap (λ (I : ℕ). samples_format.read (replicate count least) (place + I) (drop I file)) size_reads
        ∙ ap (samples_format.read (replicate count least) (place + size)) samples_at
        ∙ sym (samples_alike least (place + size) (replicate count least) (samples_bytes ++ rest))
        ∙ reads_samples.reads in
        pass (instrument_tests stripped place file) reads_tests
        (step _ r
        (got_both
        (found_path size_reads (ap (λ (r : Fields). r.0) row_reads) (ap (λ (r : Fields). r.1.0) row_reads)
        (ap (λ (k : ℕ). voice_of k f) k ∙ voice_reads count x.voice f g.voice_good (ap (λ (r : Fields). r.1.1.1.1) row_reads)))
        (ap (λ (n : ℕ). n + length samples_bytes) size_reads ∙ sym stripped_size)))

stripped_plain : (x : Instrument) → GoodInstrument x → Bytes (write_instrument stripped x)
unfolding write_instrument write_fields
stripped_plain x g =
    bytes_append (long_plain (size x g) (omega (arith, fields_most x g)))
    (bytes_append
    (trimmed_bytes
    (bytes_append g.name_plain
    (bytes_append (bytes_cons g.type_byte bytes_nil)
    (bytes_append (word_plain (count x g) (omega (arith, g.few)))
    (bytes_append (long_plain (least x g) (omega (arith, least_fits x g))) (bytes_append (voice_bytes (count x g) x.voice g.voice_good) bytes_nil))))))
    (bytes_append ((cut_samples_back (count x g) (least x g) (least_fits x g)).plain x.samples (heads_cut x g, g.samples_good.1)) bytes_nil))

pub stripped_back : Back (instrument_format stripped) tt
unfolding stripped_found
stripped_back = record {
  back = λ place x rest g. record {
    found = stripped_found x g place rest;
    reads = reads_all x g place rest;
    same = ap (λ (v : Samples). record { name = x.name; type = x.type; voice = x.voice; samples = v }) (reads_samples x g place rest).same;
  };
  plain = stripped_plain;
}

-- What is read: its fields are written in no more than I bytes. H may grow smaller, and the rest stays
long_low : (n : ℕ) → n < 256 → long n ≡ n ∷ 0 ∷ 0 ∷ 0 ∷ []
long_low n h = cons_path (omega arith) (cons_path (omega arith) (cons_path (omega arith) (cons_path (omega arith) refl)))

pub none_least : (heads : List (List ℕ)) → length heads ≡ 0 → smallest_head heads ≡ 0
unfolding smallest_head
none_least [] e = refl
none_least (x ∷ xs) e = absurd (omega arith)

no_tail : trimmed (long 0 ++ []) ≡ []
unfolding trimmed before
no_tail = refl

tail_short : (k kept H : ℕ) (s : List ℕ) → (k ≡ 0 → kept ≡ 0) → kept ≤ H → kept < 256 → H < 4294967296
    → length (trimmed (long kept ++ voice_of k s)) ≤ length (trimmed (long H ++ part 33 voice_size s))
tail_short zero kept H s none l low high = omega (arith, ap (λ (n : ℕ). length (trimmed (long n ++ []))) (none refl), ap length no_tail)
tail_short (suc k) kept H s none l low high =
    let voice = part 33 voice_size s in
    let four = trimmed_four kept (H % 256) (H / 256 % 256) (H / 65536 % 256) (H / 16777216) voice (omega arith) in
    omega (arith, ap (λ (n : List ℕ). length (trimmed (n ++ voice))) (long_low kept low), four)

module _ (s : List ℕ) (b : Bytes s) (inside : long_at 0 s ≤ length s) (low : least_stripped ≤ long_at 0 s) where
  abbrev from : List ℕ
  from = fields_of stripped s

  from_long : length from ≡ 241
  from_long = padded-length 241 (take (long_at 0 s) s)

  from_bytes : Bytes from
  from_bytes = padded_bytes 241 (bytes_take (long_at 0 s) b)

  from_fits : fields.Fits (fields.get 4 from)
  from_fits = fields.fits 4 from from_bytes (omega (arith, from_long))

  put_back : fields.put (fields.get 4 from) ≡ padded 237 (drop 4 (take (long_at 0 s) s))
  put_back =
      fields.forth 4 from from_bytes (omega (arith, from_long))
      ∙ take_all 237 (drop 4 from) (omega (arith, length-drop 4 from, from_long))
      ∙ padded-drop 4 237 (take (long_at 0 s) s)

  fields_short : (kept : ℕ) → (word_at 27 from ≡ 0 → kept ≡ 0) → kept ≤ long_at 29 from → kept < 256
      → let k = word_at 27 from in
      least_stripped + length (trimmed (part 4 22 from ++ (byte (byte_at 26 from) ++ (word k ++ (long kept ++ voice_of k from))))) ≤ long_at 0 s
  fields_short kept none l high =
      let name = part 4 22 from in
      let type = byte (byte_at 26 from) in
      let k = word (word_at 27 from) in
      let short = long kept ++ voice_of (word_at 27 from) from in
      let whole = long (long_at 29 from) ++ part 33 voice_size from in
      let tail = tail_short (word_at 27 from) kept (long_at 29 from) from none l high from_fits.1.1.1.0 in
      let t₁ = trimmed_mono k short whole tail in
      let t₂ = trimmed_mono type (k ++ short) (k ++ whole) t₁ in
      let t₃ = trimmed_mono name (type ++ (k ++ short)) (type ++ (k ++ whole)) t₂ in
      let own = take (long_at 0 s) s in
      let same = ap (λ (l : List ℕ). length (trimmed l)) put_back in
      omega (arith, same, padded-trimmed 237 (drop 4 own), length-drop 4 own, length-take-le (long_at 0 s) s inside)

-- An instrument that passed its tests, with its samples
module _ (place : ℕ) (s : List ℕ) (b : Bytes s) (h : AllHold (instrument_tests stripped place s)) (v : SamplesFound) (m : ℕ)
    (ev :
    let f = fields_of stripped s in
    samples_format.read (replicate (word_at 27 f) (long_at 29 f)) (place + long_at 0 s) (drop (long_at 0 s) s) ≡ got v m) where
  abbrev k : ℕ
  k = word_at 27 (fields_of stripped s)

  abbrev H : ℕ
  H = long_at 29 (fields_of stripped s)

  abbrev heads : List (List ℕ)
  heads = (samples_format.view v).0

  abbrev found : InstrumentFound
  found =
      let f = fields_of stripped s in
      record { place = place; size = long_at 0 s; name = part 4 22 f; type = byte_at 26 f; voice = voice_of k f; samples = v }

  samples_held : Held (cut_samples_format H) (replicate k H) (place + long_at 0 s) (drop (long_at 0 s) s) v m
  samples_held =
      let I = long_at 0 s in
      (cut_samples_keeps k H).keeps (place + I) (drop I s) v m (bytes_drop I b) (samples_alike H (place + I) (replicate k H) (drop I s) ∙ ev)

  heads_count : length heads ≡ k
  heads_count = each_length (cut_head_format H) (replicate k H) heads samples_held.good.0 ∙ length-replicate k H

  heads_good : EachGood head_format (replicate (length heads) least_head) heads
  heads_good = whole_heads k H heads samples_held.good.0

  found_good : GoodInstrument (instrument_view found)
  found_good =
      let fit = from_fits s b h.1.1.0 h.1.0 in
      record {
        name_size = fit.0.0;
        name_plain = fit.0.1;
        type_byte = fit.1.0;
        few = omega (arith, heads_count, h.1.1.1.0);
        voice_good = rw heads_count (good_voice k (fields_of stripped s) fit.1.1.1.1);
        samples_good = (heads_good, samples_held.good.1);
      }

  -- the smallest H is no more than H, and the smallest I no more than I
  head_low : smallest_head heads ≤ H
  head_low = smallest_least H (replicate k H) heads samples_held.good.0

  size_low : least_stripped + length (write_fields (instrument_view found)) ≤ long_at 0 s
  unfolding write_fields
  size_low =
      let f = fields_of stripped s in
      let least = smallest_head heads in
      let same : length (trimmed (flat (part 4 22 f ∷ byte (byte_at 26 f) ∷ word (length heads) ∷ long least ∷ voice_of k f ∷ [])))
      ≡ length (trimmed (part 4 22 f ++ (byte (byte_at 26 f) ++ (word k ++ (long least ++ voice_of k f))))) =
      ap₂ (λ (c : ℕ) (t : List ℕ). length (trimmed (part 4 22 f ++ (byte (byte_at 26 f) ++ (word c ++ (long least ++ t))))))
      heads_count (append-nil (voice_of k f)) in
      let fits : least < 256 = omega (arith, smallest_fits (length heads) heads heads_good) in
      omega (arith, same, fields_short s b h.1.1.0 h.1.0 least (λ q. none_least heads (heads_count ∙ q)) head_low fits)

  found_held : Held (instrument_format stripped) tt place s found (long_at 0 s + m)
  found_held =
      let w = samples_held in
      let bytes = joined (λ (d : List ℕ). d) (samples_format.view v).1 in
      record {
        inside = omega (arith, w.inside, length-drop (long_at 0 s) s, h.1.1.0);
        good = found_good;
        short = omega (
          arith,
          stripped_size (instrument_view found) found_good,
          size_low,
          w.short,
          heads_mono (smallest_head heads) H heads head_low,
          length-append (joined (take (smallest_head heads)) heads) bytes,
          length-append (joined (take H) heads) bytes,
        );
      }

pub stripped_keeps : Keeps (instrument_format stripped) tt
unfolding read_instrument
stripped_keeps = record {
  keeps = λ place s i n b e.
      passed _ _ e λ h e. bind_got _ _ e λ v m ev e.
      got_carry (λ (r : InstrumentFound) (t : ℕ). Held (instrument_format stripped) tt place s r t) e (found_held place s b h v m ev);
}

-- An instrument that is read has no smaller H and no smaller I than what is written of its content
module _ (x : Instrument) (s : List ℕ) (f : InstrumentOf x s) where
  read_good : GoodInstrument x
  read_good = rw f.same at (stripped_keeps.keeps f.place s f.found f.used f.plain f.reads).good

  abbrev Low : Instrument → Type 0
  Low y = (smallest_head y.samples.0 ≤ head_size_in s) × (least_stripped + length (write_fields y) ≤ long_at 0 s)

  read_low : Low x
  unfolding read_instrument
  read_low =
      subst Low f.same
      (passed _ _ f.reads λ h e. bind_got _ _ e λ v m ev e.
      got_carry (λ (r : InstrumentFound) (t : ℕ). Low (instrument_view r)) e
      (head_low f.place s f.plain h v m ev, size_low f.place s f.plain h v m ev))

-- which is an instrument of that content, whatever follows, with just these sizes
module _ (x : Instrument) (g : GoodInstrument x) (place : ℕ) (rest : List ℕ) (b : Bytes rest) where
  written_of : InstrumentOf x (write_instrument stripped x ++ rest)
  written_of = record {
    plain = bytes_append (stripped_plain x g) b;
    place = place;
    found = (stripped_back.back place x rest g).found;
    used = length (write_instrument stripped x);
    reads = (stripped_back.back place x rest g).reads;
    same = (stripped_back.back place x rest g).same;
  }

  head_written : head_size_in (write_instrument stripped x ++ rest) ≡ smallest_head x.samples.0
  unfolding row
  head_written = ap (λ (r : Fields). r.1.1.1.0) (row_reads x g place rest)

pub smallest_sizes : SmallestSizes
unfolding written_of
smallest_sizes x s rest f b =
    let g = read_good x s f in
    record {
      written = written_of x g f.place rest b;
      ends = refl;
      head = λ other o. omega (arith, head_written x g f.place rest b, (read_low x other o).0);
      size = λ other o. omega (arith, size_reads x g f.place rest, (read_low x other o).1);
    }

-- What follows does not matter
same_tests : (I k H n m : ℕ) (s t : List ℕ) → TestsOf I k H (length s) → k * H ≤ m → I + m ≤ n → n ≤ length t → TestsOf I k H (length t)
same_tests I k H n m s t h u l a = (omega (arith, h.1.0), (h.1.0, (omega arith, (h.1.1.1.0, ((λ q. omega arith), tt)))))

pub stripped_firm : Firm (instrument_format stripped) tt
unfolding read_instrument
stripped_firm = record {
  firm = λ place s t i n e a.
      passed _ _ e λ h e. bind_got _ _ e λ v m ev e.
      got_carry (λ (r : InstrumentFound) (u : ℕ). u ≡ n → read_instrument stripped place t ≡ got r u) e
      (λ q.
      let I = long_at 0 s in
      let f = fields_of stripped s in
      let k = word_at 27 f in
      let H = long_at 29 f in
      let size : long_at 0 t ≡ I = sym (agree_long a 0 (omega (arith, h.1.0))) in
      let same : fields_of stripped t ≡ f = ap (λ (n : ℕ). padded 241 (take n t)) size ∙ ap (padded 241) (sym (agree_take a I (omega arith))) in
      let g = fields_of stripped t in
      let r : samples_format.read (replicate (word_at 27 g) (long_at 29 g)) (place + long_at 0 t) (drop (long_at 0 t) t) ≡ got v m =
      ap₂ (λ (f : List ℕ) (I : ℕ). samples_format.read (replicate (word_at 27 f) (long_at 29 f)) (place + I) (drop I t)) same size
      ∙ (samples_firm k H).firm (place + I) (drop I s) (drop I t) v m ev (agree_drop a I m (omega arith)) in
      pass (instrument_tests stripped place t)
      (subst (λ (I : ℕ). TestsOf I (word_at 27 (fields_of stripped t)) (long_at 29 (fields_of stripped t)) (length t)) (sym size)
      (subst (λ (f : List ℕ). TestsOf I (word_at 27 f) (long_at 29 f) (length t)) (sym same)
      (same_tests I k H n m s t h (samples_used k H (place + I) (drop I s) v m ev) (omega arith) a.long)))
      (step _ r
      (got_both
      (found_path size (ap (part 4 22) same) (ap (byte_at 26) same) (ap (λ (f : List ℕ). voice_of (word_at 27 f) f) same))
      (ap (λ (I : ℕ). I + m) size)))) refl;
}

-- Of either kind
pub instrument_back : (kind : ModuleKind) → Back (instrument_format kind) tt
instrument_back normal = normal_back
instrument_back stripped = stripped_back

pub instrument_keeps : (kind : ModuleKind) → Keeps (instrument_format kind) tt
instrument_keeps normal = normal_keeps
instrument_keeps stripped = stripped_keeps

pub instrument_firm : (kind : ModuleKind) → Firm (instrument_format kind) tt
instrument_firm normal = normal_firm
instrument_firm stripped = stripped_firm
