-- Laws of instruments of a normal module; those of a stripped one, and of both, are in Stripped. Assumes nothing.
use Prim.Native.Nat.{ℕ, zero, suc, ◌+◌, ◌*◌, ◌≤◌, ◌<◌}
use mathlib.Core.Bool.{true}
use mathlib.Core.List.{List, [], ◌∷◌, ◌++◌, append_assoc, append-nil}
use mathlib.Core.Path.{◌≡◌, refl, sym, ap, ap₂, ◌∙◌, subst}
use native.Mathlib.Nat.{add_assoc, suc-mul, zero-mul}
use native.Mathlib.Omega.{arith}
use lib.Dec.{ltb}
use borrow.Author.Tests.{lt-ltb}
use lib.ListN.{length, drop, replicate, length-append, length-drop, length-replicate}
use lib.Seq.{drop_at, drop-drop, length-take-le}
use Rattle.xm.specs.Number.{Bytes, byte_at, word_at, long_at, part, byte, word, long}
use Rattle.xm.specs.Got.{got, AllHold, present, at_least, at_most, when, ◌at◌}
use Rattle.xm.specs.Format.{each, joined, flat, EachGood, All}
use Rattle.xm.specs.Sample.{least_head, Samples, SamplesFound, samples_format, StretchFound, read_head, head_format}
use Rattle.xm.specs.Instrument.{least_instrument, samples_most, instrument_tests, Instrument, InstrumentFound, voice_size, voice_of, read_instrument}
use Rattle.xm.specs.Instrument.{write_voice, count_of, write_instrument, GoodVoice, GoodInstrument, instrument_view, instrument_format, fields_of}
use Rattle.xm.specs.Region.{Adjoin}
use Rattle.xm.proofs.Number.{bytes_drop, bytes_take, bytes_append, bytes_nil, bytes_cons, bytes_zeros}
use Rattle.xm.proofs.Number.{Agree, agree_byte, agree_word, agree_long, agree_part, agree_drop}
use Rattle.xm.proofs.Got.{no_true, pass, step, passed, bind_got, got_used, got_both, got_carry, got_value}
use Rattle.xm.proofs.Format.{Back, ReadsBack, Keeps, Held, Adjoins, Firm, Tells, each_length, flat_append, read_length}
use Rattle.xm.specs.ModuleKind.{ModuleKind, normal}
use Rattle.xm.proofs.Field.{Field, byte_field, word_field, long_field, text_field, no_field, ◌⊗◌, word_plain, long_plain}
use Rattle.xm.proofs.Sample.{samples_back, samples_keeps, samples_adjoin, samples_firm, samples_tell, SamplesTold}

-- The samples' laws ask nothing of H if there are none
samples_kept : (k H : ℕ) → (ltb 0 k ≡ true → least_head ≤ H) → Keeps samples_format (replicate k H)
samples_kept zero H h = samples_keeps 0 least_head (omega arith)
samples_kept (suc k) H h = samples_keeps (suc k) H (h (lt-ltb 0 (suc k) (omega arith)))

-- The tests are of four numbers: I, k, H and the bytes there are
abbrev TestsOf : (I k H n : ℕ) → Type 0
TestsOf I k H n = AllHold (
    present (least_instrument 0) n (1 at 0)
    ∷ at_least (least_instrument 0) I (10 at 0)
    ∷ at_most samples_most k (10 at 0)
    ∷ when (ltb 0 k) (at_least (least_instrument 1) I (10 at 0))
    ∷ present I n (1 at 0)
    ∷ when (ltb 0 k) (at_least least_head H (11 at 0))
    ∷ when (ltb 0 k) (present (I + k * H) n (1 at 0))
    ∷ [])

written_tests : (k H n : ℕ) → k ≤ samples_most → (1 ≤ k → H ≡ least_head) → least_instrument k + k * least_head ≤ n → TestsOf (least_instrument k) k H n
written_tests zero H n few h l =
    (omega arith, (omega arith, (omega arith, ((λ q. absurd (no_true q)), (omega arith, ((λ q. absurd (no_true q)), ((λ q. absurd (no_true q)), tt)))))))
written_tests (suc k) H n few h l =
    let e = h (omega arith) in
    (omega arith, (omega arith, (few, ((λ q. omega arith), (omega arith, ((λ q. omega arith), ((λ q. rw e l), tt)))))))

least_size : (I k H n : ℕ) → TestsOf I k H n → least_instrument k ≤ I
least_size I zero H n h = h.1.0
least_size I (suc k) H n h = h.1.1.1.0 (lt-ltb 0 (suc k) (omega arith))

least_most : (k : ℕ) → least_instrument k ≤ 263
least_most zero = omega arith
least_most (suc k) = omega arith

-- What stands before the sample headers, 29 or 263 bytes
front : Instrument → List ℕ
front x = flat (long (least_instrument (count_of x)) ∷ x.name ∷ byte x.type ∷ word (count_of x) ∷ write_voice (count_of x) x.voice ∷ [])

voice_size_lem : (k : ℕ) (voice : List ℕ) → GoodVoice k voice → 29 + length (write_voice k voice) ≡ least_instrument k
unfolding write_voice
voice_size_lem zero voice g = refl
voice_size_lem (suc k) voice g = simp (length-append, g.0) (omega arith)

voice_plain : (k : ℕ) (voice : List ℕ) → GoodVoice k voice → Bytes (write_voice k voice)
unfolding write_voice
voice_plain zero voice g = bytes_nil
voice_plain (suc k) voice g =
    (long_field ⊗ text_field voice_size ⊗ text_field 22 ⊗ no_field).plain (least_head, (voice, (replicate 22 0, tt)))
    (omega arith, (g, ((refl, bytes_zeros 22), tt)))

front_size : (x : Instrument) → length x.name ≡ 22 → GoodVoice (count_of x) x.voice → length (front x) ≡ least_instrument (count_of x)
unfolding front
front_size x n g = simp (length-append, n) (omega (arith, voice_size_lem (count_of x) x.voice g))

write_front : (x : Instrument) → write_instrument normal x ≡ front x ++ samples_format.write x.samples
unfolding write_instrument front
write_front x =
    flat_append (long (least_instrument (count_of x)) ∷ x.name ∷ byte x.type ∷ word (count_of x) ∷ write_voice (count_of x) x.voice ∷ [])
    (samples_format.write x.samples ∷ [])
    ∙ ap (λ (l : List ℕ). front x ++ l) (append-nil (samples_format.write x.samples))

pub heads_size : (k : ℕ) (heads : List (List ℕ)) → EachGood head_format (replicate k least_head) heads → length (joined (λ (h : List ℕ). h) heads) ≡ k * least_head
heads_size zero [] g = refl
heads_size zero (x ∷ hs) g = absurd g
heads_size (suc k) [] g = absurd g
heads_size (suc k) (x ∷ hs) g = rw length-append (omega (arith, g.0.size, heads_size k hs g.1))

-- The fields in front of the voice, the voice, and what follows
abbrev Row : Type 0 → Type 0
Row W = ℕ × (List ℕ × (ℕ × (ℕ × (W × List ℕ))))

abbrev layout : {W : Type 0} → Field W → ℕ → Field (Row W)
layout voice n = long_field ⊗ text_field 22 ⊗ byte_field ⊗ word_field ⊗ voice ⊗ text_field n

abbrev VoiceRow : Type 0
VoiceRow = ℕ × (List ℕ × (List ℕ × Unit {0}))

abbrev voice_field : Field VoiceRow
voice_field = long_field ⊗ text_field voice_size ⊗ text_field 22 ⊗ no_field

-- What reading the fields of written bytes gives
record FrontReads (file : List ℕ) (k : ℕ) (name : List ℕ) (type : ℕ) (voice : List ℕ) : Type 0 where
  size : long_at 0 file ≡ least_instrument k
  named : part 4 22 file ≡ name
  typed : byte_at 26 file ≡ type
  count : word_at 27 file ≡ k
  head : 1 ≤ k → long_at 29 file ≡ least_head
  voiced : voice_of k file ≡ voice

module _ (name : List ℕ) (type : ℕ) (voice samples rest : List ℕ) (named : (length name ≡ 22) × Bytes name) (typed : type < 256) (plain : Bytes samples) where
  abbrev bytes : ℕ → List ℕ
  bytes k = flat (long (least_instrument k) ∷ name ∷ byte type ∷ word k ∷ write_voice k voice ∷ samples ∷ [])

  front_reads : (k : ℕ) → k ≤ samples_most → GoodVoice k voice → FrontReads (bytes k ++ rest) k name type voice
  unfolding write_voice
  front_reads zero few v =
      let r : Row (Unit {0}) = (29, (name, (type, (0, (tt, samples ++ []))))) in
      let w =
      (layout no_field (length (samples ++ []))).back [] r rest
      (omega arith, (named, (typed, (omega arith, (tt, (refl, bytes_append plain bytes_nil)))))) in
      record {
        size = ap (λ (r : Row (Unit {0})). r.0) w;
        named = ap (λ (r : Row (Unit {0})). r.1.0) w;
        typed = ap (λ (r : Row (Unit {0})). r.1.1.0) w;
        count = ap (λ (r : Row (Unit {0})). r.1.1.1.0) w;
        head = λ h. absurd (omega arith);
        voiced = sym v;
      }
  front_reads (suc k) few v =
      let r : Row VoiceRow = (263, (name, (type, (suc k, ((least_head, (voice, (replicate 22 0, tt))), samples ++ []))))) in
      let w = (layout voice_field (length (samples ++ []))).back [] r rest
      (omega arith, (named, (typed, (omega arith, ((omega arith, (v, ((refl, bytes_zeros 22), tt))), (refl, bytes_append plain bytes_nil)))))) in
      record {
        size = ap (λ (r : Row VoiceRow). r.0) w;
        named = ap (λ (r : Row VoiceRow). r.1.0) w;
        typed = ap (λ (r : Row VoiceRow). r.1.1.0) w;
        count = ap (λ (r : Row VoiceRow). r.1.1.1.0) w;
        head = λ h. ap (λ (r : Row VoiceRow). r.1.1.1.1.0.0) w;
        voiced = ap (λ (r : Row VoiceRow). r.1.1.1.1.0.1.0) w;
      }

pub found_path : {place size size' type type' : ℕ} {name name' voice voice' : List ℕ} {samples : SamplesFound}
    → size ≡ size' → name ≡ name' → type ≡ type' → voice ≡ voice'
    → ◌≡◌ {A = InstrumentFound} (record { place = place; size = size; name = name; type = type; voice = voice; samples = samples })
    (record { place = place; size = size'; name = name'; type = type'; voice = voice'; samples = samples })
found_path p q r t = cc

module _ (x : Instrument) (g : GoodInstrument x) (place : ℕ) (rest : List ℕ) where
  abbrev file : List ℕ
  file = write_instrument normal x ++ rest

  abbrev count : ℕ
  count = length x.samples.0

  samples_plain : Bytes (samples_format.write x.samples)
  samples_plain = (samples_back count).plain x.samples g.samples_good

  fields : FrontReads file count x.name x.type x.voice
  unfolding write_instrument
  fields =
      front_reads x.name x.type x.voice (samples_format.write x.samples) rest
      (g.name_size, g.name_plain) g.type_byte samples_plain count g.few g.voice_good

  pub instrument_size : length (write_instrument normal x) ≡ least_instrument count + length (samples_format.write x.samples)
  instrument_size =
      ap length (write_front x) ∙ length-append (front x) (samples_format.write x.samples)
      ∙ ap (λ (n : ℕ). n + length (samples_format.write x.samples)) (front_size x g.name_size g.voice_good)

  samples_at : drop (least_instrument count) file ≡ samples_format.write x.samples ++ rest
  samples_at =
      ap (λ (l : List ℕ). drop (least_instrument count) (l ++ rest)) (write_front x)
      ∙ ap (drop (least_instrument count)) (append_assoc (front x) (samples_format.write x.samples) rest)
      ∙ drop_at (front x) (samples_format.write x.samples ++ rest) (least_instrument count) (front_size x g.name_size g.voice_good)

  reads_tests : AllHold (instrument_tests normal place file)
  reads_tests =
      let f = fields in
      let both = length-append (joined (λ (h : List ℕ). h) x.samples.0) (joined (λ (h : List ℕ). h) x.samples.1) in
      let l : least_instrument count + count * least_head ≤ length file =
      let heads = heads_size count x.samples.0 g.samples_good.0 in
      omega (arith, length-append (write_instrument normal x) rest, instrument_size, both, heads) in
      subst (λ (I : ℕ). TestsOf I (word_at 27 file) (long_at 29 file) (length file)) (sym f.size)
      (subst (λ (k : ℕ). TestsOf (least_instrument count) k (long_at 29 file) (length file)) (sym f.count)
      (written_tests count (long_at 29 file) (length file) g.few f.head l))

  same_sizes : (k : ℕ) → (1 ≤ k → long_at 29 file ≡ least_head) → replicate k (long_at 29 file) ≡ replicate k least_head
  same_sizes zero h = refl
  same_sizes (suc k) h = ap (replicate (suc k)) (h (omega arith))

  reads_samples : ReadsBack samples_format (replicate count least_head) (place + least_instrument count) x.samples rest
  reads_samples = (samples_back count).back (place + least_instrument count) x.samples rest g.samples_good

  instrument_found : InstrumentFound
  instrument_found = record { place = place; size = least_instrument count; name = x.name; type = x.type; voice = x.voice; samples = reads_samples.found }

  reads_all : read_instrument normal place file ≡ got instrument_found (length (write_instrument normal x))
  unfolding read_instrument instrument_found
  reads_all =
      let f = fields in
      let n = length (samples_format.write x.samples) in
      let I = long_at 0 file in
      let r : samples_format.read (replicate (word_at 27 file) (long_at 29 file)) (place + I) (drop I file) ≡ got reads_samples.found n =
      ap₂ (λ (k I : ℕ). samples_format.read (replicate k (long_at 29 file)) (place + I) (drop I file)) f.count f.size
      ∙ ap₂ (λ (hs : List ℕ) (s : List ℕ). samples_format.read hs (place + least_instrument count) s) (same_sizes count f.head) samples_at
      ∙ reads_samples.reads in
      pass (instrument_tests normal place file) reads_tests
      (step _ r (got_both
      (found_path f.size f.named f.typed (ap (λ (k : ℕ). voice_of k file) f.count ∙ f.voiced))
      (ap (λ (I : ℕ). I + n) f.size ∙ sym instrument_size)))

instrument_plain : (x : Instrument) → GoodInstrument x → Bytes (write_instrument normal x)
unfolding write_instrument
instrument_plain x g =
    bytes_append (long_plain (least_instrument (count_of x)) (omega (arith, least_most (count_of x))))
    (bytes_append g.name_plain
    (bytes_append (bytes_cons g.type_byte bytes_nil)
    (bytes_append (word_plain (count_of x) (omega (arith, g.few)))
    (bytes_append (voice_plain (count_of x) x.voice g.voice_good) (bytes_append (samples_plain x g 0 []) bytes_nil)))))

pub normal_back : Back (instrument_format normal) tt
unfolding instrument_found
normal_back = record {
  back = λ place x rest g. record {
    found = instrument_found x g place rest;
    reads = reads_all x g place rest;
    same = ap (λ (v : Samples). record { name = x.name; type = x.type; voice = x.voice; samples = v }) (reads_samples x g place rest).same;
  };
  plain = instrument_plain;
}

-- What is read is good content
same_heads : (k H : ℕ) (heads : List (List ℕ)) → EachGood head_format (replicate k H) heads → EachGood head_format (replicate (length heads) least_head) heads
same_heads zero H [] g = g
same_heads zero H (x ∷ hs) g = absurd g
same_heads (suc k) H [] g = absurd g
same_heads (suc k) H (x ∷ hs) g = (g.0, same_heads k H hs g.1)

good_voice : (I k H : ℕ) (s : List ℕ) → Bytes s → TestsOf I k H (length s) → GoodVoice k (voice_of k s)
good_voice I zero H s b h = refl
good_voice I (suc k) H s b h =
    let l = least_size I (suc k) H (length s) h in
    (length-take-le voice_size (drop 33 s) (omega (arith, l, h.1.1.1.1.0, length-drop 33 s)), bytes_take voice_size (bytes_drop 33 b))

pub normal_keeps : Keeps (instrument_format normal) tt
unfolding read_instrument
normal_keeps = record {
  keeps = λ place s i n b e.
      passed _ _ e λ h e. bind_got _ _ e λ v m ev e.
      let I = long_at 0 s in
      let k = word_at 27 s in
      let w = (samples_kept k (long_at 29 s) h.1.1.1.1.1.0).keeps (place + I) (drop I s) v m (bytes_drop I b) ev in
      let z : length (samples_format.view v).0 ≡ k =
      each_length head_format (replicate k (long_at 29 s)) (samples_format.view v).0 w.good.0 ∙ length-replicate k (long_at 29 s) in
      let found : InstrumentFound = record { place = place; size = I; name = part 4 22 s; type = byte_at 26 s; voice = voice_of k s; samples = v } in
      let g : GoodInstrument (instrument_view found) = record {
        name_size = length-take-le 22 (drop 4 s) (omega (arith, length-drop 4 s, h.0));
        name_plain = bytes_take 22 (bytes_drop 4 b);
        type_byte = b.below 26;
        few = omega (arith, z, h.1.1.0);
        voice_good = rw z (good_voice I k (long_at 29 s) s b h);
        samples_good = (same_heads k (long_at 29 s) (samples_format.view v).0 w.good.0, w.good.1);
      } in
      let l : least_instrument (length (samples_format.view v).0) ≤ I = rw z (least_size I k (long_at 29 s) (length s) h) in
      got_carry (λ (r : InstrumentFound) (t : ℕ). Held (instrument_format normal) tt place s r t) e
      (record {
        inside = omega (arith, w.inside, length-drop I s, h.1.1.1.1.0);
        good = g;
        short = omega (arith, instrument_size _ g 0 [], w.short);
      });
}

-- Of either kind: the regions adjoin
pub instrument_adjoins : (kind : ModuleKind) → Adjoins (instrument_format kind) tt
unfolding read_instrument
instrument_adjoins kind = record {
  adjoins = λ place s i n e.
      passed _ _ e λ h e. bind_got _ _ e λ v m ev e.
      got_carry (λ (r : InstrumentFound) (t : ℕ). Adjoin place ((instrument_format kind).regions r) (place + t)) e (
        refl,
        rw (← add_assoc place (long_at 0 s) m)
            ((samples_adjoin (word_at 27 (fields_of kind s)) (long_at 29 (fields_of kind s))).adjoins (place + long_at 0 s) (drop (long_at 0 s) s) v m ev),
      );
}

-- What follows does not matter
same_fields : (I k H : ℕ) (s t : List ℕ) (n : ℕ) → TestsOf I k H (length s) → I ≤ n → Agree n s t → voice_of k s ≡ voice_of k t
same_fields I zero H s t n h l a = refl
same_fields I (suc k) H s t n h l a = agree_part a 33 voice_size (omega (arith, least_size I (suc k) H (length s) h))

same_head : (I k H : ℕ) (s t : List ℕ) (n : ℕ) → TestsOf I k H (length s) → I ≤ n → Agree n s t → replicate k (long_at 29 t) ≡ replicate k (long_at 29 s)
same_head I zero H s t n h l a = refl
same_head I (suc k) H s t n h l a = ap (replicate (suc k)) (sym (agree_long a 29 (omega (arith, least_size I (suc k) H (length s) h))))

pub heads_used : (k H place : ℕ) (s : List ℕ) (is : List StretchFound) (n : ℕ) → (each head_format).read (replicate k H) place s ≡ got is n → n ≡ k * H
unfolding read_head
heads_used zero H place s is n e = got_carry (λ (r : List StretchFound) (u : ℕ). u ≡ 0 * H) e (sym (zero-mul H))
heads_used (suc k) H place s is n e =
    bind_got _ _ e λ i m ei e₁. bind_got _ _ e₁ λ js j ej e₂.
    passed _ _ ei λ h ei.
    got_carry (λ (r : List StretchFound) (u : ℕ). u ≡ suc k * H) e₂ (omega (arith, got_used ei, heads_used k H (place + m) (drop m s) js j ej, suc-mul k H))

pub samples_used : (k H place : ℕ) (s : List ℕ) (v : SamplesFound) (n : ℕ) → samples_format.read (replicate k H) place s ≡ got v n → k * H ≤ n
samples_used k H place s v n e =
    bind_got _ _ e λ i m ei e₁. bind_got _ _ e₁ λ j u ej e₂.
    got_carry (λ (r : SamplesFound) (t : ℕ). k * H ≤ t) e₂ (omega (arith, heads_used k H place s i m ei))

same_tests : (I k : ℕ) (s t : List ℕ) (n m : ℕ) → TestsOf I k (long_at 29 s) (length s) → k * long_at 29 s ≤ m → I + m ≤ n → Agree n s t
    → TestsOf I k (long_at 29 t) (length t)
same_tests I zero s t n m h u l a =
    let there : least_instrument 0 ≤ length t = omega (arith, a.long, h.1.0) in
    (there, (h.1.0, (h.1.1.0, ((λ q. absurd (no_true q)), (omega (arith, a.long), ((λ q. absurd (no_true q)), ((λ q. absurd (no_true q)), tt)))))))
same_tests I (suc k) s t n m h u l a =
    let e : long_at 29 t ≡ long_at 29 s = sym (agree_long a 29 (omega (arith, least_size I (suc k) (long_at 29 s) (length s) h))) in
    let d : I + suc k * long_at 29 t ≤ length t = rw e (omega (arith, a.long)) in
    let there : least_instrument 0 ≤ length t = omega (arith, a.long, h.1.0) in
    (there, (h.1.0, (h.1.1.0, (h.1.1.1.0, (omega (arith, a.long), ((λ q. rw e (h.1.1.1.1.1.0 q)), ((λ q. d), tt)))))))

pub normal_firm : Firm (instrument_format normal) tt
unfolding read_instrument
normal_firm = record {
  firm = λ place s t i n e a.
      passed _ _ e λ h e. bind_got _ _ e λ v m ev e.
      got_carry (λ (r : InstrumentFound) (u : ℕ). u ≡ n → read_instrument normal place t ≡ got r u) e
      (λ q.
      let I = long_at 0 s in
      let k = word_at 27 s in
      let size : long_at 0 t ≡ I = sym (agree_long a 0 (omega (arith, h.1.0))) in
      let count : word_at 27 t ≡ k = sym (agree_word a 27 (omega (arith, h.1.0))) in
      let r : samples_format.read (replicate (word_at 27 t) (long_at 29 t)) (place + long_at 0 t) (drop (long_at 0 t) t) ≡ got v m =
      ap₂ (λ (k I : ℕ). samples_format.read (replicate k (long_at 29 t)) (place + I) (drop I t)) count size
      ∙ ap (λ (hs : List ℕ). samples_format.read hs (place + I) (drop I t)) (same_head I k (long_at 29 s) s t n h (omega arith) a)
      ∙ (samples_firm k (long_at 29 s)).firm (place + I) (drop I s) (drop I t) v m ev (agree_drop a I m (omega arith)) in
      pass (instrument_tests normal place t)
      (subst (λ (I : ℕ). TestsOf I (word_at 27 t) (long_at 29 t) (length t)) (sym size)
      (subst (λ (k : ℕ). TestsOf I k (long_at 29 t) (length t)) (sym count)
      (same_tests I k s t n m h (samples_used k (long_at 29 s) (place + I) (drop I s) v m ev) (omega arith) a)))
      (step _ r
      (got_both
      (found_path size (sym (agree_part a 4 22 (omega (arith, h.1.0)))) (sym (agree_byte a 26 (omega (arith, h.1.0))))
      (ap (λ (k : ℕ). voice_of k t) count ∙ sym (same_fields I k (long_at 29 s) s t n h (omega arith) a)))
      (ap (λ (I : ℕ). I + m) size)))) refl;
}

-- What is found says of the file, of either kind
pub instrument_tells : (kind : ModuleKind) → Tells (instrument_format kind) tt (λ file i. SamplesTold file i.samples)
unfolding read_instrument
instrument_tells kind = record {
  tells = λ place file i n b e.
      passed _ _ e λ h e. bind_got _ _ e λ v m ev e.
      let f = fields_of kind (drop place file) in
      got_carry (λ (r : InstrumentFound) (u : ℕ). SamplesTold file r.samples) e
      ((samples_tell (word_at 27 f) (long_at 29 f)).tells (place + long_at 0 (drop place file)) file v m b
      (rw (drop-drop (long_at 0 (drop place file)) place file) at ev));
}

-- The sample headers found are of H bytes each
heads_sized : (k H place : ℕ) (s : List ℕ) (is : List StretchFound) (n : ℕ) → (each head_format).read (replicate k H) place s ≡ got is n
    → All (λ (h : StretchFound). h.size ≡ H) is
unfolding read_head
heads_sized zero H place s is n e = got_carry (λ (r : List StretchFound) (u : ℕ). All (λ (h : StretchFound). h.size ≡ H) r) e tt
heads_sized (suc k) H place s is n e =
    bind_got _ _ e λ i m ei e₁. bind_got _ _ e₁ λ js j ej e₂.
    passed _ _ ei λ h ei.
    got_carry (λ (r : List StretchFound) (u : ℕ). All (λ (h : StretchFound). h.size ≡ H) r) e₂
    (ap StretchFound.size (sym (got_value ei)), heads_sized k H (place + m) (drop m s) js j ej)

pub samples_sizes : (k H place : ℕ) (s : List ℕ) (v : SamplesFound) (n : ℕ) → samples_format.read (replicate k H) place s ≡ got v n
    → All (λ (h : StretchFound). h.size ≡ H) v.0
samples_sizes k H place s v n e =
    bind_got _ _ e λ i m ei e₁. bind_got _ _ e₁ λ j u ej e₂.
    got_carry (λ (r : SamplesFound) (t : ℕ). All (λ (h : StretchFound). h.size ≡ H) r.0) e₂ (heads_sized k H place s i m ei)

pub all_low : (low H : ℕ) (is : List StretchFound) → low ≤ H → All (λ (h : StretchFound). h.size ≡ H) is → All (λ (h : StretchFound). low ≤ h.size) is
all_low low H [] l a = tt
all_low low H (i ∷ is) l a = (omega (arith, a.0), all_low low H is l a.1)

-- so in a normal file of 40 or more
samples_wide : (k H : ℕ) (v : SamplesFound) → (ltb 0 k ≡ true → least_head ≤ H) → length v.0 ≡ k
    → All (λ (h : StretchFound). h.size ≡ H) v.0 → All (λ (h : StretchFound). least_head ≤ h.size) v.0
samples_wide k H ([], ds) l c a = tt
samples_wide k H (i ∷ is, ds) l c a = all_low least_head H (i ∷ is) (l (lt-ltb 0 k (omega (arith, c)))) a

pub samples_count : (k H place : ℕ) (s : List ℕ) (v : SamplesFound) (n : ℕ) → samples_format.read (replicate k H) place s ≡ got v n → length v.0 ≡ k
samples_count k H place s v n e =
    bind_got _ _ e λ i m ei e₁. bind_got _ _ e₁ λ j u ej e₂.
    got_carry (λ (r : SamplesFound) (t : ℕ). length r.0 ≡ k) e₂ (read_length head_format (replicate k H) place s i m ei ∙ length-replicate k H)

pub normal_wide : Tells (instrument_format normal) tt (λ file i. All (λ (h : StretchFound). least_head ≤ h.size) i.samples.0)
unfolding read_instrument
normal_wide = record {
  tells = λ place file i n b e.
      passed _ _ e λ h e. bind_got _ _ e λ v m ev e.
      let s = drop place file in
      let k = word_at 27 s in
      let H = long_at 29 s in
      let c = samples_count k H (place + long_at 0 s) (drop (long_at 0 s) s) v m ev in
      got_carry (λ (r : InstrumentFound) (u : ℕ). All (λ (h : StretchFound). least_head ≤ h.size) r.samples.0) e
      (samples_wide k H v h.1.1.1.1.1.0 c (samples_sizes k H (place + long_at 0 s) (drop (long_at 0 s) s) v m ev));
}
