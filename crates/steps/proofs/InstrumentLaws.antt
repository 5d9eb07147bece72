-- Laws of the instrument step. Assumes nothing.
use Prim.Native.Nat.{ℕ, zero, suc, ◌+◌, ◌*◌, ◌≤◌}
use mathlib.Core.List.{List, [], ◌∷◌}
use mathlib.Core.Path.{◌≡◌, refl, sym, ap, ap₂, ◌∙◌}
use native.Mathlib.Omega.{arith}
use lib.ListN.{length, take, drop, replicate, length-drop}
use lib.Seq.{drop-drop, take-take, length-take-le}
use borrow.Author.Tests.{lt-ltb}
use Rattle.std.specs.Prelude.{Err}
use Rattle.xm.specs.Number.{Bytes, byte_at, word_at, long_at, part}
use Rattle.xm.specs.ModuleKind.{ModuleKind, normal, stripped}
use Rattle.xm.specs.Got.{Got, got, refused, AllHold, ◌at◌}
use Rattle.xm.specs.Format.{each}
use Rattle.xm.specs.Sample.{StretchFound, head_format, data_format, SamplesFound, samples_format, size_of_first}
use Rattle.xm.specs.Instrument.{samples_most, instrument_size_at, count_at, sample_head_size_at, fields_of, instrument_tests, InstrumentFound, voice_of, read_instrument}
use Rattle.xm.proofs.Number.{bytes_drop, Agree, agree_word, agree_long}
use Rattle.xm.proofs.Got.{no_true, pass, step, step_refused, passed, bind_got, got_carry, got_used}
use Rattle.xm.proofs.Cut.{word-padded, long-padded}
use Rattle.xm.proofs.Stripped.{instrument_keeps}
use Rattle.slices.specs.Number.{Word, Long}
use Rattle.refusal.specs.Refusal.{paper_refusal, step_by, place_step}
use Rattle.refusal.specs.Test.{number_of, tested}
use Rattle.refusal.specs.declared.Cause.{Cause}
use Rattle.refusal.specs.declared.Refusal.{Refusal}
use Rattle.refusal.specs.declared.Step.TheVariants.{Given}
use Rattle.refusal.proofs.Steps.{next_got}
use Rattle.refusal.proofs.TestLaws.{RefuseAt, tested_refuses}
use Rattle.steps.specs.Step.{head_size_of, instrument_head, instrument_given}
use Rattle.steps.specs.declared.instrument.InstrumentHead.{InstrumentHead}
use Rattle.steps.specs.declared.instrument.InstrumentPart.{InstrumentPart}
use Rattle.heads.specs.Sample.{heads_from}
use Rattle.heads.proofs.SampleLaws.{heads_viewed, samples_size}

same_part : {a b : InstrumentPart} → Given a ≡ Given b → a ≡ b
same_part e = cc

-- Without samples no H counts
times : (n k size H : ℕ) → n ≡ k → (1 ≤ n → size ≡ H) → n * size ≡ k * H
times zero zero size H e h = omega arith
times zero (suc k) size H e h = absurd (omega arith)
times (suc n) k size H e h = ap₂ (λ (a b : ℕ). a * b) e (h (omega arith))

heads_by_lem : (n k size H : ℕ) (s : List ℕ) → n ≡ k → (1 ≤ n → size ≡ H) → heads_from k H s ≡ heads_from n size s
unfolding heads_from
heads_by_lem zero zero size H s e h = refl
heads_by_lem zero (suc k) size H s e h = absurd (omega arith)
heads_by_lem (suc n) k size H s e h = ap₂ (λ (a b : ℕ). heads_from a b s) (sym e) (sym (h (omega arith)))

samples_viewed : (count size place : ℕ) (s : List ℕ) (v : SamplesFound) (n : ℕ) → samples_format.read (replicate count size) place s ≡ got v n
    → (each head_format).view v.0 ≡ heads_from count size s
samples_viewed count size place s v n e =
    bind_got _ _ e λ hs m eh e₁. bind_got _ _ e₁ λ ds k ed e₂.
    got_carry (λ (r : SamplesFound) (u : ℕ). (each head_format).view r.0 ≡ heads_from count size s) e₂ (heads_viewed count size place s hs m eh)

-- H where there are samples, and 0 where there are none
pub size_some : (k : ℕ) (s : List ℕ) → 1 ≤ k → head_size_of k s ≡ sample_head_size_at s
size_some zero s h = absurd (omega arith)
size_some (suc k) s h = refl

same_sizes : (k : ℕ) (s : List ℕ) → replicate k (head_size_of k s) ≡ replicate k (sample_head_size_at s)
same_sizes zero s = refl
same_sizes (suc k) s = refl

size_first : (k : ℕ) (s : List ℕ) (heads : List StretchFound) → length heads ≡ k → (1 ≤ k → size_of_first heads ≡ head_size_of k s)
    → head_size_of k s ≡ size_of_first heads
size_first zero s [] c f = refl
size_first zero s (h ∷ hs) c f = absurd (omega arith)
size_first (suc k) s heads c f = sym (f (omega arith))

-- The tests in front all refuse at the instrument's start
refuse_at : (kind : ModuleKind) (place : ℕ) (s : List ℕ) → RefuseAt place (instrument_tests kind place s)
refuse_at normal place s = omega arith
refuse_at stripped place s = omega arith

-- What they say, of either kind: I bytes are there, k is small, and all k headers are there
pub record FieldsPass (kind : ModuleKind) (s : List ℕ) : Type 0 where
  pub some : 4 ≤ length s
  pub there : instrument_size_at s ≤ length s
  pub few : count_at (fields_of kind s) ≤ samples_most
  pub heads : 1 ≤ count_at (fields_of kind s) → instrument_size_at s + count_at (fields_of kind s) * sample_head_size_at (fields_of kind s) ≤ length s

pub fields_pass : (kind : ModuleKind) (place : ℕ) (s : List ℕ) → AllHold (instrument_tests kind place s) → FieldsPass kind s
fields_pass normal place s h =
    record { some = omega (arith, h.0); there = h.1.1.1.1.0; few = h.1.1.0; heads = λ some. h.1.1.1.1.1.1.0 (lt-ltb 0 (count_at s) some) }
fields_pass stripped place s h =
    record { some = h.0; there = h.1.1.0; few = h.1.1.1.0; heads = λ some. h.1.1.1.1.0 (lt-ltb 0 (count_at (fields_of stripped s)) some) }

-- A stripped one's k and H, as its own I cuts them
pub count_cut : {size k : ℕ} (s : List ℕ) → size ≡ instrument_size_at s → Word 27 (take size s) k → k ≡ count_at (fields_of stripped s)
count_cut s e w = w.value ∙ ap (λ (n : ℕ). word_at 27 (take n s)) e ∙ sym (word-padded 241 27 (take (instrument_size_at s) s) (omega arith))

pub size_cut : {size H : ℕ} (s : List ℕ) → size ≡ instrument_size_at s → Long 29 (take size s) H → H ≡ sample_head_size_at (fields_of stripped s)
size_cut s e w = w.value ∙ ap (λ (n : ℕ). long_at 29 (take n s)) e ∙ sym (long-padded 241 29 (take (instrument_size_at s) s) (omega arith))

-- A normal one that has samples has all its fields
pub some_samples : (place : ℕ) (s : List ℕ) → AllHold (instrument_tests normal place s) → 1 ≤ count_at s → 263 ≤ instrument_size_at s
some_samples place s h some = h.1.1.1.0 (lt-ltb 0 (count_at s) some)

-- so that its I cuts off none of them, and it reads as a stripped one does
cut_agree : (size : ℕ) (s : List ℕ) → size ≤ length s → Agree size s (take size s)
cut_agree size s h = record { long = omega (arith, length-take-le size s h); same = sym (take-take size size s (omega arith)) }

module _ (place : ℕ) (s : List ℕ) {size : ℕ} (e : size ≡ instrument_size_at s) where
  count_read : (kind : ModuleKind) → AllHold (instrument_tests kind place s) → {k : ℕ} → Word 27 (take size s) k → k ≡ count_at (fields_of kind s)
  count_read normal h w = w.value ∙ sym (agree_word (cut_agree size s (omega (arith, h.1.1.1.1.0))) 27 (omega (arith, h.1.0)))
  count_read stripped h w = count_cut s e w

  size_read : (kind : ModuleKind) → AllHold (instrument_tests kind place s) → 1 ≤ count_at (fields_of kind s) → {H : ℕ} → Long 29 (take size s) H
      → H ≡ sample_head_size_at (fields_of kind s)
  size_read normal h some w =
      w.value ∙ sym (agree_long (cut_agree size s (omega (arith, h.1.1.1.1.0))) 29 (omega (arith, some_samples place s h some)))
  size_read stripped h some w = size_cut s e w

  -- Its fields, without samples and with some
  module _ (kind : ModuleKind) (h : AllHold (instrument_tests kind place s)) {k : ℕ} (w : Word 27 (take size s) k) where
    abbrev made : (H : ℕ) → InstrumentHead
    made H = record { samples = k; heads = place + size; head_size = H }

    pub head_bare : k ≡ 0 → made 0 ≡ instrument_head kind place s
    head_bare none = cc (count_read kind h w, e, none)

    pub head_full : (k ≡ 0 → ⊥) → {H : ℕ} → Long 29 (take size s) H → made H ≡ instrument_head kind place s
    head_full f l =
        let counted = count_read kind h w in
        let some : 1 ≤ count_at (fields_of kind s) = omega arith in
        cc (counted, e, size_read kind h some l, size_some (count_at (fields_of kind s)) (fields_of kind s) some)

module _ (file : List ℕ) (kind : ModuleKind) (place : ℕ) where
  abbrev from : List ℕ
  from = drop place file

  abbrev fields : List ℕ
  fields = fields_of kind from

  abbrev pub found : SamplesFound → InstrumentFound
  found v =
      record {
        place = place;
        size = instrument_size_at from;
        name = part 4 22 fields;
        type = byte_at 26 fields;
        voice = voice_of (count_at fields) fields;
        samples = v;
      }

  -- The tests decide
  pub instrument_fails : {cause : Cause} → tested (instrument_tests kind place from) ≡ Err cause → read_instrument kind place from ≡ refused (number_of cause at place)
  unfolding read_instrument
  instrument_fails e = tested_refuses place (instrument_tests kind place from) _ (refuse_at kind place from) e

  module _ (h : AllHold (instrument_tests kind place from)) {head : InstrumentHead} (eh : head ≡ instrument_head kind place from) where
    -- What its fields tell, one by one
    pub record FieldsOf : Type 0 where
      pub heads : (head).heads ≡ place + instrument_size_at from
      pub there : (head).heads + (head).samples * (head).head_size ≤ length file

    pub fields_of_lem : FieldsOf
    fields_of_lem = record {
      heads = ap InstrumentHead.heads eh;
      there = rw eh (go (count_at fields) refl);
    }
      where
        w : FieldsPass kind from
        w = fields_pass kind place from h

        go : (k : ℕ) → count_at fields ≡ k → place + instrument_size_at from + k * head_size_of k fields ≤ length file
        go zero e = omega (arith, w.some, w.there, length-drop place file)
        go (suc k) e = omega (arith, ap (λ (n : ℕ). n * sample_head_size_at fields) e, w.some, w.heads (omega arith), length-drop place file)

    -- and then the samples decide
    abbrev samples : Got SamplesFound
    samples = samples_format.read (replicate (head).samples (head).head_size) (head).heads (drop (head).heads file)

    same_samples : samples_format.read (replicate (count_at fields) (sample_head_size_at fields)) (place + instrument_size_at from)
        (drop (instrument_size_at from) from)
        ≡ samples
    same_samples = cc (eh, same_sizes (count_at fields) fields, drop-drop (instrument_size_at from) place file)

    pub instrument_out : {r : Refusal} → samples ≡ refused (paper_refusal r) → read_instrument kind place from ≡ refused (paper_refusal r)
    unfolding read_instrument
    instrument_out q = pass (instrument_tests kind place from) h (step_refused _ (same_samples ∙ q))

    instrument_in : {v : SamplesFound} {n : ℕ} → samples ≡ got v n → read_instrument kind place from ≡ got (found v) (instrument_size_at from + n)
    unfolding read_instrument
    instrument_in q = pass (instrument_tests kind place from) h (step _ (same_samples ∙ q) refl)

    pub instrument_read : {next size : ℕ} → Given next ≡ place_step (head).heads samples → size ≡ instrument_size_at from
        → Given (record { size = size; samples = (head).samples; head_size = (head).head_size; next = next })
        ≡ step_by (instrument_given place) (read_instrument kind place from)
    instrument_read {next} e p = next_got (head).heads samples e λ v n q z.
        let s = samples_size (head).samples (head).head_size (head).heads (drop (head).heads file) v n q in
        let many = ap InstrumentHead.samples eh in
        let wide = ap InstrumentHead.head_size eh in
        let on : next ≡ place + (instrument_size_at from + n) = omega (arith, fields_of_lem.heads) in
        cc (instrument_in q, s.counted, wide ∙ size_first (count_at fields) fields v.0 (s.counted ∙ many) (λ one. s.first (omega arith) ∙ wide))

  -- of an instrument that was read, with no step at hand
  pub instrument-part : {head : InstrumentHead} {next size : ℕ} {i : InstrumentFound} {n : ℕ} → head ≡ instrument_head kind place from
      → read_instrument kind place from ≡ got i n → next ≡ place + n → size ≡ instrument_size_at from
      → Given (record { size = size; samples = (head).samples; head_size = (head).head_size; next = next })
      ≡ step_by (instrument_given place) (read_instrument kind place from)
  unfolding read_instrument
  instrument-part {head} {next} eh e l z =
      passed _ _ e λ h e₁. bind_got _ _ e₁ λ v m ev e₂.
      let on : next ≡ (head).heads + m = omega (arith, l, got_used e₂, (fields_of_lem h eh).heads) in
      instrument_read h eh (ap Given on ∙ sym (ap (place_step (head).heads) (sym (same_samples h eh) ∙ ev))) z

  -- An instrument that was read, by the part that its step gave
  pub record AsRead (piece : InstrumentPart) : Type 0 where
    pub samples : SamplesFound
    pub used : ℕ
    pub tests : AllHold (instrument_tests kind place from)
    pub reads : samples_format.read (replicate (count_at fields) (sample_head_size_at fields)) (place + instrument_size_at from) (drop (instrument_size_at from) from)
        ≡ got samples used
    pub is : read_instrument kind place from ≡ got (found samples) (instrument_size_at from + used)
    pub same : piece ≡ record {
      size = instrument_size_at from;
      samples = length samples.0;
      head_size = size_of_first samples.0;
      next = place + (instrument_size_at from + used);
    }

  pub as_read : {piece : InstrumentPart} → Given piece ≡ step_by (instrument_given place) (read_instrument kind place from) → AsRead piece
  unfolding read_instrument
  as_read {piece} e = go (read_instrument kind place from) refl e
    where
      go : (g : Got InstrumentFound) → read_instrument kind place from ≡ g → Given piece ≡ step_by (instrument_given place) g → AsRead piece
      go (got i n) q e =
          passed _ _ q λ h q₁. bind_got _ _ q₁ λ v m ev q₂. record {
            samples = v;
            used = m;
            tests = h;
            reads = ev;
            is = q ∙ sym q₂;
            same = same_part (e ∙ ap (step_by (instrument_given place)) (sym q₂));
          }
      go (refused r) q e = absurd (no_true (cc))

  module _ {piece : InstrumentPart} (r : AsRead piece) where
    abbrev data_bytes : List ℕ
    data_bytes = (each data_format).write ((each data_format).view r.samples.1)

    -- where it lies: its headers, and behind them the data
    pub record PartLies : Type 0 where
      pub count : piece.samples ≡ count_at fields
      pub few : piece.samples ≤ samples_most
      pub size : piece.size ≡ instrument_size_at from
      pub there : place + piece.size ≤ length file
      pub head : 1 ≤ piece.samples → piece.head_size ≡ sample_head_size_at fields
      pub ends : place + piece.size + piece.samples * piece.head_size + length data_bytes ≡ piece.next
      pub views : (each head_format).view r.samples.0 ≡ heads_from piece.samples piece.head_size (drop (place + piece.size) file)

    pub part_lies : PartLies
    part_lies =
        let w = fields_pass kind place from r.tests in
        let s = samples_size (count_at fields) (sample_head_size_at fields) (place + instrument_size_at from) (drop (instrument_size_at from) from) r.samples
        r.used
        r.reads in
        let count = ap InstrumentPart.samples r.same ∙ s.counted in
        let size = ap InstrumentPart.size r.same in
        let head : 1 ≤ piece.samples → piece.head_size ≡ sample_head_size_at fields = λ h. ap InstrumentPart.head_size r.same
        ∙ s.first (omega (arith, count)) in
        record {
          count = count;
          few = omega (arith, count, w.few);
          size = size;
          there = omega (arith, size, w.some, w.there, length-drop place file);
          head = head;
          ends = omega (
            arith,
            size,
            ap InstrumentPart.next r.same,
            s.behind,
            times piece.samples (count_at fields) piece.head_size (sample_head_size_at fields) count head,
          );
          views =
              samples_viewed (count_at fields) (sample_head_size_at fields) (place + instrument_size_at from) (drop (instrument_size_at from) from) r.samples
              r.used
              r.reads
              ∙ ap (heads_from (count_at fields) (sample_head_size_at fields))
              (drop-drop (instrument_size_at from) place file ∙ ap (λ (n : ℕ). drop (place + n) file) (sym size))
              ∙ heads_by_lem piece.samples (count_at fields) piece.head_size (sample_head_size_at fields) (drop (place + piece.size) file) count head;
        }

    -- inside the file
    pub part_inside : Bytes file → piece.next ≤ length file
    part_inside b =
        let w = fields_pass kind place from r.tests in
        omega (
          arith,
          w.some,
          ((instrument_keeps kind).keeps place from (found r.samples) (instrument_size_at from + r.used) (bytes_drop place b) r.is).inside,
          ap InstrumentPart.next r.same,
          length-drop place file,
        )
