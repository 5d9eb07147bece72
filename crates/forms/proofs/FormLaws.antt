-- Laws of the form in which an instrument is written that was read at a place of a file. Assumes nothing.
use Prim.Native.Nat.{ℕ, zero, suc, ◌+◌, ◌-◌, ◌*◌, ◌≤◌}
use mathlib.Core.List.{List, [], ◌∷◌}
use mathlib.Core.Path.{◌≡◌, refl, sym, ap, ap₂, ◌∙◌}
use native.Mathlib.Nat.{mul-le-mul_right}
use native.Mathlib.Omega.{arith}
use lib.ListN.{length, take, drop, length-append, length-map}
use Rattle.xm.specs.Number.{Bytes, byte, word, long}
use Rattle.xm.specs.ModuleKind.{ModuleKind, normal, stripped, padded, trimmed}
use Rattle.xm.specs.Got.{Told}
use Rattle.xm.specs.Format.{each, joined, flat}
use Rattle.xm.specs.Header.{kind_at}
use Rattle.xm.specs.Sample.{least_head, StretchFound, head_format, data_format, smallest_head}
use Rattle.xm.specs.Instrument.{least_instrument, least_stripped, samples_most, instrument_size_at, count_at, sample_head_size_at, fields_of, Instrument, GoodInstrument}
use Rattle.xm.specs.Instrument.{read_instrument, count_of, write_fields, write_instrument, instrument_view}
use Rattle.xm.proofs.Number.{bytes_drop}
use Rattle.xm.proofs.Sample.{smallest_fits, cut_heads, cut_heads_size}
use Rattle.xm.proofs.Instrument.{instrument_size}
use Rattle.xm.proofs.Stripped.{instrument_keeps, stripped_size}
use Rattle.heads.specs.Sample.{heads_from}
use Rattle.heads.proofs.SampleLaws.{samples_size}
use Rattle.steps.specs.Step.{InstrumentIs}
use Rattle.steps.specs.declared.instrument.InstrumentPart.{InstrumentPart}
use Rattle.steps.proofs.InstrumentLaws.{found, AsRead, as_read, PartLies, part_lies, part_inside}
use Rattle.forms.specs.Form.{FormIs, normal_form, written_fields}
use Rattle.forms.specs.declared.Form.{Form}
use Rattle.forms.proofs.FieldLaws.{same_fields}

pub least_some : (count : ℕ) → (count ≡ 0 → ⊥) → 263 ≡ least_instrument count
least_some zero h = absurd (h refl)
least_some (suc count) h = refl

pub least_low : (count : ℕ) → 29 ≤ least_instrument count
least_low zero = omega arith
least_low (suc count) = omega arith

pub least_most : (count : ℕ) → least_instrument count ≤ 263
least_most zero = omega arith
least_most (suc count) = omega arith

-- No more than 16 headers of 40 bytes
pub times_most : (count size : ℕ) → count ≤ samples_most → size ≤ least_head → count * size ≤ 640
times_most count size h l = omega (arith, mul-le-mul_right {n = 16} size h)

none_smallest : (count size : ℕ) (s : List ℕ) → count ≡ 0 → smallest_head (heads_from count size s) ≡ 0
unfolding heads_from smallest_head
none_smallest zero size s z = refl
none_smallest (suc count) size s z = absurd (omega arith)

-- A part that was read lies inside the file: its fields, its headers, and behind them its data
pub record PartInside (file : List ℕ) (place : ℕ) (piece : InstrumentPart) : Type 0 where
  pub few : piece.samples ≤ samples_most
  pub there : place + piece.size ≤ length file
  pub behind : place + piece.size + piece.samples * piece.head_size ≤ piece.next
  pub ends : piece.next ≤ length file

module _ (file : List ℕ) (place : ℕ) {piece : InstrumentPart} (is : InstrumentIs file place piece) where
  abbrev kind : ModuleKind
  kind = kind_at file

  abbrev from : List ℕ
  from = drop place file

  abbrev fields : List ℕ
  fields = fields_of kind from

  abbrev r : AsRead file kind place piece
  r = as_read file kind place is

  abbrev x : Instrument
  x = instrument_view (found file kind place r.samples)

  abbrev data_bytes : List ℕ
  data_bytes = (each data_format).write x.samples.1

  abbrev bytes : ℕ
  bytes = length data_bytes

  lies : PartLies file kind place r
  lies = part_lies file kind place r

  -- The headers, as the code goes through them
  abbrev heads : ℕ
  heads = place + piece.size

  abbrev smallest : ℕ
  smallest = smallest_head (heads_from piece.samples piece.head_size (drop heads file))

  pub no_heads : piece.samples ≡ 0 → smallest ≡ 0
  no_heads z = none_smallest piece.samples piece.head_size (drop heads file) z

  -- What stands behind them
  abbrev behind : ℕ
  behind = piece.next - (heads + piece.samples * piece.head_size)

  same_smallest : smallest_head x.samples.0 ≡ smallest
  same_smallest = ap smallest_head lies.views

  counted : count_of x ≡ piece.samples
  counted = length-map r.samples.0 StretchFound.bytes ∙ sym (ap InstrumentPart.samples r.same)

  module _ (b : Bytes file) where
    good : GoodInstrument x
    good = ((instrument_keeps kind).keeps place from (found file kind place r.samples) (instrument_size_at from + r.used) (bytes_drop place b) r.is).good

    pub inside : PartInside file place piece
    inside = record { few = lies.few; there = lies.there; behind = omega (arith, lies.ends); ends = part_inside file kind place r b }

    -- what is told of the reading is told of this one
    pub form_told : {to : ModuleKind} {form : Form} → FormIs to place piece.next x form
        → Told (λ i. FormIs to place piece.next (instrument_view i) form) (read_instrument kind place from)
    form_told h = rw r.is h

    -- A normal one
    normal_length : length (write_instrument normal x) ≡ least_instrument piece.samples + 40 * piece.samples + bytes
    normal_length =
        let s = samples_size (count_at fields) (sample_head_size_at fields) _ (drop (instrument_size_at from) from) r.samples r.used r.reads in
        instrument_size x good 0 []
        ∙ ap₂ (λ (a b : ℕ). a + b) (ap least_instrument counted) (length-append ((each head_format).write x.samples.0) data_bytes)
        ∙ omega (arith, s.headed, lies.count)

    form_by : {size length : ℕ} → size ≡ least_instrument piece.samples → length ≡ size + 40 * piece.samples + behind
        → FormIs normal place piece.next x (record { size = size; head_size = 40; length = length })
    form_by {size} {length} p q =
        let ends = lies.ends in
        let same : length ≡ least_instrument piece.samples + 40 * piece.samples + bytes = omega arith in
        record {
          is = cc (ap least_instrument counted, normal_length);
          most = omega (arith, least_most piece.samples, lies.few);
        }

    pub form_normal : FormIs normal place piece.next x (normal_form place piece)
    form_normal = form_by refl refl

    -- A stripped one, with any H
    abbrev fields_with : (head_size : ℕ) → List ℕ
    fields_with head_size = trimmed (written_fields (padded 241 (take piece.size from)) piece.samples head_size)

    same_written : write_fields x ≡ fields_with smallest
    unfolding write_fields
    same_written =
        ap₂ (λ (k h : ℕ). trimmed (flat (x.name ∷ byte x.type ∷ word k ∷ long h ∷ x.voice ∷ []))) (counted ∙ lies.count) same_smallest
        ∙ ap trimmed (same_fields kind place from r.tests smallest)
        ∙ ap₂ (λ (I k : ℕ). trimmed (written_fields (padded 241 (take I from)) k smallest)) (sym lies.size) (sym lies.count)

    cut_length : length (joined (take (smallest_head x.samples.0)) x.samples.0) ≡ piece.samples * smallest
    cut_length =
        let g = good.samples_good.0 in
        let least = smallest_head x.samples.0 in
        let fits = smallest_fits (count_of x) x.samples.0 g in
        cut_heads_size (count_of x) least x.samples.0 fits (cut_heads (count_of x) least x.samples.0 g (omega arith))
        ∙ ap₂ (λ (a b : ℕ). a * b) counted same_smallest

    stripped_length : length (write_instrument stripped x) ≡ least_stripped + length (write_fields x) + piece.samples * smallest + bytes
    stripped_length =
        stripped_size x good
        ∙ ap (λ (n : ℕ). least_stripped + length (write_fields x) + n) (length-append (joined (take (smallest_head x.samples.0)) x.samples.0) data_bytes)
        ∙ omega (arith, cut_length)

    pub form_stripped : {size head length : ℕ} → size ≡ least_stripped + lib.ListN.length (fields_with head) → size ≤ 241 → head ≡ smallest → head ≤ least_head
        → length ≡ size + piece.samples * head + behind → FormIs stripped place piece.next x (record { size = size; head_size = head; length = length })
    form_stripped {size} {head} {length} p low e few q =
        let ends = lies.ends in
        let fields = ap (λ (s : List ℕ). lib.ListN.length s) (ap fields_with e ∙ sym same_written) in
        let own : size ≡ least_stripped + lib.ListN.length (write_fields x) = p ∙ ap (λ (n : ℕ). least_stripped + n) fields in
        let times = ap (λ (h : ℕ). piece.samples * h) e in
        let same : length ≡ lib.ListN.length (write_instrument stripped x) = omega (arith, stripped_length) in
        record {
          is = cc (e, same_smallest);
          most = omega (arith, times_most piece.samples head lies.few few);
        }
