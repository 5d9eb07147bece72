-- What stands in a file of an instrument: its fields, in I bytes, and its sample headers with the data behind them. Assumes nothing.
use Prim.Native.Nat.{ℕ, zero, suc, ◌+◌, ◌*◌, ◌<◌}
use mathlib.Core.Bool.{cond}
use mathlib.Core.List.{List, [], ◌∷◌, ◌++◌}
use mathlib.Core.Path.{◌≡◌, refl, ap, ap₂, ◌∙◌, subst}
use native.Mathlib.Nat.{suc-mul, zero-mul}
use native.Mathlib.Omega.{arith}
use lib.Dec.{ltb}
use borrow.Author.Tests.{lt-ltb}
use lib.ListN.{length, take, drop, length-map}
use lib.Seq.{get_or-take, get_or-drop}
use Rattle.xm.specs.Number.{byte_at, word_at, long_at, part}
use Rattle.xm.specs.ModuleKind.{ModuleKind, normal, stripped}
use Rattle.xm.specs.Got.{AllHold}
use Rattle.xm.specs.Format.{Region, sample_header, sample_data, joined, All}
use Rattle.xm.specs.Sample.{StretchFound, stretch_region, samples_format}
use Rattle.xm.specs.Instrument.{voice_size, fields_of, instrument_tests, InstrumentFound, voice_of, read_instrument, GoodVoice}
use Rattle.xm.specs.Instrument.{GoodInstrument, instrument_view, instrument_format}
use Rattle.xm.specs.Table.{sample_rows_of}
use Rattle.xm.specs.Region.{Adjoin}
use Rattle.xm.specs.Demands.{FieldsStand, HeadsFrom, FirstData, HeadsTogether}
use Rattle.xm.proofs.Number.{bytes_drop}
use Rattle.xm.proofs.Got.{passed, bind_got, got_carry}
use Rattle.xm.proofs.Format.{Tells}
use Rattle.xm.proofs.Cut.{padded_at, byte_cut}
use Rattle.xm.proofs.Instrument.{instrument_adjoins, samples_sizes, samples_count}
use Rattle.xm.proofs.Stripped.{instrument_keeps}

-- A byte of the fields is what stands there within I, and 0 beyond; of a normal instrument the fields that are read lie within I
abbrev There : ModuleKind → List ℕ → (offset : ℕ) → Type 0
There normal s offset = offset < long_at 0 s
There stripped s offset = offset < 241

there_front : (kind : ModuleKind) (place : ℕ) (s : List ℕ) → AllHold (instrument_tests kind place s) → (offset : ℕ) → offset < 29 → There kind s offset
there_front normal place s h offset l = omega (arith, h.1.0)
there_front stripped place s h offset l = omega arith

there_voice : (kind : ModuleKind) (place : ℕ) (s : List ℕ) → AllHold (instrument_tests kind place s) → 0 < word_at 27 (fields_of kind s)
    → (offset : ℕ) → offset < 241 → There kind s offset
there_voice normal place s h some offset l = omega (arith, h.1.1.1.0 (lt-ltb 0 (word_at 27 s) some))
there_voice stripped place s h some offset l = l

field_at : (kind : ModuleKind) (s : List ℕ) (offset : ℕ) → There kind s offset
    → byte_at offset (fields_of kind s) ≡ cond (ltb offset (long_at 0 s)) (byte_at offset s) 0
field_at normal s offset l = rw (lt-ltb offset (long_at 0 s) l)
field_at stripped s offset l = padded_at 241 offset (take (long_at 0 s) s) l ∙ byte_cut (long_at 0 s) offset s

field_stands : (kind : ModuleKind) (place : ℕ) (file : List ℕ) (offset : ℕ)
    → let s = drop place file in
    There kind s offset → byte_at offset (fields_of kind s) ≡ cond (ltb offset (long_at 0 s)) (byte_at (place + offset) file) 0
field_stands kind place file offset l =
    field_at kind (drop place file) offset l
    ∙ ap (λ (byte : ℕ). cond (ltb offset (long_at 0 (drop place file))) byte 0) (get_or-drop place file offset 0)

part_at : (from size k : ℕ) (s : List ℕ) → k < size → byte_at k (part from size s) ≡ byte_at (from + k) s
part_at from size k s l = get_or-take size (drop from s) k 0 l ∙ get_or-drop from s k 0

voice_at : (count k : ℕ) (s : List ℕ) → 0 < count → k < voice_size → byte_at k (voice_of count s) ≡ byte_at (33 + k) s
voice_at zero k s some l = absurd (omega arith)
voice_at (suc count) k s some l = part_at 33 voice_size k s l

word_bytes : (offset : ℕ) (s : List ℕ) → word_at offset s ≡ byte_at offset s + 256 * byte_at (offset + 1) s
unfolding word_at
word_bytes offset s = refl

long_bytes : (offset : ℕ) (s : List ℕ)
    → long_at offset s ≡ byte_at offset s + 256 * byte_at (offset + 1) s + 65536 * byte_at (offset + 2) s + 16777216 * byte_at (offset + 3) s
unfolding long_at
long_bytes offset s = refl

voice_size_lem : (count : ℕ) (voice : List ℕ) → GoodVoice count voice → length voice ≡ cond (ltb 0 count) 208 0
voice_size_lem zero voice g = ap length g
voice_size_lem (suc count) voice g = rw (lt-ltb 0 (suc count) (omega arith)) g.0

pub fields_stand : (kind : ModuleKind) → Tells (instrument_format kind) tt FieldsStand
unfolding read_instrument
fields_stand kind = record {
  tells = λ place file i n b e.
      let s = drop place file in
      let good = ((instrument_keeps kind).keeps place s i n (bytes_drop place b) e).good in
      passed _ _ e λ h e. bind_got _ _ e λ v m ev e.
      let f = fields_of kind s in
      let I = long_at 0 s in
      let count = samples_count (word_at 27 f) (long_at 29 f) (place + I) (drop I s) v m ev in
      let stands = field_stands kind place file in
      let front = there_front kind place s h in
      got_carry (λ (r : InstrumentFound) (u : ℕ). GoodInstrument (instrument_view r) → FieldsStand file r) e
      (λ good. record {
        size = refl;
        name_size = good.name_size;
        name = λ k l. part_at 4 22 k f l ∙ stands (4 + k) (front (4 + k) (omega arith));
        type = stands 26 (front 26 (omega arith));
        count = count ∙ word_bytes 27 f ∙ ap₂ (λ (low high : ℕ). low + 256 * high) (stands 27 (front 27 (omega arith))) (stands 28 (front 28 (omega arith)));
        voice_size = voice_size_lem (length v.0) _ (rw (length-map v.0 StretchFound.bytes) at good.voice_good);
        voice = λ some k l.
            let some : 0 < word_at 27 f = omega (arith, count) in
            voice_at (word_at 27 f) k f some l ∙ stands (33 + k) (there_voice kind place s h some (33 + k) (omega arith));
      }) good;
}

-- The headers stand together, of one size, and the first one's data behind them: their regions adjoin
abbrev Sizes : (size : ℕ) → List StretchFound → Type 0
Sizes size heads = All (λ (h : StretchFound). h.size ≡ size) heads

module _ (size : ℕ) where
  heads_from : (heads bytes : List StretchFound) (place end : ℕ) (rest : List Region) → Sizes size heads
      → Adjoin place (joined (stretch_region sample_header) heads ++ rest) end → HeadsFrom place size (sample_rows_of heads bytes)
  heads_from [] bytes place end rest z c = tt
  heads_from (h ∷ heads) [] place end rest z c = tt
  heads_from (h ∷ heads) (b ∷ bytes) place end rest z c =
      let next : h.place + h.size ≡ place + size = omega (arith, z.0, c.0) in
      (c.0, subst (λ (from : ℕ). HeadsFrom from size (sample_rows_of heads bytes)) next (heads_from heads bytes (h.place + h.size) end rest z.1 c.1))

  heads_end : (heads : List StretchFound) (place end : ℕ) (rest : List Region) → Sizes size heads
      → Adjoin place (joined (stretch_region sample_header) heads ++ rest) end → Adjoin (place + length heads * size) rest end
  heads_end [] place end rest z c = subst (λ (from : ℕ). Adjoin from rest end) (omega (arith, zero-mul size)) c
  heads_end (h ∷ heads) place end rest z c =
      let next : h.place + h.size + length heads * size ≡ place + suc (length heads) * size = omega (arith, z.0, c.0, suc-mul (length heads) size) in
      subst (λ (from : ℕ). Adjoin from rest end) next (heads_end heads (h.place + h.size) end rest z.1 c.1)

  first_data : (heads bytes : List StretchFound) (place end : ℕ) → Adjoin place (joined (stretch_region sample_data) bytes) end
      → FirstData place (sample_rows_of heads bytes)
  first_data [] bytes place end c = tt
  first_data (h ∷ heads) [] place end c = tt
  first_data (h ∷ heads) (b ∷ bytes) place end c = c.0

pub heads_together : (kind : ModuleKind) → Tells (instrument_format kind) tt HeadsTogether
unfolding read_instrument
heads_together kind = record {
  tells = λ place file i n b e.
      let s = drop place file in
      let c = ((instrument_adjoins kind).adjoins place s i n e).1 in
      passed _ _ e λ h e. bind_got _ _ e λ v m ev e.
      let f = fields_of kind s in
      let H = long_at 29 f in
      let z = samples_sizes (word_at 27 f) H (place + long_at 0 s) (drop (long_at 0 s) s) v m ev in
      got_carry (λ (r : InstrumentFound) (u : ℕ). Adjoin (r.place + r.size) (samples_format.regions r.samples) (place + n) → HeadsTogether file r) e
      (λ c.
      let from = place + long_at 0 s in
      let rest = joined (stretch_region sample_data) v.1 in
      record {
        size = H;
        stands = λ some.
            let some : 0 < word_at 27 f = omega (arith, samples_count (word_at 27 f) H from (drop (long_at 0 s) s) v m ev) in
            let stands : (offset : ℕ) → offset < 241 → byte_at offset f ≡ cond (ltb offset (long_at 0 s)) (byte_at (place + offset) file) 0 =
            λ offset l. field_stands kind place file offset (there_voice kind place s h some offset l) in
            long_bytes 29 f
            ∙ rw (stands 29 (omega arith), stands 30 (omega arith), stands 31 (omega arith), stands 32 (omega arith));
        sized = z;
        headers = heads_from H v.0 v.1 from (place + n) rest z c;
        data_behind = first_data H v.0 v.1 (from + length v.0 * H) (place + n) (heads_end H v.0 from (place + n) rest z c);
      }) c;
}
