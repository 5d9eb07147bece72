-- An instrument: "size I (4), name (22), type (1), sample count k at 27 (2). If k > 0: sample header size H at 29 (4), note map 33 ..
-- reserved 241", to 263; "Then k sample headers of H bytes each, then the k samples' data".
use Rattle.std.specs.Prelude.{ℕ, zero, suc, ◌+◌, ◌*◌, ◌≤◌, ◌<◌, List, [], ◌∷◌, ◌≡◌, ltb, length, take, drop, replicate}
use Rattle.xm.specs.Number.{Bytes, byte_at, word_at, long_at, part, byte, word, long}
use Rattle.xm.specs.ModuleKind.{ModuleKind, normal, stripped, padded, trimmed}
use Rattle.xm.specs.Got.{got, Reader, ◌>>=◌, ◌>>◌, Test, checked, present, at_least, at_most, when, ◌at◌}
use Rattle.xm.specs.Format.{Format, instrument, flat}
use Rattle.xm.specs.Sample.{least_head, Samples, SamplesFound, samples_format, cut_samples_format, smallest_head}

-- "I = 29 or 263"
abbrev pub least_instrument : (k : ℕ) → ℕ
least_instrument zero = 29
least_instrument (suc k) = 263

-- stripped, "I is at least 4"
abbrev pub least_stripped : ℕ
least_stripped = 4

abbrev pub samples_most : ℕ
samples_most = 16

abbrev pub voice_from : ℕ
voice_from = 33

abbrev pub voice_size : ℕ
voice_size = 208

-- The fields that are tested, at their offsets: I, k and H.
abbrev pub instrument_size_at : List ℕ → ℕ
instrument_size_at s = long_at 0 s

abbrev pub count_at : List ℕ → ℕ
count_at s = word_at 27 s

abbrev pub sample_head_size_at : List ℕ → ℕ
sample_head_size_at s = long_at 29 s

-- The bytes that the fields are read from: in a stripped file "Instrument bytes at offset I and beyond read as 0".
abbrev pub fields_of : ModuleKind → List ℕ → List ℕ
fields_of normal s = s
fields_of stripped s = padded (voice_from + voice_size) (take (instrument_size_at s) s)

-- "29 bytes present (1); 10; I bytes present (1); and if k > 0: 11; all k headers present (1)", all at the instrument's start.
-- 10: "I below 29, k above 16, or I below 263 with k above 0"
abbrev pub instrument_tests : ModuleKind → (place : ℕ) → List ℕ → List Test
instrument_tests normal place s =
    present (least_instrument 0) (length s) (1 at place)
    ∷ at_least (least_instrument 0) (instrument_size_at s) (10 at place)
    ∷ at_most samples_most (count_at s) (10 at place)
    ∷ when (ltb 0 (count_at s)) (at_least (least_instrument 1) (instrument_size_at s) (10 at place))
    ∷ present (instrument_size_at s) (length s) (1 at place)
    ∷ when (ltb 0 (count_at s)) (at_least least_head (sample_head_size_at s) (11 at place))
    ∷ when (ltb 0 (count_at s)) (present (instrument_size_at s + count_at s * sample_head_size_at s) (length s) (1 at place))
    ∷ []
-- "their instruments are tried for 4 bytes present (1), I below 4 (10), I bytes present (1), k above 16 (10)"; then, as above, for
-- all k headers. "11 never occurs for stripped files".
instrument_tests stripped place s =
    let fields = fields_of stripped s in
    let k = count_at fields in
    present least_stripped (length s) (1 at place)
    ∷ at_least least_stripped (instrument_size_at s) (10 at place)
    ∷ present (instrument_size_at s) (length s) (1 at place)
    ∷ at_most samples_most k (10 at place)
    ∷ when (ltb 0 k) (present (instrument_size_at s + k * sample_head_size_at fields) (length s) (1 at place))
    ∷ []

-- "each instrument's name, type, k, and if k > 0 bytes 33 to 240": k is the number of samples.
pub record Instrument : Type 0 where
  pub name : List ℕ
  pub type : ℕ
  pub voice : List ℕ
  pub samples : Samples

abbrev pub voice_of : (k : ℕ) → List ℕ → List ℕ
voice_of zero s = []
voice_of (suc k) s = part voice_from voice_size s

pub record InstrumentFound : Type 0 where
  pub place : ℕ
  pub size : ℕ
  pub name : List ℕ
  pub type : ℕ
  pub voice : List ℕ
  pub samples : SamplesFound

unfoldable pub read_instrument : ModuleKind → Reader InstrumentFound
read_instrument kind place s = do
  let size = instrument_size_at s
  let fields = fields_of kind s
  let k = count_at fields
  checked (instrument_tests kind place s)
  (samples, used) ← samples_format.read (replicate k (sample_head_size_at fields)) (place + size) (drop size s)
  got (record { place = place; size = size; name = part 4 22 fields; type = byte_at 26 fields; voice = voice_of k fields; samples = samples }) (size + used)

-- "I = 29 or 263, reserved bytes 0, H = 40"
unfoldable pub write_voice : (k : ℕ) (voice : List ℕ) → List ℕ
write_voice zero voice = []
write_voice (suc k) voice = flat (long least_head ∷ voice ∷ replicate 22 0 ∷ [])

abbrev pub count_of : Instrument → ℕ
count_of x = length x.samples.0

-- "Our stripped press uses the smallest H, then the smallest I": H first, since it is one of the fields that I may cut off.
unfoldable pub write_fields : Instrument → List ℕ
write_fields x = trimmed (flat (x.name ∷ byte x.type ∷ word (count_of x) ∷ long (smallest_head x.samples.0) ∷ x.voice ∷ []))

unfoldable pub write_instrument : ModuleKind → Instrument → List ℕ
write_instrument normal x = flat (
    long (least_instrument (count_of x))
    ∷ x.name
    ∷ byte x.type
    ∷ word (count_of x)
    ∷ write_voice (count_of x) x.voice
    ∷ samples_format.write x.samples
    ∷ [])
write_instrument stripped x = flat (
    long (least_stripped + length (write_fields x))
    ∷ write_fields x
    ∷ (cut_samples_format (smallest_head x.samples.0)).write x.samples
    ∷ [])

abbrev pub GoodVoice : (k : ℕ) (voice : List ℕ) → Type 0
GoodVoice zero voice = voice ≡ []
GoodVoice (suc k) voice = (length voice ≡ voice_size) × Bytes voice

pub record GoodInstrument (x : Instrument) : Type 0 where
  pub name_size : length x.name ≡ 22
  pub name_plain : Bytes x.name
  pub type_byte : x.type < 256
  pub few : count_of x ≤ samples_most
  pub voice_good : GoodVoice (count_of x) x.voice
  pub samples_good : samples_format.Good (replicate (count_of x) least_head) x.samples

abbrev pub instrument_view : InstrumentFound → Instrument
instrument_view i = record { name = i.name; type = i.type; voice = i.voice; samples = samples_format.view i.samples }

abbrev pub instrument_format : ModuleKind → Format (Unit {0}) InstrumentFound Instrument
instrument_format kind = record {
  read = λ u. read_instrument kind;
  view = instrument_view;
  regions = λ i. record { kind = instrument; place = i.place; size = i.size } ∷ samples_format.regions i.samples;
  Good = λ u. GoodInstrument;
  write = write_instrument kind;
}
