-- A sample header, the sample data, and all of an instrument's: "k sample headers of H bytes each, then the k samples' data, back to
-- back in order".
use Rattle.std.specs.Prelude.{ℕ, zero, suc, ◌+◌, ◌/◌, ◌%◌, ◌≤◌, max, Bool, cond, ◌&&◌, not, List, [], ◌∷◌, ◌≡◌, ltb, eqb, ℤ, length, take}
use Rattle.xm.specs.Number.{Bytes, byte_at, long_at, signed}
use Rattle.xm.specs.ModuleKind.{padded, trimmed}
use Rattle.xm.specs.Got.{got, Reader, ◌>>◌, Test, checked, present, at_most, unlike, even, when, ◌at◌, AllHold}
use Rattle.xm.specs.Format.{Format, Kind, Region, sample_header, sample_data, then, each}

-- "11 | H below 40", which the press writes; "each sample's first 40 header bytes" are content.
abbrev pub least_head : ℕ
least_head = 40

-- A header of any H: "Instrument bytes at offset I and beyond read as 0, and we treat sample headers the same for any H".
abbrev pub head_bytes : (size : ℕ) → List ℕ → List ℕ
head_bytes size s = padded least_head (take size s)

-- The fields in these bytes.
abbrev pub length_of : List ℕ → ℕ
length_of head = long_at 0 head

abbrev pub loop_start : List ℕ → ℕ
loop_start head = long_at 4 head

abbrev pub loop_length : List ℕ → ℕ
loop_length head = long_at 8 head

abbrev pub finetune : List ℕ → ℤ
finetune head = signed 8 (byte_at 13 head)

abbrev pub type_of : List ℕ → ℕ
type_of head = byte_at 14 head

abbrev pub relative_note : List ℕ → ℤ
relative_note head = signed 8 (byte_at 16 head)

abbrev pub kind_of : List ℕ → ℕ
kind_of head = byte_at 17 head

-- "Type bits 0 and 1 give the loop, bit 4 means 16-bit"
abbrev pub loop_bits : List ℕ → ℕ
loop_bits head = type_of head % 4

abbrev pub wide_by : (type : ℕ) → Bool
wide_by type = eqb (type / 16 % 2) 1

abbrev pub is_wide : List ℕ → Bool
is_wide head = wide_by (type_of head)

abbrev pub width_of : List ℕ → ℕ
width_of head = cond (is_wide head) 16 8

-- "A sample loops only if its loop length is above 0 and bits 0 and 1 are not 0."
abbrev pub loops_by : (type loop_length : ℕ) → Bool
loops_by type loop_length = ltb 0 loop_length && not (eqb (type % 4) 0)

abbrev pub loops : List ℕ → Bool
loops head = loops_by (type_of head) (loop_length head)

-- A count of bytes "counted in samples and not bytes"
abbrev pub in_samples : (width bytes : ℕ) → ℕ
in_samples width bytes = bytes / (width / 8)

-- A row's "loop kind (0 none, 1 forward, 2 both ways), loop start and loop length .. a sample that doesn't loop has 0 in all three"
unfoldable pub loop_kind : List ℕ → ℕ
loop_kind head = cond (loops head) (loop_bits head) 0

unfoldable pub loop_from : List ℕ → ℕ
loop_from head = cond (loops head) (in_samples (width_of head) (loop_start head)) 0

unfoldable pub loop_count : List ℕ → ℕ
loop_count head = cond (loops head) (in_samples (width_of head) (loop_length head)) 0

-- "Kind AD": ADPCM
abbrev pub adpcm : ℕ
adpcm = 0xAD

abbrev pub is_adpcm : List ℕ → Bool
is_adpcm head = eqb (kind_of head) adpcm

-- "if the length is above 0, a 16-byte table of deltas is followed by (length + 1) / 2 bytes, rounded down"
abbrev pub delta_table : ℕ
delta_table = 16

abbrev pub adpcm_size : (length : ℕ) → ℕ
adpcm_size zero = 0
adpcm_size (suc n) = delta_table + (suc n + 1) / 2

-- The bytes that its data takes: "The stored bytes, table included, are the content, and a sample row's length counts them."
abbrev pub data_size_by : (kind length : ℕ) → ℕ
data_size_by kind length = cond (eqb kind adpcm) (adpcm_size length) length

unfoldable pub data_size : List ℕ → ℕ
data_size head = data_size_by (kind_of head) (length_of head)

-- "each header's 12 then 13"; "12 now means kind AD with the 16-bit bit set"; 13: "loop bits are 3; 16-bit length odd; or a looping sample's
-- start + loop length above its length", and "also .. a looping 16-bit sample whose loop start or loop length is odd, tried after its other
-- causes"
abbrev pub head_tests : (place : ℕ) → List ℕ → List Test
head_tests place head =
    when (is_wide head) (unlike adpcm (kind_of head) (12 at place))
    ∷ unlike 3 (loop_bits head) (13 at place)
    ∷ when (is_wide head) (even (length_of head) (13 at place))
    ∷ when (loops head) (at_most (length_of head) (loop_start head + loop_length head) (13 at place))
    ∷ when (is_wide head) (when (loops head) (even (loop_start head) (13 at place)))
    ∷ when (is_wide head) (when (loops head) (even (loop_length head) (13 at place)))
    ∷ []

-- A stretch of the file, and what stands in it.
pub record StretchFound : Type 0 where
  pub place : ℕ
  pub size : ℕ
  pub bytes : List ℕ

abbrev pub stretch_region : Kind → StretchFound → List Region
stretch_region kind i = record { kind = kind; place = i.place; size = i.size } ∷ []

-- That all headers are present is tried for the instrument, before the first of them is read.
unfoldable pub read_head : (size : ℕ) → Reader StretchFound
read_head size place s = do
  checked (present size (length s) (1 at place) ∷ head_tests place (head_bytes size s))
  got (record { place = place; size = size; bytes = head_bytes size s }) size

pub record GoodHead (head : List ℕ) : Type 0 where
  pub size : length head ≡ least_head
  pub plain : Bytes head
  pub tests : AllHold (head_tests 0 head)

abbrev pub head_format : Format ℕ StretchFound (List ℕ)
head_format = record { read = read_head; view = λ i. i.bytes; regions = stretch_region sample_header; Good = λ size. GoodHead; write = λ head. head }

-- "each sample's data present (1)", at "where that data would begin"
unfoldable pub read_data : (head : List ℕ) → Reader StretchFound
read_data head place s = do
  checked (present (data_size head) (length s) (1 at place) ∷ [])
  got (record { place = place; size = data_size head; bytes = take (data_size head) s }) (data_size head)

pub record GoodData (head bytes : List ℕ) : Type 0 where
  pub size : length bytes ≡ data_size head
  pub plain : Bytes bytes

abbrev pub data_format : Format (List ℕ) StretchFound (List ℕ)
data_format = record { read = read_data; view = λ i. i.bytes; regions = stretch_region sample_data; Good = GoodData; write = λ bytes. bytes }

-- H, by the first header; 0 if there is none.
abbrev pub size_of_first : (heads : List StretchFound) → ℕ
size_of_first [] = 0
size_of_first (h ∷ hs) = h.size

-- All headers, and then the data of each.
abbrev pub SamplesFound : Type 0
SamplesFound = List StretchFound × List StretchFound

abbrev pub Samples : Type 0
Samples = List (List ℕ) × List (List ℕ)

abbrev pub samples_format : Format (List ℕ) SamplesFound Samples
samples_format = then (each head_format) (λ sizes heads. heads) (each data_format)

-- In a stripped file no more of each header is written than `kept` bytes: "the smallest H" that cuts off nothing but zeros.
pub record GoodCut (kept : ℕ) (head : List ℕ) : Type 0 where
  pub good : GoodHead head
  pub cut : length (trimmed head) ≤ kept

abbrev pub cut_head_format : (kept : ℕ) → Format ℕ StretchFound (List ℕ)
cut_head_format kept = record { read = read_head; view = λ i. i.bytes; regions = stretch_region sample_header; Good = λ size. GoodCut kept; write = take kept }

abbrev pub cut_samples_format : (kept : ℕ) → Format (List ℕ) SamplesFound Samples
cut_samples_format kept = then (each (cut_head_format kept)) (λ sizes heads. heads) (each data_format)

unfoldable pub smallest_head : (heads : List (List ℕ)) → ℕ
smallest_head [] = 0
smallest_head (head ∷ heads) = max (length (trimmed head)) (smallest_head heads)
