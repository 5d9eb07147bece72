-- The definitions worked on small numbers, by computation. Modules are checked in the order of their names, and this one before the laws: so a wrong
-- definition is refused first by a number that differs. Assumes nothing.
use Prim.Native.Nat.{ℕ}
use mathlib.Core.Bool.{true, false}
use mathlib.Core.List.{List, [], ◌∷◌, ◌++◌, map}
use mathlib.Core.Path.{◌≡◌, refl}
use lib.Count.{ones, ones_in}
use lib.IntN.{pos, negsuc}
use lib.ListN.{length, take, drop, replicate}
use Rattle.xm.specs.Number.{byte_at, word_at, long_at, long, signed}
use Rattle.xm.specs.ModuleKind.{ModuleKind, normal, stripped, padded, before, trimmed}
use Rattle.xm.specs.Got.{Got, got, refused, list_in, ◌>>=◌, ◌>>◌, ensure, checked}
use Rattle.xm.specs.Format.{Region, Kind, header, pattern_header, pattern_data, instrument, sample_header, sample_data}
use Rattle.xm.specs.Answer.{loader_number}
use Rattle.xm.specs.Cell.{length_by, fields_by, cell_at, read_cell, kept, marks, kepts, marked, plain_by, stands_plain, plain_shorter, goes_plain, write_cell}
use Rattle.xm.specs.Stored.{read_cells, read_stored, all_zero, needs_no_data, write_stored, cells_of}
use Rattle.xm.specs.Header.{is_stripped, kind_at, restart_inside, restart_of, tracker_at, read_header, write_header}
use Rattle.xm.specs.PatternInFile.{PatternFound, read_pattern, write_pattern}
use Rattle.xm.specs.Sample.{StretchFound, Samples, head_bytes, length_of, loop_kind, loop_from, loop_count, adpcm, data_size, read_head, read_data, smallest_head}
use Rattle.xm.specs.Instrument.{InstrumentFound, count_at, fields_of, read_instrument, write_voice, write_fields, write_instrument, instrument_format}
use Rattle.xm.specs.Module.{read_whole, plays}
use Rattle.xm.specs.Packing.{unpacking, unpack_numbers, unpack_after, packing, pack_numbers, pack_loader}
use Rattle.xm.specs.Delta.{pairs, stored_numbers, sums, decoded, decoding, decode_numbers}
use Rattle.xm.specs.Adpcm.{halves, chosen, adpcm_decoded}
use Rattle.xm.specs.Table.{pattern_row, SampleRow, sample_row_at, sample_rows_in, InstrumentRow, instrument_rows_from, checking}
use Rattle.xm.specs.Table.{check_numbers, checking_into, check_into_loader, pattern_numbers, sample_numbers}
use Rattle.xm.specs.Asking.{asking, ask_numbers, asking_flat}
use Rattle.xm.specs.Structure.{kind_number, structures_of, Standing, stands, ended, hand_head, hand_over}
use Rattle.xm.specs.Press.{pressed, pressing_as, press_numbers}
use Rattle.xm.specs.Convert.{convert_tests, converting, convert_numbers}
use Rattle.xm.specs.Bench.{answer_list}
use Rattle.xm.specs.Worked.{headed, small, named, no_bytes, counted, five_bytes, sampled, noted}
use Rattle.xm.specs.Wrong.{song}

-- A note of 200 is read whole; a full cell with a note of 128 is written marked, in six bytes, and with one of 127 plain
pub high_notes : (cell_at (0x81 ∷ 200 ∷ []) ≡ 200 ∷ 0 ∷ 0 ∷ 0 ∷ 0 ∷ [])
    × (write_cell (128 ∷ 1 ∷ 2 ∷ 3 ∷ 4 ∷ []) ≡ 0x9F ∷ 128 ∷ 1 ∷ 2 ∷ 3 ∷ 4 ∷ [])
    × (write_cell (127 ∷ 1 ∷ 2 ∷ 3 ∷ 4 ∷ []) ≡ 127 ∷ 1 ∷ 2 ∷ 3 ∷ 4 ∷ [])
unfolding cell_at fields_by write_cell goes_plain plain_by stands_plain plain_shorter marked kepts marks kept
high_notes = (refl, refl, refl)

-- The bytes used and some numbers of what is read; none of a refusal
abbrev pub numbers_in : {A : Type 0} → (A → List ℕ) → Got A → List ℕ
numbers_in f (got a n) = n ∷ f a
numbers_in f (refused r) = []

-- A pattern at 100, whose header has ten bytes and whose data has one: its row says 110, one byte, one row
pub long-header : numbers_in (λ (i : PatternFound). pattern_numbers (pattern_row i))
    (read_pattern 1 100 (10 ∷ 0 ∷ 0 ∷ 0 ∷ 0 ∷ 1 ∷ 0 ∷ 1 ∷ 0 ∷ 0 ∷ 0x80 ∷ []))
    ≡ 11 ∷ 110 ∷ 1 ∷ 1 ∷ []
unfolding read_pattern ◌>>=◌ ◌>>◌ ensure checked read_stored read_cells read_cell cell_at fields_by length_by ones ones_in word_at long_at
long-header = refl

-- A sample of one byte, 5, with another behind it
pub one_byte : numbers_in StretchFound.bytes (read_data (1 ∷ replicate 39 0) 0 (5 ∷ 6 ∷ [])) ≡ 1 ∷ 5 ∷ []
unfolding read_data data_size ◌>>◌ ensure checked long_at
one_byte = refl

-- A sample header by its length, loop start, loop length, type and kind
abbrev sample_head : (length start loop type kind : ℕ) → List ℕ
sample_head length start loop type kind = length ∷ replicate 3 0 ++ start ∷ replicate 3 0 ++ loop ∷ replicate 5 0 ++ type ∷ 0 ∷ 0 ∷ kind ∷ replicate 22 0

-- Of kind AD: no values take no byte, one and two take 17, three take 18, and the row says so. Three values of the indexes 1, 2, 1 and a half that is
-- not used; 160 is -96. At 8 bits the header is read, at 16 it is refused
abbrev adpcm_head : (length type : ℕ) → List ℕ
adpcm_head length type = sample_head length 0 0 type adpcm

pub adpcm_bytes : map (λ (n : ℕ). (sample_row_at 0 0 (adpcm_head n 0)).size) (0 ∷ 1 ∷ 2 ∷ 3 ∷ []) ≡ 0 ∷ 17 ∷ 17 ∷ 18 ∷ []
unfolding data_size long_at
adpcm_bytes = refl

pub adpcm_values : adpcm_decoded 3 (0 ∷ 100 ∷ 60 ∷ replicate 13 7 ++ 0x21 ∷ 0xF1 ∷ []) ≡ pos 100 ∷ negsuc 95 ∷ pos 4 ∷ []
unfolding adpcm_decoded chosen halves decoded stored_numbers pairs sums signed
adpcm_values = refl

pub adpcm_heads : map (λ (type : ℕ). numbers_in StretchFound.bytes (read_head 40 0 (adpcm_head 0 type))) (0 ∷ 16 ∷ []) ≡ (40 ∷ adpcm_head 0 0) ∷ [] ∷ []
unfolding read_head padded ◌>>◌ ensure checked long_at
adpcm_heads = refl

-- A row's bytes, width and loop. In samples: forward at 16 bits, from byte 2 for 4 bytes; both ways at 8 bits; in five values of kind AD. All 0:
-- with a loop length of 0, and with loop bits of 0
pub loop_columns : map (λ (head : List ℕ). drop 2 (sample_numbers (sample_row_at 0 0 head)))
    (sample_head 8 2 4 17 0 ∷ sample_head 8 2 4 2 0 ∷ sample_head 5 2 3 1 adpcm ∷ sample_head 8 2 0 1 0 ∷ sample_head 8 2 4 16 0 ∷ [])
    ≡ (8 ∷ 16 ∷ 1 ∷ 1 ∷ 2 ∷ []) ∷ (8 ∷ 8 ∷ 2 ∷ 2 ∷ 4 ∷ []) ∷ (19 ∷ 8 ∷ 1 ∷ 2 ∷ 3 ∷ []) ∷ (8 ∷ 8 ∷ 0 ∷ 0 ∷ 0 ∷ []) ∷ (8 ∷ 16 ∷ 0 ∷ 0 ∷ 0 ∷ []) ∷ []
unfolding data_size loop_kind loop_from loop_count long_at
loop_columns = refl

-- 13 of an odd loop start and of an odd loop length at 16 bits, and 12 before it; of both at 8 bits, and where nothing loops, it is read; and 13 of
-- loop bits 3
abbrev number_of : {A : Type 0} → Got A → ℕ
number_of (got a n) = 0
number_of (refused r) = r.number

pub odd_loops : map (λ (head : List ℕ). number_of (read_head 40 0 head))
    (sample_head 8 1 2 17 0 ∷ sample_head 8 2 3 18 0 ∷ sample_head 8 1 3 17 adpcm
    ∷ sample_head 8 1 3 1 0 ∷ sample_head 8 1 3 16 0 ∷ sample_head 8 1 0 17 0 ∷ sample_head 8 2 4 3 0 ∷ [])
    ≡ 13 ∷ 13 ∷ 12 ∷ 0 ∷ 0 ∷ 0 ∷ 13 ∷ []
unfolding read_head padded ◌>>◌ ensure checked long_at
odd_loops = refl

-- A step of 1 from 127 wraps; two values are two
pub wraps : decoded 8 (127 ∷ 1 ∷ []) ≡ pos 127 ∷ negsuc 127 ∷ []
unfolding decoded stored_numbers pairs sums signed
wraps = refl

pub two_values : decode_numbers 8 (127 ∷ 1 ∷ []) 2 ≡ 0 ∷ 0 ∷ 2 ∷ []
unfolding decoding decoded stored_numbers pairs sums ◌>>◌ ensure checked
two_values = refl

-- A note and an empty cell are three bytes, in two rows: 3 + 65,536 × 2. Empty cells in three rows are packed to no bytes, and unpacked from
-- none and from three
pub two_cells : write_stored (record { rows = 2; cells = (1 ∷ replicate 4 0) ∷ replicate 5 0 ∷ [] }) ≡ 0x81 ∷ 1 ∷ 0x80 ∷ []
unfolding write_stored needs_no_data all_zero write_cell goes_plain plain_by stands_plain plain_shorter marked kepts marks kept ones ones_in
two_cells = refl

pub cells_packed : (pack_numbers 2 1 (1 ∷ replicate 9 0) 3 ≡ 0 ∷ 0 ∷ 3 ∷ 2 ∷ [])
    × (pack_loader 2 1 (1 ∷ replicate 9 0) 3 ≡ 131075)
    × (pack_numbers 3 1 (replicate 15 0) 0 ≡ 0 ∷ 0 ∷ 0 ∷ 3 ∷ [])
unfolding packing cells_of ◌>>◌ ensure checked write_stored needs_no_data all_zero write_cell goes_plain plain_by stands_plain plain_shorter marked kepts marks kept
    ones ones_in loader_number
cells_packed = (refl, refl, refl)

pub three_unpacked : (unpack_numbers 3 1 [] 15 ≡ 0 ∷ 0 ∷ 3 ∷ [])
    × (unpack_numbers 3 1 (replicate 3 0x80) 15 ≡ 0 ∷ 0 ∷ 3 ∷ [])
    × (unpack_after 1 1 (0x80 ∷ []) (replicate 6 7) ≡ 0 ∷ 0 ∷ 0 ∷ 0 ∷ 0 ∷ 7 ∷ [])
unfolding unpacking ◌>>=◌ ◌>>◌ ensure checked read_stored read_cells read_cell cell_at fields_by length_by ones ones_in
three_unpacked = (refl, refl, refl)

-- An instrument of 29 bytes without samples takes so many; behind it the first sample is still number 0
abbrev pub bare : InstrumentFound
bare = record { place = 0; size = 29; name = []; type = 0; voice = []; samples = ([], []) }

pub no_samples : (map Region.size ((instrument_format normal).regions bare) ≡ 29 ∷ [])
    × (map InstrumentRow.first (instrument_rows_from 0 (bare ∷ bare ∷ [])) ≡ 0 ∷ 0 ∷ [])
no_samples = (refl, refl)

-- One byte at 2 is asked for by the numbers of its row
pub one_asked : ask_numbers (asking_flat (7 ∷ 8 ∷ 9 ∷ []) (sample_numbers (sample_row_at 0 2 (sample_head 1 0 0 0 0))) 0) ≡ 0 ∷ 0 ∷ 2 ∷ 1 ∷ []
unfolding asking ◌>>◌ ensure checked data_size loop_kind loop_from loop_count long_at
one_asked = refl

-- Three kinds are handed over; of two sample headers one is left
pub three_kinds :
    let kinds = header ∷ pattern_header ∷ pattern_data ∷ instrument ∷ sample_header ∷ sample_data ∷ [] in
    map (λ (r : Region). kind_number r.kind) (structures_of (map (λ (k : Kind). record { kind = k; place = 0; size = 0 }) kinds)) ≡ 1 ∷ 3 ∷ 4 ∷ []
three_kinds = refl

pub one_left : (hand_head (record { patterns = 0; instruments = 0; place = 0; heads = 2; head = 0; head_size = 40 })).ahead.heads ≡ 1
one_left = refl

-- At two channels an order entry that names no pattern plays 128 cells, and not those of pattern 0
pub two_channels : length (plays (
  record {
    module_name = [];
    tracker_name = [];
    song_length = 1;
    restart = 0;
    channels = 2;
    patterns = 1;
    instruments = 0;
    flags = 0;
    tempo = 6;
    bpm = 125;
    orders = 1 ∷ [];
  },
  (record { rows = 1; cells = replicate 2 (replicate 5 0) } ∷ [], []),
) 0).cells ≡ 128
unfolding plays
two_channels = refl

-- No bytes are refused; the song's file is read to its end, with and without tables
pub song-checked : (check_numbers [] ≡ 1 ∷ 0 ∷ 0 ∷ 0 ∷ 0 ∷ 0 ∷ 0 ∷ [])
    × (check_numbers (pressed normal song) ≡ 0 ∷ 0 ∷ 662 ∷ 1 ∷ 2 ∷ 1 ∷ 1 ∷ [])
    × (check_into_loader (record { patterns = 2; instruments = 1; samples = 1 }) (pressed normal song) ≡ 662)
unfolding checking checking_into loader_number read_whole ◌>>=◌ ◌>>◌ ensure checked kind_at restart_inside restart_of read_header write_header read_pattern
    write_pattern read_stored read_cells read_cell cell_at fields_by length_by ones ones_in write_stored needs_no_data all_zero write_cell goes_plain plain_by stands_plain
    plain_shorter marked kepts marks kept read_head read_data read_instrument write_voice write_instrument word_at long_at padded data_size
song-checked = (refl, refl, refl)

-- A stripped header of one order: by its mark, version and header size it is refused with 4, read, refused with 4 as a normal one, and refused with
-- 3 as neither, which is not taken for a stripped one. No byte of its tracker name is read, and 81 bytes are written, of
-- which the first are nulls
abbrev header_by : (mark : ℕ) (version : List ℕ) (size : ℕ) → List ℕ
header_by mark version size = headed (replicate 17 1) (mark ∷ []) (replicate 20 1) version (size ∷ 0 ∷ 0 ∷ 0 ∷ []) 0 (replicate 1 0)

abbrev no_version : List ℕ
no_version = 0 ∷ 0 ∷ []

abbrev version104 : List ℕ
version104 = 4 ∷ 1 ∷ []

abbrev headers : List (List ℕ)
headers =
    header_by 0 no_version 20
    ∷ header_by 0 no_version 21
    ∷ header_by 0x1A version104 21
    ∷ header_by 0 version104 21
    ∷ header_by 0x1A no_version 21
    ∷ []

pub header_kinds : (map is_stripped headers ≡ true ∷ true ∷ false ∷ false ∷ false ∷ [])
    × (map (λ (s : List ℕ). number_of (read_header (kind_at s) 0 s)) headers ≡ 4 ∷ 0 ∷ 4 ∷ 3 ∷ 3 ∷ [])
    × (tracker_at stripped (header_by 0 no_version 21) ≡ replicate 20 0)
    × (map (λ (kind : ModuleKind). length (write_header kind song.0)) (normal ∷ stripped ∷ []) ≡ 336 ∷ 81 ∷ [])
    × (map (λ (kind : ModuleKind). take 3 (write_header kind song.0)) (normal ∷ stripped ∷ []) ≡ (69 ∷ 120 ∷ 116 ∷ []) ∷ (0 ∷ 0 ∷ 0 ∷ []) ∷ [])
unfolding kind_at read_header write_header ◌>>◌ ensure checked restart_inside restart_of word_at long_at
header_kinds = (refl, refl, refl, refl, refl)

-- A stripped instrument's k is 5 and 7 in two bytes: with I = 27, 28 and 29 neither of them, the first, and both are there. The same of a sample
-- header's length by H
pub cut_off : (map (λ (I : ℕ). count_at (fields_of stripped (I ∷ replicate 26 0 ++ 5 ∷ 7 ∷ 9 ∷ []))) (27 ∷ 28 ∷ 29 ∷ []) ≡ 0 ∷ 5 ∷ 1797 ∷ [])
    × (map (λ (H : ℕ). length_of (head_bytes H (5 ∷ 7 ∷ 0 ∷ 0 ∷ 9 ∷ []))) (0 ∷ 1 ∷ 2 ∷ 40 ∷ []) ≡ 0 ∷ 5 ∷ 1797 ∷ 1797 ∷ [])
unfolding padded word_at long_at
cut_off = (refl, refl)

-- Stripped instruments: 1 of three bytes, 10 of I = 3, 1 of I = 5 in four bytes, 1 of I = 40 in 28 bytes before the 10 of 17 samples; 16 samples with
-- no H are read, and so is I = 4; an H of 41 that is not there gets 1
pub stripped-refused : map (λ (s : List ℕ). number_of (read_instrument stripped 0 s))
    ((4 ∷ 0 ∷ 0 ∷ []) ∷ long 3 ∷ long 5 ∷ counted 40 17 ∷ counted 28 17 ∷ counted 28 16 ∷ no_bytes ∷ sampled 41 [] [] ∷ [])
    ≡ 1 ∷ 10 ∷ 1 ∷ 1 ∷ 10 ∷ 0 ∷ 0 ∷ 1 ∷ []
unfolding read_instrument read_head read_data data_size padded ◌>>=◌ ◌>>◌ ensure checked word_at long_at
stripped-refused = refl

-- The smallest H is the one of the longest header: of no bytes, of one and of 18; and an instrument without samples is written in four bytes,
-- one with a sample of five in 36, with I = 30
pub smallest : (map smallest_head
    ((replicate 40 0 ∷ []) ∷ (replicate 40 0 ∷ sample_head 5 0 0 0 0 ∷ []) ∷ (adpcm_head 1 0 ∷ sample_head 5 0 0 0 0 ∷ []) ∷ [])
    ≡ 0 ∷ 1 ∷ 18 ∷ [])
    × (write_instrument stripped (record { name = replicate 22 0; type = 0; voice = []; samples = ([], []) }) ≡ no_bytes)
    × (let samples : Samples = (sample_head 5 0 0 0 0 ∷ [], (1 ∷ 2 ∷ 3 ∷ 4 ∷ 5 ∷ []) ∷ []) in
    write_instrument stripped (record { name = replicate 22 0; type = 0; voice = replicate 208 0; samples = samples }) ≡ five_bytes)
unfolding smallest_head write_instrument write_fields trimmed before
smallest = (refl, refl, refl)

-- Two sample headers of a byte each stand behind the 30 bytes of an instrument at 90, and then their data, of two bytes and of three
abbrev two_samples : List ℕ
two_samples = 30 ∷ replicate 26 0 ++ 2 ∷ 0 ∷ 1 ∷ 2 ∷ 3 ∷ 1 ∷ 2 ∷ 3 ∷ 4 ∷ 5 ∷ []

pub heads_behind : (list_in (λ (i : InstrumentFound). map SampleRow.header_place (sample_rows_in i)) (read_instrument stripped 90 two_samples) ≡ 120 ∷ 121 ∷ [])
    × (list_in (λ (i : InstrumentFound). map SampleRow.data_place (sample_rows_in i)) (read_instrument stripped 90 two_samples) ≡ 122 ∷ 124 ∷ [])
unfolding read_instrument read_head read_data data_size padded ◌>>=◌ ◌>>◌ ensure checked word_at long_at
heads_behind = (refl, refl)

-- Of a stripped file with two sample headers of no bytes at its end the reader hands both over, and an instrument by the file's kind
abbrev place_in : Standing → ℕ
place_in (stands kind place) = place
place_in ended = 0

pub handed_over :
    (place_in (hand_over (small stripped 0) (record { patterns = 0; instruments = 0; place = 90; heads = 2; head = 90; head_size = 0 })).standing ≡ 90)
    × (place_in (hand_over (small stripped 0 ++ noted) (record { patterns = 0; instruments = 1; place = 90; heads = 0; head = 0; head_size = 0 })).standing ≡ 90)
unfolding hand_over kind_at read_instrument read_head read_data data_size padded ◌>>=◌ ◌>>◌ ensure checked word_at long_at
handed_over = (refl, refl)

-- A conversion takes the tracker name away, keeps tempo and BPM, and writes the 81 bytes of a header and nine of a pattern; 2 is tried before 14,
-- and 14 within the limit
pub converted-small : (answer_list (λ (x : List ℕ). length x ∷ byte_at 38 x ∷ word_at 76 x ∷ word_at 78 x ∷ [])
    (converting stripped (named (0x1A ∷ []) version104) 1000)
    ≡ 90 ∷ 0 ∷ 6 ∷ 125 ∷ [])
    × (map (λ (size : ℕ). number_of (checked (convert_tests size 16777215))) (16777217 ∷ 16777216 ∷ 16777215 ∷ []) ≡ 2 ∷ 14 ∷ 0 ∷ [])
unfolding converting read_whole ◌>>=◌ ◌>>◌ ensure checked kind_at restart_inside restart_of read_header write_header read_pattern write_pattern read_stored write_stored
    needs_no_data all_zero word_at long_at
converted-small = (refl, refl)

-- No bytes in no room: the file's own refusal comes first
pub own_first : (press_numbers [] 0 ≡ 1 ∷ 0 ∷ 0 ∷ [])
    × (map (λ (to : ModuleKind). convert_numbers to [] 0) (normal ∷ stripped ∷ []) ≡ (1 ∷ 0 ∷ 0 ∷ []) ∷ (1 ∷ 0 ∷ 0 ∷ []) ∷ [])
unfolding pressing_as converting read_whole ◌>>=◌ ◌>>◌ ensure checked kind_at read_header
own_first = (refl, refl)
