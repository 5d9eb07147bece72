-- The three demands, and the paper's further claims, as statements over these definitions. docs/PROMISES.md says where each is proved.
-- `Demand₁`, `Demand₂`, `Demand₃`; then of packing `Fifteen` and `EmptyPatterns`; of pressing `PressesWhole` and `SameBytes`; of normal and
-- stripped modules `KindsTold`, `SmallestSizes`, `KindsRefused`, `TenExactly`; of the press and of conversion `OwnRefusalsFirst`; of conversion
-- `ConvertsKeep`, `ConvertsBack`, `ConvertsWithin`; of the check's tables `TablesTell`; of a sample header `TwelveExactly` and `ThirteenExactly`; of
-- accepted files `AcceptedFiles`, `AsksExactly`, `RestIgnored`, `RestartsRead`, `PlaysOrders`; of the small reader `ReadersTell`; of the loader
-- `LoadersTell`.
use Rattle.std.specs.Prelude.{ℕ, ◌+◌, ◌*◌, ◌/◌, ◌%◌, ◌^◌, ◌≤◌, ◌<◌, min, true, cond, List, [], ◌∷◌, ◌++◌, map, ◌↔◌, ◌≡◌, ltb, eqb, ℤ, length, get_or, take, drop, replicate}
use Rattle.xm.specs.Number.{Bytes, byte_at, word_at, long_at, part, byte, word, long, signed}
use Rattle.xm.specs.ModuleKind.{ModuleKind, normal, stripped}
use Rattle.xm.specs.Got.{Refusal, got, refused, ◌at◌, AllHold}
use Rattle.xm.specs.Format.{Format, Kind, Region, pattern_header, pattern_data, instrument, sample_header, sample_data, joined, flat, All}
use Rattle.xm.specs.Answer.{Answer, gives, refuses, in_front, after}
use Rattle.xm.specs.Cell.{cell_size, cell_most}
use Rattle.xm.specs.Stored.{rows_most, Pattern, empty_rows, read_stored, write_stored, GoodPattern}
use Rattle.xm.specs.Header.{size_at, song_length_at, restart_at, orders_from, kind_at}
use Rattle.xm.specs.PatternInFile.{data_most, least_pattern, write_pattern}
use Rattle.xm.specs.Packing.{argument_tests, cell_bytes, unpacking, unpack_numbers, unpack_after, unpack_loader}
use Rattle.xm.specs.Packing.{pattern_of, packing, pack_numbers, pack_after, pack_loader}
use Rattle.xm.specs.Sample.{StretchFound, least_head, head_bytes, length_of, loop_start, loop_length, kind_of, loop_bits, is_wide, loops}
use Rattle.xm.specs.Sample.{adpcm, delta_table, adpcm_size, data_size_by, read_head}
use Rattle.xm.specs.Instrument.{instrument_size_at, count_at, sample_head_size_at, fields_of, Instrument, InstrumentFound, instrument_view, read_instrument}
use Rattle.xm.specs.Instrument.{write_instrument}
use Rattle.xm.specs.Module.{Found, Content, module_format, regions_of, file_most, read_whole, read_file, plays}
use Rattle.xm.specs.Delta.{stored_numbers, decoding, decode_numbers, decode_after, decoding_limited, decode_loader}
use Rattle.xm.specs.Delta.{all_fit, coding, code_numbers, code_after, coding_limited, code_loader}
use Rattle.xm.specs.Adpcm.{chosen, adpcm_decoded, adpcm_decoding, adpcm_limited, adpcm_loader, decoding_by, values_of}
use Rattle.xm.specs.Table.{PatternRow, InstrumentRow, SampleRow, pattern_rows, sample_count, instrument_rows, sample_rows_in, sample_rows, sample_numbers}
use Rattle.xm.specs.Table.{CheckReport, checked_as, checking, check_numbers, check_loader, Room, checking_into, check_into_loader, Tables, room_of, tables_after}
use Rattle.xm.specs.Asking.{Stretch, nowhere, asking, stretch_of, asking_flat, asking_rows, no_row, row_stretch}
use Rattle.xm.specs.Structure.{is_structure, structures, ended, handed, reading, called, read_for}
use Rattle.xm.specs.Region.{Adjoin, region_at, of_kind}
use Rattle.xm.specs.Press.{content_of, pressed, pressing_as, pressing, press_numbers_as, press_after_as, press_loader}
use Rattle.xm.specs.Convert.{converted, converting, convert_numbers, convert_after, convert_loader}

-- DEMAND 1. "Bad input gets a refusal number and a place. A refused call changes nothing in the memory it was lent", and no call writes
-- past what it was lent. The numbers are 1 to 16, and "9 is no longer given".
abbrev pub refusal_most : ℕ
refusal_most = 16

abbrev pub Numbered : (most number : ℕ) → Type 0
Numbered most number = (1 ≤ number) × (number ≤ most) × (number ≡ 9 → ⊥)

-- Of a call by what it writes and what it answers for a room:

pub record KeepsPromise {A B : Type 0} (written : A → List B) (answer : (room : ℕ) → Answer A) : Type 0 where
  pub numbered : (room : ℕ) (r : Refusal) → answer room ≡ refuses r → Numbered refusal_most r.number
  pub placed : (room : ℕ) (r : Refusal) → answer room ≡ refuses r → 14 ≤ r.number → r.place ≡ 0
  pub unchanged : (lent : List B) (r : Refusal) → answer (length lent) ≡ refuses r → after written (answer (length lent)) lent ≡ lent
  pub inside : (lent : List B) → length (after written (answer (length lent)) lent) ≡ length lent

pub record TablesKept (file : List ℕ) (lent : Tables) : Type 0 where
  pub numbered : (r : Refusal) → checking_into (room_of lent) file ≡ refuses r → Numbered refusal_most r.number
  pub placed : (r : Refusal) → checking_into (room_of lent) file ≡ refuses r → 14 ≤ r.number → r.place ≡ 0
  pub unchanged : (r : Refusal) → checking_into (room_of lent) file ≡ refuses r → tables_after (checking_into (room_of lent) file) lent ≡ lent
  pub patterns : length (tables_after (checking_into (room_of lent) file) lent).patterns ≡ length lent.patterns
  pub instruments : length (tables_after (checking_into (room_of lent) file) lent).instruments ≡ length lent.instruments
  pub samples : length (tables_after (checking_into (room_of lent) file) lent).samples ≡ length lent.samples
  pub tunes : length (tables_after (checking_into (room_of lent) file) lent).tunes ≡ length lent.tunes

pub record Demand₁ : Type 0 where
  pub check : (file : List ℕ) (r : Refusal) → Bytes file → checking file ≡ refuses r → Numbered 13 r.number × (r.place ≤ length file)
  pub tables : (file : List ℕ) (lent : Tables) → Bytes file → TablesKept file lent
  pub unpack : (rows channels : ℕ) (stored : List ℕ) → Bytes stored → KeepsPromise cell_bytes (unpacking rows channels stored)
  pub pack : (rows channels : ℕ) (cells : List ℕ) → KeepsPromise write_stored (packing rows channels cells)
  pub decode : (width : ℕ) (bytes : List ℕ) → KeepsPromise (λ (values : List ℤ). values) (decoding width bytes)
  pub code : (width : ℕ) (values : List ℤ) → KeepsPromise (λ (bytes : List ℕ). bytes) (coding width values)
  pub decode_limited : (width : ℕ) (bytes : List ℕ) → KeepsPromise (λ (values : List ℤ). values) (decoding_limited width bytes)
  pub code_limited : (width : ℕ) (values : List ℤ) → KeepsPromise (λ (bytes : List ℕ). bytes) (coding_limited width values)
  pub adpcm : (count : ℕ) (bytes : List ℕ) → KeepsPromise (λ (values : List ℤ). values) (adpcm_decoding count bytes)
  pub adpcm_limited : (count : ℕ) (bytes : List ℕ) → KeepsPromise (λ (values : List ℤ). values) (adpcm_limited count bytes)
  pub press : (file : List ℕ) → Bytes file → KeepsPromise (λ (bytes : List ℕ). bytes) (pressing file)
  pub convert : (to : ModuleKind) (file : List ℕ) → Bytes file → KeepsPromise (λ (bytes : List ℕ). bytes) (converting to file)

-- An acceptable file of a content, within a format: bytes that are read as it.
pub record FileOf {I A : Type 0} (F : Format (Unit {0}) I A) (content : A) (file : List ℕ) : Type 0 where
  pub plain : Bytes file
  pub found : I
  pub end : ℕ
  pub reads : read_whole F file ≡ got found end
  pub same : F.view found ≡ content

-- A stored form of a pattern: a row number 1..256 with at most 65,535 bytes that are read as its rows and cells.
pub record StoredFormOf (channels : ℕ) (p : Pattern) (row : ℕ) (bytes : List ℕ) : Type 0 where
  pub low : 1 ≤ row
  pub high : row ≤ rows_most
  pub plain : Bytes bytes
  pub small : length bytes ≤ data_most
  pub used : ℕ
  pub reads : read_stored channels row 0 bytes ≡ got p used

-- Well-formed cells, as they are lent.
pub record WellFormed (rows channels : ℕ) (cells : List ℕ) : Type 0 where
  pub arguments : AllHold (argument_tests rows channels)
  pub size : length cells ≡ rows * channels * cell_size
  pub plain : Bytes cells

-- DEMAND 2, over the numbers that the calls report (number, place, and the results in order) and the memory they leave.
abbrev pub Accepts : (numbers : List ℕ) → Type 0
Accepts numbers = get_or numbers 0 0 ≡ 0

abbrev pub result_in : (numbers : List ℕ) (k : ℕ) → ℕ
result_in numbers k = get_or numbers (2 + k) 0

-- Checking: an acceptable file is accepted, with its end and the counts of its content; a refused one gets its refusal and zeros.
abbrev pub heads_in : Content → List (List ℕ)
heads_in content = joined (λ (x : Instrument). x.samples.0) content.1.1

abbrev pub counts_of : Content → List ℕ
counts_of content = content.0.channels ∷ content.0.patterns ∷ content.0.instruments ∷ length (heads_in content) ∷ []

pub record CheckTells : Type 0 where
  pub accepted : (kind : ModuleKind) (content : Content) (file : List ℕ) (f : FileOf (module_format kind) content file)
      → check_numbers file ≡ 0 ∷ 0 ∷ f.end ∷ counts_of content
  pub refused_so : (file : List ℕ) (r : Refusal) → read_file file ≡ refused r → check_numbers file ≡ r.number ∷ r.place ∷ 0 ∷ 0 ∷ 0 ∷ 0 ∷ 0 ∷ []
  pub acceptable : (file : List ℕ) → Bytes file → Accepts (check_numbers file)
      → (kind : ModuleKind) × (content : Content) × FileOf (module_format kind) content file

-- The bytes that pressing leaves in the output it was lent, by the length that it reports.
abbrev pub pressed_into : {I A : Type 0} → Format (Unit {0}) I A → (file out : List ℕ) → List ℕ
pressed_into F file out = take (result_in (press_numbers_as F file (length out)) 0) (press_after_as F file out)

-- "Pressing gives back a file that reads as the same content", of any format that reads whole files.
abbrev pub PressReadsBack : {I A : Type 0} → Format (Unit {0}) I A → Type 0
PressReadsBack {I} {A} F = (content : A) (file out : List ℕ) → FileOf F content file → Accepts (press_numbers_as F file (length out))
    → FileOf F content (pressed_into F file out)

-- A converted file is of its target kind and reads as the converted content.
abbrev pub ConvertReadsBack : Type 0
ConvertReadsBack = (kind to : ModuleKind) (content : Content) (file out : List ℕ) → FileOf (module_format kind) content file
    → let reported = convert_numbers to file (length out) in
    Accepts reported → FileOf (module_format to) (converted content) (take (result_in reported 0) (convert_after to file out))

-- "Unpacking a packed pattern returns its cells": by the length and the rows that packing reports.
pub record UnpacksToCells (rows channels : ℕ) (cells lent : List ℕ) (reported after : List ℕ) : Type 0 where
  pub numbers_back : unpack_numbers (result_in reported 1) channels (take (result_in reported 0) after) (length lent) ≡ 0 ∷ 0 ∷ rows ∷ []
  pub memory_back : unpack_after (result_in reported 1) channels (take (result_in reported 0) after) lent ≡ in_front cells lent

-- "coding a sample as deltas and back returns the sample, at 8 and 16 bits, wrapping included": the values are lent as 16-bit numbers. What
-- decoding gives is "stated over the sums": each value is the signed reading of the wrapped sum of the one before and the stored number.
abbrev pub RunningSums : (width before : ℕ) (stored : List ℕ) (values : List ℤ) → Type 0
RunningSums width before [] [] = Unit {0}
RunningSums width before [] (v ∷ vs) = ⊥
RunningSums width before (d ∷ ds) [] = ⊥
RunningSums width before (d ∷ ds) (v ∷ vs) = (v ≡ signed width ((before + d) % 2 ^ width)) × RunningSums width ((before + d) % 2 ^ width) ds vs

-- ADPCM decoding: 16 exactly when the byte count doesn't fit the length, then 14 exactly when the values are more than the room; else as many
-- values as the length says, which are the running sums of the chosen deltas: of number i, what document 001's loop takes, by the low
-- half of its byte at an even number and by the high half at an odd one.
abbrev pub delta_at : (bytes : List ℕ) (i : ℕ) → ℕ
delta_at bytes i = byte_at (cond (eqb (i % 2) 0) (byte_at (delta_table + i / 2) bytes % 16) (byte_at (delta_table + i / 2) bytes / 16)) bytes

pub record AdpcmTells (count : ℕ) (bytes : List ℕ) (room : ℕ) : Type 0 where
  pub unfit : (length bytes ≡ adpcm_size count → ⊥) → adpcm_decoding count bytes room ≡ refuses (16 at 0)
  pub no_room : length bytes ≡ adpcm_size count → room < count → adpcm_decoding count bytes room ≡ refuses (14 at 0)
  pub given_else : length bytes ≡ adpcm_size count → count ≤ room → adpcm_decoding count bytes room ≡ gives (adpcm_decoded count bytes)
  pub as_many : length bytes ≡ adpcm_size count → length (adpcm_decoded count bytes) ≡ count
  pub deltas : length bytes ≡ adpcm_size count → (i : ℕ) → i < count → get_or (chosen count bytes) i 0 ≡ delta_at bytes i
  pub sums : RunningSums 8 0 (chosen count bytes) (adpcm_decoded count bytes)

pub record Demand₂ : Type 0 where
  pub check : CheckTells
  pub press : (kind : ModuleKind) → PressReadsBack (module_format kind)
  pub convert : ConvertReadsBack
  pub unpack : (rows channels : ℕ) (cells out lent : List ℕ) → Bytes cells
      → let reported = pack_numbers rows channels cells (length out) in
      Accepts reported → length cells ≤ length lent → UnpacksToCells rows channels cells lent reported (pack_after rows channels cells out)
  pub decode : (width : ℕ) (values : List ℤ) (out : List ℕ) (room : ℕ) → all_fit 16 values ≡ true
      → let reported = code_numbers width values (length out) in
      Accepts reported → length values ≤ room → decoding width (take (result_in reported 0) (code_after width values out)) room ≡ gives values
  pub code : (width : ℕ) (bytes : List ℕ) (out : List ℤ) (room : ℕ) → Bytes bytes
      → let reported = decode_numbers width bytes (length out) in
      Accepts reported → length bytes ≤ room → coding width (take (result_in reported 0) (decode_after width bytes out)) room ≡ gives bytes
  pub sums : (width : ℕ) (bytes : List ℕ) (values : List ℤ) (room : ℕ) → decoding width bytes room ≡ gives values
      → RunningSums width 0 (stored_numbers width bytes) values
  pub adpcm : (count : ℕ) (bytes : List ℕ) (room : ℕ) → AdpcmTells count bytes room

-- DEMAND 3. "For well-formed cells, a pattern is refused as too large exactly when no stored form of at most 65,535 bytes reads back as
-- those cells"; if it is not, it is refused for room exactly when none is as short as the room; otherwise what is written is one, and
-- none is shorter.
pub record PackedShortest (rows channels : ℕ) (cells : List ℕ) (room : ℕ) (p : Pattern) : Type 0 where
  pub too_large_exactly : (packing rows channels cells room ≡ refuses (15 at 0)) ↔ ((row : ℕ) (bytes : List ℕ) → StoredFormOf channels p row bytes → ⊥)
  pub no_room_exactly : (packing rows channels cells room ≡ refuses (15 at 0) → ⊥)
      → (packing rows channels cells room ≡ refuses (14 at 0)) ↔ ((row : ℕ) (bytes : List ℕ) → StoredFormOf channels p row bytes → room < length bytes)
  pub given_else : (packing rows channels cells room ≡ refuses (15 at 0) → ⊥) → (packing rows channels cells room ≡ refuses (14 at 0) → ⊥)
      → packing rows channels cells room ≡ gives p
  pub written : packing rows channels cells room ≡ gives p → StoredFormOf channels p p.rows (write_stored p)
  pub shortest : (row : ℕ) (bytes : List ℕ) → StoredFormOf channels p row bytes → length (write_stored p) ≤ length bytes

-- "For an acceptable module, pressing is refused for room exactly when no acceptable file of the same content is as short as the room
-- given. Otherwise the file written is such a file, and none with that content is shorter."
pub record PressedShortest {I A : Type 0} (F : Format (Unit {0}) I A) (content : A) (file : List ℕ) (room : ℕ) : Type 0 where
  pub refused_exactly : (pressing_as F file room ≡ refuses (14 at 0)) ↔ ((other : List ℕ) → FileOf F content other → room < length other)
  pub given_else : (pressing_as F file room ≡ refuses (14 at 0) → ⊥) → pressing_as F file room ≡ gives (F.write content)
  pub written : FileOf F content (F.write content)
  pub shortest : (other : List ℕ) → FileOf F content other → length (F.write content) ≤ length other

-- of any format that reads whole files
abbrev pub PressesShortest : {I A : Type 0} → Format (Unit {0}) I A → Type 0
PressesShortest {I} {A} F = (content : A) (file : List ℕ) (room : ℕ) → FileOf F content file → PressedShortest F content file room

-- "a conversion .. is the shortest file of its target format": it gets 2 exactly when no acceptable file of that format has the converted
-- content, its shortest being over the limit; else 14 exactly when none is as short as the room; otherwise what is written is one.
pub record ConvertedShortest (to : ModuleKind) (content : Content) (file : List ℕ) (room : ℕ) : Type 0 where
  pub too_large_exactly : (converting to file room ≡ refuses (2 at 0)) ↔ ((other : List ℕ) → FileOf (module_format to) (converted content) other → ⊥)
  pub over_exactly : (converting to file room ≡ refuses (2 at 0)) ↔ (file_most < length (pressed to (converted content)))
  pub no_room_exactly : (converting to file room ≡ refuses (2 at 0) → ⊥)
      → (converting to file room ≡ refuses (14 at 0)) ↔ ((other : List ℕ) → FileOf (module_format to) (converted content) other → room < length other)
  pub given_else : (converting to file room ≡ refuses (2 at 0) → ⊥) → (converting to file room ≡ refuses (14 at 0) → ⊥)
      → converting to file room ≡ gives (pressed to (converted content))
  pub written : (converting to file room ≡ refuses (2 at 0) → ⊥) → FileOf (module_format to) (converted content) (pressed to (converted content))
  pub shortest : (other : List ℕ) → FileOf (module_format to) (converted content) other → length (pressed to (converted content)) ≤ length other

abbrev pub ConvertsShortest : Type 0
ConvertsShortest = (kind to : ModuleKind) (content : Content) (file : List ℕ) (room : ℕ) → FileOf (module_format kind) content file
    → ConvertedShortest to content file room

pub record Demand₃ : Type 0 where
  pub patterns : (rows channels : ℕ) (cells : List ℕ) (room : ℕ) → WellFormed rows channels cells
      → PackedShortest rows channels cells room (pattern_of rows channels cells)
  pub modules : (kind : ModuleKind) → PressesShortest (module_format kind)
  pub conversions : ConvertsShortest

-- "size refusals can start at 43 channels (66,048 bytes at 256 rows) and never occur at 42 (64,512)."
pub record Fifteen : Type 0 where
  pub never : (rows channels : ℕ) (cells : List ℕ) (room : ℕ) → rows_most * channels * cell_most ≤ data_most
      → packing rows channels cells room ≡ refuses (15 at 0) → ⊥
  pub at_42 : rows_most * 42 * cell_most ≤ data_most
  pub at_43 : (cells : List ℕ) × WellFormed rows_most 43 cells × ((room : ℕ) → packing rows_most 43 cells room ≡ refuses (15 at 0))

-- "S = 0 means empty cells for the row number in the header. The press writes S = 0 for every all-empty pattern", and for no other; and data
-- of empty cells are one content with S = 0, whatever bytes they are.
pub record EmptyPatterns : Type 0 where
  pub unpacked : (rows channels room : ℕ) → AllHold (argument_tests rows channels) → rows * channels * cell_size ≤ room
      → unpacking rows channels [] room ≡ gives (empty_rows channels rows)
  pub packed : (rows channels room : ℕ) → AllHold (argument_tests rows channels)
      → pack_numbers rows channels (replicate (rows * channels * cell_size) 0) room ≡ 0 ∷ 0 ∷ 0 ∷ rows ∷ []
  pub written : (rows channels : ℕ) → write_pattern (empty_rows channels rows) ≡ flat (long least_pattern ∷ byte 0 ∷ word rows ∷ word 0 ∷ [])
  pub only : (channels : ℕ) (p : Pattern) → GoodPattern channels p → write_stored p ≡ [] → p ≡ empty_rows channels p.rows
  pub one_content : (rows channels : ℕ) (stored : List ℕ) (room : ℕ) (p : Pattern) → Bytes stored → unpacking rows channels stored room ≡ gives p
      → cell_bytes p ≡ replicate (rows * channels * cell_size) 0 → unpacking rows channels [] room ≡ gives p

-- The pressed length "never exceeds the input's"; the pressed file is used to its last byte.
pub record PressedWhole (kind : ModuleKind) (content : Content) (file : List ℕ) : Type 0 where
  pub no_longer : length (pressed kind content) ≤ length file
  pub ends : check_numbers (pressed kind content) ≡ 0 ∷ 0 ∷ length (pressed kind content) ∷ counts_of content

abbrev pub PressesWhole : Type 0
PressesWhole = (kind : ModuleKind) (content : Content) (file : List ℕ) → FileOf (module_format kind) content file → PressedWhole kind content file

-- "two accepted files of one format press to the same bytes, room given, exactly when their content is equal, and .. pressing a pressed
-- file changes nothing": of any format that reads whole files.
pub record SameBytes {I A : Type 0} (F : Format (Unit {0}) I A) : Type 0 where
  pub same_exactly : (content content' : A) (file file' out out' : List ℕ) → FileOf F content file → FileOf F content' file'
      → Accepts (press_numbers_as F file (length out)) → Accepts (press_numbers_as F file' (length out'))
      → (pressed_into F file out ≡ pressed_into F file' out') ↔ (content ≡ content')
  pub again : (content : A) (file out out' : List ℕ) → FileOf F content file → Accepts (press_numbers_as F file (length out))
      → let bytes = pressed_into F file out in
      length bytes ≤ length out' → Accepts (press_numbers_as F bytes (length out')) × (pressed_into F bytes out' ≡ bytes)

-- Mark and version are those of a kind: "mark 1A, version 0x0104"; of a stripped module "mark and version are 0".
abbrev pub Fits : ModuleKind → (file : List ℕ) → Type 0
Fits normal file = (byte_at 37 file ≡ 0x1A) × (word_at 58 file ≡ 0x0104)
Fits stripped file = (byte_at 37 file ≡ 0) × (word_at 58 file ≡ 0)

-- Read and pressed as a file of a kind.
pub record KindTold (kind : ModuleKind) (file : List ℕ) : Type 0 where
  pub is : kind_at file ≡ kind
  pub reads : read_file file ≡ read_whole (module_format kind) file
  pub found : (found : Found) (end : ℕ) → read_file file ≡ got found end → found.0.kind ≡ kind
  pub presses : (room : ℕ) → pressing file room ≡ pressing_as (module_format kind) file room

-- Any file, accepted or not, is taken for a stripped module if mark and version are those of one, and otherwise for a normal one. Those of an
-- accepted file are its kind's, so that byte 37 alone tells the kind, and no call does.
pub record KindsTold (file : List ℕ) : Type 0 where
  pub stripped_so : Fits stripped file → KindTold stripped file
  pub normal_else : (Fits stripped file → ⊥) → KindTold normal file
  pub by_kind : (kind : ModuleKind) (content : Content) → FileOf (module_format kind) content file → KindTold kind file
  pub fits : (kind : ModuleKind) (content : Content) → FileOf (module_format kind) content file → Fits kind file

-- An instrument of a stripped file that is read as a content; and its H, which I may cut off.
pub record InstrumentOf (content : Instrument) (s : List ℕ) : Type 0 where
  pub plain : Bytes s
  pub place : ℕ
  pub found : InstrumentFound
  pub used : ℕ
  pub reads : read_instrument stripped place s ≡ got found used
  pub same : instrument_view found ≡ content

abbrev pub head_size_in : List ℕ → ℕ
head_size_in s = sample_head_size_at (fields_of stripped s)

-- "Our stripped press uses the smallest H, then the smallest I": what it writes of an instrument, whatever follows, is one of the same
-- content, and none of that content has a smaller H or a smaller I.
pub record SmallestIn (content : Instrument) (rest : List ℕ) : Type 0 where
  pub written : InstrumentOf content (write_instrument stripped content ++ rest)
  pub ends : written.used ≡ length (write_instrument stripped content)
  pub head : (other : List ℕ) → InstrumentOf content other → head_size_in (write_instrument stripped content ++ rest) ≤ head_size_in other
  pub size : (other : List ℕ) → InstrumentOf content other
      → instrument_size_at (write_instrument stripped content ++ rest) ≤ instrument_size_at other

abbrev pub SmallestSizes : Type 0
SmallestSizes = (content : Instrument) (s rest : List ℕ) → InstrumentOf content s → Bytes rest → SmallestIn content rest

-- "3 now means neither pair of mark and version fits; 4 takes the stripped limit, 11 never occurs for stripped files": of a file within
-- the limit that has its first 80 bytes.
pub record KindsRefused (file : List ℕ) : Type 0 where
  pub three_exactly : length file ≤ file_most → orders_from ≤ length file → (checking file ≡ refuses (3 at 0)) ↔ ((kind : ModuleKind) → Fits kind file → ⊥)
  pub four_exactly : length file ≤ file_most → orders_from ≤ length file → Fits normal file → (checking file ≡ refuses (4 at 0)) ↔ (size_at file < 276)
  pub four_stripped : length file ≤ file_most → orders_from ≤ length file → Fits stripped file
      → (checking file ≡ refuses (4 at 0)) ↔ (size_at file < 20 + song_length_at file)
  pub eleven_never : Fits stripped file → (place : ℕ) → checking file ≡ refuses (11 at place) → ⊥

-- 10 of an instrument that has its first bytes: "I below 29, k above 16, or I below 263 with k above 0"; of a stripped one "I below 4 (10), I bytes
-- present (1), k above 16 (10)", so that k is tried only where the I bytes are there.
pub record TenExactly (place : ℕ) (s : List ℕ) : Type 0 where
  pub normal_so : 29 ≤ length s → (read_instrument normal place s ≡ refused (10 at place)) ↔
      ((29 ≤ instrument_size_at s) × (count_at s ≤ 16) × (0 < count_at s → 263 ≤ instrument_size_at s) → ⊥)
  pub stripped_so : 4 ≤ length s → (read_instrument stripped place s ≡ refused (10 at place)) ↔
      ((4 ≤ instrument_size_at s) × (instrument_size_at s ≤ length s → count_at (fields_of stripped s) ≤ 16) → ⊥)

-- The file's own refusal comes first, of the press and of a conversion, whatever room is lent.
pub record OwnRefusalsFirst (file : List ℕ) (r : Refusal) : Type 0 where
  pub press : (room : ℕ) → read_file file ≡ refused r → pressing file room ≡ refuses r
  pub convert : (to : ModuleKind) (room : ℕ) → read_file file ≡ refused r → converting to file room ≡ refuses r

-- Contents that are the same but for the tracker name, which is 20 nulls in the second.
pub record KeptElse (x y : Content) : Type 0 where
  pub module_name : y.0.module_name ≡ x.0.module_name
  pub tracker_null : y.0.tracker_name ≡ replicate 20 0
  pub song_length : y.0.song_length ≡ x.0.song_length
  pub restart : y.0.restart ≡ x.0.restart
  pub channels : y.0.channels ≡ x.0.channels
  pub patterns : y.0.patterns ≡ x.0.patterns
  pub instruments : y.0.instruments ≡ x.0.instruments
  pub flags : y.0.flags ≡ x.0.flags
  pub tempo : y.0.tempo ≡ x.0.tempo
  pub bpm : y.0.bpm ≡ x.0.bpm
  pub orders : y.0.orders ≡ x.0.orders
  pub body : y.1 ≡ x.1

-- "a conversion keeps everything else in the content": so does whatever the file that was written is read as.
abbrev pub ConvertsKeep : Type 0
ConvertsKeep = (kind to : ModuleKind) (content other : Content) (file out : List ℕ) → FileOf (module_format kind) content file
    → let reported = convert_numbers to file (length out) in
    Accepts reported → FileOf (module_format to) other (take (result_in reported 0) (convert_after to file out)) → KeptElse content other

-- "convert both ways": a file that is converted, and what was written converted back to the kind that the file had, is the file pressed,
-- but for the tracker name. So a stripped file comes back whole, and converted to its own kind it is pressed.
pub record ConvertsBack : Type 0 where
  pub comes_back : (kind to : ModuleKind) (content : Content) (file : List ℕ) → FileOf (module_format kind) content file
      → (room room' : ℕ) (bytes : List ℕ) → converting to file room ≡ gives bytes
      → length (pressed kind (converted content)) ≤ room' → converting kind bytes room' ≡ gives (pressed kind (converted content))
  pub stripped_whole : (content : Content) (file : List ℕ) → FileOf (module_format stripped) content file → converted content ≡ content
  pub stripped_pressed : (content : Content) (file : List ℕ) (room : ℕ) → FileOf (module_format stripped) content file
      → converting stripped file room ≡ pressing file room

-- A conversion of a stripped file to a normal one "may be longer than its input", by so many bytes at most: 255 of an order table of one
-- entry, and 875 of each of 128 instruments, which has 263 for 28, and 40 for none of each of 16 sample headers. Any other adds nothing.
abbrev pub added_most : (kind to : ModuleKind) → ℕ
added_most normal normal = 0
added_most normal stripped = 0
added_most stripped normal = 112255
added_most stripped stripped = 0

-- So room for that, or for the longest file there may be, is enough, and what has that much below the limit is never over it; and there is
-- a file that grows by just that.
pub record ConvertsWithin : Type 0 where
  pub no_longer : (kind to : ModuleKind) (content : Content) (file : List ℕ) → FileOf (module_format kind) content file
      → length (pressed to (converted content)) ≤ length file + added_most kind to
  pub room_enough : (kind to : ModuleKind) (content : Content) (file : List ℕ) (room : ℕ) → FileOf (module_format kind) content file
      → min (length file + added_most kind to) file_most ≤ room → converting to file room ≡ refuses (14 at 0) → ⊥
  pub never_over : (kind to : ModuleKind) (content : Content) (file : List ℕ) (room : ℕ) → FileOf (module_format kind) content file
      → length file + added_most kind to ≤ file_most → converting to file room ≡ refuses (2 at 0) → ⊥
  pub reached : (content : Content) × (file : List ℕ) × FileOf (module_format stripped) content file
      × (length (pressed normal (converted content)) ≡ length file + added_most stripped normal)

-- The check that fills tables: the file's own refusal first, then 14 exactly when a count is above the rows lent.
abbrev pub HasRoom : Room → Found → Type 0
HasRoom room found =
    (length (pattern_rows found) ≤ room.patterns) × (length (instrument_rows found) ≤ room.instruments) × (length (sample_rows found) ≤ room.samples)

pub record TablesTell (file : List ℕ) (room : Room) : Type 0 where
  pub own_first : (r : Refusal) → read_file file ≡ refused r → checking_into room file ≡ refuses r
  pub no_room_exactly : (found : Found) (end : ℕ) → read_file file ≡ got found end → (checking_into room file ≡ refuses (14 at 0)) ↔ (HasRoom room found → ⊥)
  pub filled_else : (found : Found) (end : ℕ) → read_file file ≡ got found end → HasRoom room found → checking_into room file ≡ gives (checked_as found end)

-- "The regions of an accepted file (header, patterns, instruments, sample headers, sample data) lie inside it and never overlap"; each
-- begins where the one before ends, from 0 to the end.
pub record RegionsApart (file : List ℕ) (rs : List Region) (end : ℕ) : Type 0 where
  pub adjoin : Adjoin 0 rs end
  pub inside : (k : ℕ) → k < length rs → (region_at rs k).place + (region_at rs k).size ≤ length file
  pub apart : (j k : ℕ) → j < k → k < length rs → (region_at rs j).place + (region_at rs j).size ≤ (region_at rs k).place

-- Every place in a table is the start of its region, and every size the size: the regions of a kind, in file order, are the rows'.
pub record TablesStand (found : Found) : Type 0 where
  pub patterns : of_kind pattern_data (regions_of found) ≡ map (λ (row : PatternRow). record { place = row.data_place; size = row.size }) (pattern_rows found)
  pub instruments : map Stretch.place (of_kind instrument (regions_of found)) ≡ map InstrumentRow.place (instrument_rows found)
  pub heads : map Stretch.place (of_kind sample_header (regions_of found)) ≡ map SampleRow.header_place (sample_rows found)
  pub bytes : of_kind sample_data (regions_of found) ≡ map row_stretch (sample_rows found)

-- A pattern row and its data unpack to the content's rows and cells.
abbrev pub RowUnpacks : (file : List ℕ) (channels : ℕ) → PatternRow → Pattern → Type 0
RowUnpacks file channels row p =
    (row.rows ≡ p.rows) × ((room : ℕ) → length (cell_bytes p) ≤ room → unpacking row.rows channels (part row.data_place row.size file) room ≡ gives p)

abbrev pub RowsUnpack : (file : List ℕ) (channels : ℕ) → List PatternRow → List Pattern → Type 0
RowsUnpack file channels [] [] = Unit {0}
RowsUnpack file channels [] (p ∷ ps) = ⊥
RowsUnpack file channels (row ∷ rows) [] = ⊥
RowsUnpack file channels (row ∷ rows) (p ∷ ps) = RowUnpacks file channels row p × RowsUnpack file channels rows ps

-- An instrument row finds the instrument's own sample rows.
abbrev pub FindsRows : List SampleRow → List InstrumentRow → List InstrumentFound → Type 0
FindsRows all [] [] = Unit {0}
FindsRows all [] (i ∷ is) = ⊥
FindsRows all (row ∷ rows) [] = ⊥
FindsRows all (row ∷ rows) (i ∷ is) = (take row.samples (drop row.first all) ≡ sample_rows_in i) × FindsRows all rows is

-- A byte of a structure that lies in the file, by its offset; what is beyond the structure's size reads as 0.
abbrev pub byte_within : (file : List ℕ) → Stretch → (offset : ℕ) → ℕ
byte_within file lies offset = cond (ltb offset lies.size) (byte_at (lies.place + offset) file) 0

-- "Instrument bytes at offset I and beyond read as 0": an instrument's I is what stands at its place, and its other fields are what stands
-- behind it in I bytes, whatever the kind. In a normal file all of them do.
abbrev pub field_byte : (file : List ℕ) → InstrumentFound → (offset : ℕ) → ℕ
field_byte file i offset = byte_within file (record { place = i.place; size = i.size }) offset

pub record FieldsStand (file : List ℕ) (i : InstrumentFound) : Type 0 where
  pub size : i.size ≡ long_at 0 (drop i.place file)
  pub name_size : length i.name ≡ 22
  pub name : (k : ℕ) → k < 22 → byte_at k i.name ≡ field_byte file i (4 + k)
  pub type : i.type ≡ field_byte file i 26
  pub count : sample_count i ≡ field_byte file i 27 + 256 * field_byte file i 28
  pub voice_size : length i.voice ≡ cond (ltb 0 (sample_count i)) 208 0
  pub voice : 0 < sample_count i → (k : ℕ) → k < 208 → byte_at k i.voice ≡ field_byte file i (33 + k)

-- A sample header in the content is what stands in its region of the file; of a stripped one, whose region may be shorter, what is beyond
-- reads as 0.
abbrev pub HeadStands : (file : List ℕ) → Stretch → (head : List ℕ) → Type 0
HeadStands file lies head = (k : ℕ) → k < least_head → byte_at k head ≡ byte_within file lies k

abbrev pub HeadsStand : (file : List ℕ) → List Stretch → (heads : List (List ℕ)) → Type 0
HeadsStand file [] [] = Unit {0}
HeadsStand file [] (h ∷ hs) = ⊥
HeadsStand file (l ∷ ls) [] = ⊥
HeadsStand file (l ∷ ls) (h ∷ hs) = HeadStands file l h × HeadsStand file ls hs

-- "Then k sample headers of H bytes each, then the k samples' data": the headers of an instrument are of one size, H, and stand one behind
-- the other from the instrument's end on, and the data of its first sample right behind them.
abbrev pub HeadsFrom : (place size : ℕ) → List SampleRow → Type 0
HeadsFrom place size [] = Unit {0}
HeadsFrom place size (row ∷ rows) = (row.header_place ≡ place) × HeadsFrom (place + size) size rows

abbrev pub FirstData : (place : ℕ) → List SampleRow → Type 0
FirstData place [] = Unit {0}
FirstData place (row ∷ rows) = row.data_place ≡ place

pub record HeadsTogether (file : List ℕ) (i : InstrumentFound) : Type 0 where
  pub size : ℕ
  pub stands : 0 < sample_count i
      → size ≡ field_byte file i 29 + 256 * field_byte file i 30 + 65536 * field_byte file i 31 + 16777216 * field_byte file i 32
  pub sized : All (λ (head : StretchFound). head.size ≡ size) i.samples.0
  pub headers : HeadsFrom (i.place + i.size) size (sample_rows_in i)
  pub data_behind : FirstData (i.place + i.size + sample_count i * size) (sample_rows_in i)

-- So an instrument's row and that of its first sample tell H, which is the size of each of its sample headers: their data begin k times H behind
-- the first header.
abbrev pub TellsHeads : (heads : List Stretch) (all : List SampleRow) → InstrumentRow → Type 0
TellsHeads heads all row = (j : ℕ) → j < row.samples
    → let first = get_or all row.first no_row in
    (row.first + j < length all) × (first.data_place ≡ first.header_place + row.samples * (get_or heads (row.first + j) nowhere).size)

-- What holds of each sample row with its header and its data, those of the content.
abbrev pub bytes_in : Content → List (List ℕ)
bytes_in content = joined (λ (x : Instrument). x.samples.1) content.1.1

abbrev pub EachSample : (P : SampleRow → (head bytes : List ℕ) → Type 0) → List SampleRow → (heads bytes : List (List ℕ)) → Type 0
EachSample P [] [] [] = Unit {0}
EachSample P [] [] (b ∷ bs) = ⊥
EachSample P [] (h ∷ hs) bytes = ⊥
EachSample P (row ∷ rows) [] bytes = ⊥
EachSample P (row ∷ rows) (h ∷ hs) [] = ⊥
EachSample P (row ∷ rows) (h ∷ hs) (b ∷ bs) = P row h b × EachSample P rows hs bs

-- A sample row says what its header says; its stretch is the content's data, which decodes by the header's kind and length and at the row's
-- width, to as many values as that length has of that width; and its loop lies within these values.
abbrev pub RowReads : SampleRow → (head bytes : List ℕ) → Type 0
RowReads row head bytes =
    (row.size ≡ data_size_by (byte_at 17 head) (long_at 0 head))
    × (row.width ≡ cond (eqb (byte_at 14 head / 16 % 2) 1) 16 8)
    × (row.finetune ≡ signed 8 (byte_at 13 head))
    × (row.relative_note ≡ signed 8 (byte_at 16 head))

-- A row's loop: "0 none, 1 forward, 2 both ways", and start and length in samples, of which none is cut; "a sample that doesn't loop has 0 in
-- all three".
abbrev pub LoopReads : (head : List ℕ) (width kind start length : ℕ) → Type 0
LoopReads head width kind start length =
    (kind ≡ cond (loops head) (byte_at 14 head % 4) 0)
    × (kind ≤ 2)
    × (start * (width / 8) ≡ cond (loops head) (long_at 4 head) 0)
    × (length * (width / 8) ≡ cond (loops head) (long_at 8 head) 0)

abbrev pub RowLoops : SampleRow → (head bytes : List ℕ) → Type 0
RowLoops row head bytes = LoopReads head row.width row.loop_kind row.loop_start row.loop_length

abbrev pub RowDecodes : (file : List ℕ) → SampleRow → (head bytes : List ℕ) → Type 0
RowDecodes file row head bytes =
    let stored = part row.data_place row.size file in
    let values = values_of head bytes in
    (stored ≡ bytes)
    × (decoding_by (byte_at 17 head) (long_at 0 head) row.width stored (length values) ≡ gives values)
    × (length values ≡ long_at 0 head / (row.width / 8))
    × (row.loop_start + row.loop_length ≤ length values)

-- A sample asked for by number, of the tables as the check leaves them, whatever stood in them beyond: the row's stretch, which holds the
-- content's data.
abbrev pub stretch_at : List SampleRow → ℕ → Stretch
stretch_at rows number = row_stretch (get_or rows number no_row)

pub record Asked (file : List ℕ) (rows : List SampleRow) (bytes : List (List ℕ)) : Type 0 where
  pub flat : (stale : List ℕ) (number : ℕ) → number < length rows → asking_flat file (joined sample_numbers rows ++ stale) number ≡ gives (stretch_at rows number)
  pub records : (stale : List SampleRow) (number : ℕ) → number < length rows → asking_rows file (rows ++ stale) number ≡ gives (stretch_at rows number)
  pub flat_bytes : (stale : List ℕ) (number : ℕ) → number < length rows
      → stretch_of file (asking_flat file (joined sample_numbers rows ++ stale) number) ≡ get_or bytes number []
  pub record_bytes : (stale : List SampleRow) (number : ℕ) → number < length rows
      → stretch_of file (asking_rows file (rows ++ stale) number) ≡ get_or bytes number []

-- and of any row at all: 16 exactly when the number is at or above the rows lent, or the data isn't inside the file.
abbrev pub AsksExactly : Type 0
AsksExactly = (file : List ℕ) (rows number : ℕ) (row : Stretch)
    → ((number < rows) × (row.place + row.size ≤ length file) → asking file rows number row ≡ gives row)
    × (((number < rows) × (row.place + row.size ≤ length file) → ⊥) → asking file rows number row ≡ refuses (16 at 0))

-- "12 now means kind AD with the 16-bit bit set": a header that is present gets 12 exactly then, whatever else is wrong with it.
abbrev pub TwelveExactly : Type 0
TwelveExactly = (size place : ℕ) (s : List ℕ) → size ≤ length s
    → (read_head size place s ≡ refused (12 at place)) ↔ ((is_wide (head_bytes size s) ≡ true) × (kind_of (head_bytes size s) ≡ adpcm))

-- 13 then, of a header that is present and has no 12: exactly when its loop bits are 3, its 16-bit length is odd, its loop ends past its length, or
-- it is "a looping 16-bit sample whose loop start or loop length is odd".
abbrev pub NumbersFit : (head : List ℕ) → Type 0
NumbersFit head =
    (loop_bits head ≡ 3 → ⊥)
    × (is_wide head ≡ true → length_of head % 2 ≡ 0)
    × (loops head ≡ true → loop_start head + loop_length head ≤ length_of head)
    × (is_wide head ≡ true → loops head ≡ true → (loop_start head % 2 ≡ 0) × (loop_length head % 2 ≡ 0))

abbrev pub ThirteenExactly : Type 0
ThirteenExactly = (size place : ℕ) (s : List ℕ) → size ≤ length s → (is_wide (head_bytes size s) ≡ true → kind_of (head_bytes size s) ≡ adpcm → ⊥)
    → (read_head size place s ≡ refused (13 at place)) ↔ (NumbersFit (head_bytes size s) → ⊥)

-- "Adding loop start and loop length in 32 bits, where they wrap" is ruled out: of each sample of an accepted file that loops.
abbrev pub LoopInside : List ℕ → Type 0
LoopInside head = loops head ≡ true → loop_start head + loop_length head ≤ length_of head

pub record AcceptedFile (file : List ℕ) (found : Found) (end : ℕ) : Type 0 where
  pub ends_inside : end ≤ length file
  pub regions : RegionsApart file (regions_of found) end
  pub tables : TablesStand found
  pub rows_unpack : RowsUnpack file found.0.content.channels (pattern_rows found) (content_of found).1.0
  pub rows_found : FindsRows (sample_rows found) (instrument_rows found) found.1.1
  pub heads_stand : HeadsStand file (of_kind sample_header (regions_of found)) (heads_in (content_of found))
  pub fields_stand : All (FieldsStand file) found.1.1
  pub heads_together : All (HeadsTogether file) found.1.1
  pub rows_tell_heads : All (TellsHeads (of_kind sample_header (regions_of found)) (sample_rows found)) (instrument_rows found)
  pub heads_whole : found.0.kind ≡ normal → All (λ (l : Stretch). least_head ≤ l.size) (of_kind sample_header (regions_of found))
  pub rows_read : EachSample RowReads (sample_rows found) (heads_in (content_of found)) (bytes_in (content_of found))
  pub rows_loop : EachSample RowLoops (sample_rows found) (heads_in (content_of found)) (bytes_in (content_of found))
  pub rows_decode : EachSample (RowDecodes file) (sample_rows found) (heads_in (content_of found)) (bytes_in (content_of found))
  pub asked : Asked file (sample_rows found) (bytes_in (content_of found))
  pub loops_inside : All (λ (x : Instrument). All LoopInside x.samples.0) (content_of found).1.1

abbrev pub AcceptedFiles : Type 0
AcceptedFiles = (file : List ℕ) (found : Found) (end : ℕ) → Bytes file → read_file file ≡ got found end → AcceptedFile file found end

-- "Bytes after the last instrument are ignored": a file within the limit that agrees up to the end has the same answer, tables and
-- content, since all of them are of what is found.
abbrev pub RestIgnored : Type 0
RestIgnored = (file other : List ℕ) (found : Found) (end : ℕ) → read_file file ≡ got found end → length other ≤ file_most → end ≤ length other
    → take end file ≡ take end other → read_file other ≡ got found end

-- "Restart at or above song length reads as 0", and any other as it stands.
pub record RestartRead (file : List ℕ) (found : Found) : Type 0 where
  pub beyond : song_length_at file ≤ restart_at file → found.0.content.restart ≡ 0
  pub inside : restart_at file < song_length_at file → found.0.content.restart ≡ restart_at file

abbrev pub RestartsRead : Type 0
RestartsRead = (file : List ℕ) (found : Found) (end : ℕ) → read_file file ≡ got found end → RestartRead file found

-- "Only an order entry that names no pattern still stands for 64 rows", of empty cells, and any other for the pattern it names: of a
-- position within the song length.
pub record PlaysOrders (content : Content) : Type 0 where
  pub named : (position number : ℕ) (p : Pattern) → position < content.0.song_length
      → get_or content.0.orders position 0 ≡ number → number < length content.1.0
      → plays content position ≡ get_or content.1.0 number p
  pub nameless : (position : ℕ) → position < content.0.song_length → length content.1.0 ≤ get_or content.0.orders position 0
      → plays content position ≡ empty_rows content.0.channels 64

-- The small reader: a call after n others gives what `reading` says of n, which is the structure of that number, in file order; behind the
-- last one it says that the end is reached, and the reader stays as it is.
pub record ReaderHandsOver (file : List ℕ) (found : Found) : Type 0 where
  pub every_kind : (kind : Kind) → is_structure kind ≡ true → of_kind kind (structures found) ≡ of_kind kind (regions_of found)
  pub three_kinds : (is_structure pattern_header ≡ true) × (is_structure instrument ≡ true) × (is_structure sample_header ≡ true)
  pub each_one : (n : ℕ) → n < length (structures found) → called file (read_for file n) ≡ gives (handed (region_at (structures found) n))
  pub end_then : (n : ℕ) → length (structures found) ≤ n → called file (read_for file n) ≡ gives ended
  pub stays : (n : ℕ) → length (structures found) ≤ n → read_for file (n + 1) ≡ read_for file n

pub record ReadersTell : Type 0 where
  pub by_number : (file : List ℕ) → Bytes file → (n : ℕ) → called file (read_for file n) ≡ reading file n
  pub hands_over : (file : List ℕ) (found : Found) (end : ℕ) → Bytes file → read_file file ≡ got found end → ReaderHandsOver file found
  pub refuses_so : (file : List ℕ) (r : Refusal) (n : ℕ) → read_file file ≡ refused r → called file (read_for file n) ≡ refuses r

-- The loader's numbers: the value that the paper names, below 2^32; at least 2^32 when refused, and then number and place come back.
pub record LoaderTells {A : Type 0} (f : A → ℕ) (answer : Answer A) (number : ℕ) : Type 0 where
  pub accepted : (a : A) → answer ≡ gives a → (number ≡ f a) × (number < 2 ^ 32)
  pub refused : (r : Refusal) → answer ≡ refuses r → (2 ^ 32 ≤ number) × (number / 2 ^ 32 ≡ r.number) × (number % 2 ^ 32 ≡ r.place)

-- The loader's calls on samples: 16 above a limit, 16,777,216 bytes or values of deltas and an ADPCM length of 33,554,432, and otherwise what the
-- call without that limit answers.
pub record Limited {A : Type 0} (most count : ℕ) (own limited : Answer A) : Type 0 where
  pub above : most < count → limited ≡ refuses (16 at 0)
  pub within : count ≤ most → limited ≡ own

pub record LoadersTell : Type 0 where
  pub check : (file : List ℕ) → Bytes file → LoaderTells CheckReport.end (checking file) (check_loader file)
  pub unpack : (rows channels : ℕ) (stored : List ℕ) (room : ℕ) → Bytes stored
      → LoaderTells Pattern.rows (unpacking rows channels stored room) (unpack_loader rows channels stored room)
  pub pack : (rows channels : ℕ) (cells : List ℕ) (room : ℕ)
      → LoaderTells (λ (p : Pattern). length (write_stored p) + 65536 * p.rows) (packing rows channels cells room) (pack_loader rows channels cells room)
  pub pack_apart : (rows channels : ℕ) (cells : List ℕ) (room : ℕ) (p : Pattern) → packing rows channels cells room ≡ gives p
      → (pack_loader rows channels cells room % 65536 ≡ length (write_stored p)) × (pack_loader rows channels cells room / 65536 ≡ p.rows)
  pub press : (file : List ℕ) (room : ℕ) → Bytes file → LoaderTells length (pressing file room) (press_loader file room)
  pub convert : (to : ModuleKind) (file : List ℕ) (room : ℕ) → Bytes file → LoaderTells length (converting to file room) (convert_loader to file room)
  pub tables : (room : Room) (file : List ℕ) → Bytes file → LoaderTells CheckReport.end (checking_into room file) (check_into_loader room file)
  pub decode : (width : ℕ) (bytes : List ℕ) (room : ℕ) → LoaderTells length (decoding_limited width bytes room) (decode_loader width bytes room)
  pub decode_limited : (width : ℕ) (bytes : List ℕ) (room : ℕ) → Limited 16777216 (length bytes) (decoding width bytes room) (decoding_limited width bytes room)
  pub code : (width : ℕ) (values : List ℤ) (room : ℕ) → LoaderTells length (coding_limited width values room) (code_loader width values room)
  pub code_limited : (width : ℕ) (values : List ℤ) (room : ℕ) → Limited 16777216 (length values) (coding width values room) (coding_limited width values room)
  pub adpcm : (count : ℕ) (bytes : List ℕ) (room : ℕ) → LoaderTells length (adpcm_limited count bytes room) (adpcm_loader count bytes room)
  pub adpcm_limited : (count : ℕ) (bytes : List ℕ) (room : ℕ) → Limited 33554432 count (adpcm_decoding count bytes room) (adpcm_limited count bytes room)
