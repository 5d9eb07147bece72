-- The header of a module: where its fields stand, its refusals in order, and how it is written.
use Rattle.std.specs.Prelude.{ℕ, ◌+◌, ◌-◌, ◌<◌, Bool, cond, ◌&&◌, List, [], ◌∷◌, ◌++◌, ◌≡◌, ltb, eqb, length, replicate}
use Rattle.xm.specs.Number.{Bytes, byte_at, word_at, long_at, part, byte, word, long}
use Rattle.xm.specs.ModuleKind.{ModuleKind, normal, stripped, kind_by}
use Rattle.xm.specs.Got.{got, Reader, ◌>>◌, Test, checked, present, at_least, at_most, within, exactly, ◌at◌, AllHold}
use Rattle.xm.specs.Format.{Format, header, flat}
use Rattle.xm.specs.Stored.{channels_most}

-- "byte 37 not 1A hex, or version not 0x0104"; of a stripped module "mark and version are 0"
abbrev pub mark : ModuleKind → ℕ
mark normal = 0x1A
mark stripped = 0

abbrev pub version : ModuleKind → ℕ
version normal = 0x0104
version stripped = 0

-- "header size 60 (4)": "The first pattern header is at header size + 60."
abbrev pub size_from : ℕ
size_from = 60

-- "order table from 80", zero-filled to 256 by the press
abbrev pub orders_from : ℕ
orders_from = 80

abbrev pub orders_most : ℕ
orders_most = 256

-- "4 | header size below 276"; stripped, "header size is at least 20 + song length". The press writes it.
abbrev pub least_header : ModuleKind → (song_length : ℕ) → ℕ
least_header normal song_length = 276
least_header stripped song_length = 20 + song_length

-- The zeros after the orders: "zero-filled to 256"; stripped, "the order table has no padding".
abbrev pub padding : ModuleKind → (song_length : ℕ) → ℕ
padding normal song_length = orders_most - song_length
padding stripped song_length = 0

-- The numbers, at their offsets.
abbrev pub mark_at : List ℕ → ℕ
mark_at s = byte_at 37 s

abbrev pub version_at : List ℕ → ℕ
version_at s = word_at 58 s

abbrev pub size_at : List ℕ → ℕ
size_at s = long_at size_from s

abbrev pub song_length_at : List ℕ → ℕ
song_length_at s = word_at 64 s

abbrev pub restart_at : List ℕ → ℕ
restart_at s = word_at 66 s

abbrev pub channels_at : List ℕ → ℕ
channels_at s = word_at 68 s

abbrev pub patterns_at : List ℕ → ℕ
patterns_at s = word_at 70 s

abbrev pub instruments_at : List ℕ → ℕ
instruments_at s = word_at 72 s

abbrev pub header_end : List ℕ → ℕ
header_end s = size_at s + size_from

-- "3 now means neither pair of mark and version fits": what does not have the stripped pair is read as a normal module.
abbrev pub is_stripped : List ℕ → Bool
is_stripped s = eqb (mark_at s) (mark stripped) && eqb (version_at s) (version stripped)

unfoldable pub kind_at : List ℕ → ModuleKind
kind_at s = kind_by (is_stripped s)

-- "5 | song length or patterns not 1..256, channels not 1..64, instruments above 128"
abbrev pub count_tests : (song_length patterns channels instruments place : ℕ) → List Test
count_tests song_length patterns channels instruments place =
    within 1 orders_most song_length (5 at place)
    ∷ within 1 256 patterns (5 at place)
    ∷ within 1 channels_most channels (5 at place)
    ∷ at_most 128 instruments (5 at place)
    ∷ []

-- "the first 80 bytes present (1); 3; 4; 5; header size + 60 within the file (1)"
abbrev pub header_tests : ModuleKind → (place : ℕ) → List ℕ → List Test
header_tests kind place s =
    present orders_from (length s) (1 at place)
    ∷ exactly (mark kind) (mark_at s) (3 at place)
    ∷ exactly (version kind) (version_at s) (3 at place)
    ∷ at_least (least_header kind (song_length_at s)) (size_at s) (4 at place)
    ∷ count_tests (song_length_at s) (patterns_at s) (channels_at s) (instruments_at s) place
    ++ (present (header_end s) (length s) (1 at place) ∷ [])

-- The content of a header.
pub record Header : Type 0 where
  pub module_name : List ℕ
  pub tracker_name : List ℕ
  pub song_length : ℕ
  pub restart : ℕ
  pub channels : ℕ
  pub patterns : ℕ
  pub instruments : ℕ
  pub flags : ℕ
  pub tempo : ℕ
  pub bpm : ℕ
  pub orders : List ℕ

-- "Restart at or above song length reads as 0"
unfoldable pub restart_inside : (song_length restart : ℕ) → Bool
restart_inside song_length restart = ltb restart song_length

unfoldable pub restart_of : (song_length restart : ℕ) → ℕ
restart_of song_length restart = cond (restart_inside song_length restart) restart 0

-- "ID text and tracker name are written as nulls and aren't content here"
abbrev pub no_tracker : List ℕ
no_tracker = replicate 20 0

abbrev pub tracker_at : ModuleKind → List ℕ → List ℕ
tracker_at normal s = part 38 20 s
tracker_at stripped s = no_tracker

abbrev pub header_of : ModuleKind → List ℕ → Header
header_of kind s = record {
  module_name = part 17 20 s;
  tracker_name = tracker_at kind s;
  song_length = song_length_at s;
  restart = restart_of (song_length_at s) (restart_at s);
  channels = channels_at s;
  patterns = patterns_at s;
  instruments = instruments_at s;
  flags = word_at 74 s;
  tempo = word_at 76 s;
  bpm = word_at 78 s;
  orders = part orders_from (song_length_at s) s;
}

pub record HeaderFound : Type 0 where
  pub kind : ModuleKind
  pub place : ℕ
  pub size : ℕ
  pub content : Header

unfoldable pub read_header : ModuleKind → Reader HeaderFound
read_header kind place s = do
  checked (header_tests kind place s)
  got (record { kind = kind; place = place; size = header_end s; content = header_of kind s }) (header_end s)

-- "Extended module: " (17 bytes)
abbrev pub id_text : ModuleKind → List ℕ
id_text normal = 0x45 ∷ 0x78 ∷ 0x74 ∷ 0x65 ∷ 0x6E ∷ 0x64 ∷ 0x65 ∷ 0x64 ∷ 0x20 ∷ 0x6D ∷ 0x6F ∷ 0x64 ∷ 0x75 ∷ 0x6C ∷ 0x65 ∷ 0x3A ∷ 0x20 ∷ []
id_text stripped = replicate 17 0

-- "mark 1A, version 0x0104, header size 276, order table zero-filled to 256"; and the stripped press's own
unfoldable pub write_header : ModuleKind → Header → List ℕ
write_header kind x = flat (
    id_text kind
    ∷ x.module_name
    ∷ byte (mark kind)
    ∷ x.tracker_name
    ∷ word (version kind)
    ∷ long (least_header kind x.song_length)
    ∷ word x.song_length
    ∷ word x.restart
    ∷ word x.channels
    ∷ word x.patterns
    ∷ word x.instruments
    ∷ word x.flags
    ∷ word x.tempo
    ∷ word x.bpm
    ∷ x.orders
    ∷ replicate (padding kind x.song_length) 0
    ∷ [])

-- What is not content is null.
abbrev pub GoodTracker : ModuleKind → (name : List ℕ) → Type 0
GoodTracker normal name = (length name ≡ 20) × Bytes name
GoodTracker stripped name = name ≡ no_tracker

pub record GoodHeader (kind : ModuleKind) (x : Header) : Type 0 where
  pub name_size : length x.module_name ≡ 20
  pub name_plain : Bytes x.module_name
  pub tracker_good : GoodTracker kind x.tracker_name
  pub counts : AllHold (count_tests x.song_length x.patterns x.channels x.instruments 0)
  pub restart_low : x.restart < x.song_length
  pub flags_high : x.flags < 65536
  pub tempo_high : x.tempo < 65536
  pub bpm_high : x.bpm < 65536
  pub orders_size : length x.orders ≡ x.song_length
  pub orders_plain : Bytes x.orders

abbrev pub header_format : ModuleKind → Format (Unit {0}) HeaderFound Header
header_format kind = record {
  read = λ u. read_header kind;
  view = λ i. i.content;
  regions = λ i. record { kind = header; place = i.place; size = i.size } ∷ [];
  Good = λ u. GoodHeader kind;
  write = write_header kind;
}
