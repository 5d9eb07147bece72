-- Wrong presses, tried on one song and on silence: each gives a file that reads as the same content and is longer than it need be. So
-- demand 2 does not rule it out, and demand 3 does: proofs/Wrong.antt has the numbers.
use Rattle.std.specs.Prelude.{ℕ, ◌+◌, List, [], ◌∷◌, length, take, drop, replicate}
use Rattle.xm.specs.Number.{part, byte, word, long}
use Rattle.xm.specs.ModuleKind.{normal}
use Rattle.xm.specs.Got.{Got, got, refused}
use Rattle.xm.specs.Format.{joined, flat}
use Rattle.xm.specs.Cell.{write_cell}
use Rattle.xm.specs.Stored.{Pattern, empty_rows, write_stored}
use Rattle.xm.specs.Header.{write_header}
use Rattle.xm.specs.PatternInFile.{PatternFound, least_pattern, write_pattern}
use Rattle.xm.specs.Sample.{least_head, samples_format}
use Rattle.xm.specs.Instrument.{Instrument, least_instrument, voice_size, count_of, write_instrument}
use Rattle.xm.specs.Module.{Found, Content, read_file}
use Rattle.xm.specs.Press.{content_of, pressed}

-- The song: two patterns of one cell, whose instrument alone is not 0, and an instrument with a sample of one byte.
abbrev pub song : Content
song = (
  record {
    module_name = replicate 20 0;
    tracker_name = replicate 20 0;
    song_length = 1;
    restart = 0;
    channels = 1;
    patterns = 2;
    instruments = 1;
    flags = 0;
    tempo = 6;
    bpm = 125;
    orders = 0 ∷ [];
  },
  (
    replicate 2 (record { rows = 1; cells = (0 ∷ 1 ∷ 0 ∷ 0 ∷ 0 ∷ []) ∷ [] }),
    record { name = replicate 22 0; type = 0; voice = replicate voice_size 0; samples = ((1 ∷ replicate 39 0) ∷ [], (0 ∷ []) ∷ []) } ∷ [],
  ),
)

-- A file by its parts.
abbrev pub file_by : (Pattern → List ℕ) → (Instrument → List ℕ) → Content → List ℕ
file_by pattern instrument content = flat (write_header normal content.0 ∷ joined pattern content.1.0 ∷ joined instrument content.1.1 ∷ [])

-- As a tracker may have saved it: every cell plain.
abbrev pub plain_pattern : Pattern → List ℕ
plain_pattern p = flat (long least_pattern ∷ byte 0 ∷ word p.rows ∷ word (length (flat p.cells)) ∷ flat p.cells ∷ [])

abbrev pub saved : List ℕ
saved = file_by plain_pattern (write_instrument normal) song

-- "a press that packs pattern 0 and copies the rest as found"
abbrev pub as_found : (file : List ℕ) → PatternFound → List ℕ
as_found file i = part i.place (i.head_size + i.data_size) file

abbrev pub first_packed : (file : List ℕ) → Got Found → List ℕ
first_packed file (got found end) = flat (
    write_header normal found.0.content
    ∷ joined write_pattern (take 1 (content_of found).1.0)
    ∷ joined (as_found file) (drop 1 found.1.0)
    ∷ joined (write_instrument normal) (content_of found).1.1
    ∷ [])
first_packed file (refused r) = []

-- L = 10, with a byte more
abbrev pub long_pattern : Pattern → List ℕ
long_pattern p = flat (long (least_pattern + 1) ∷ byte 0 ∷ word p.rows ∷ word (length (write_stored p)) ∷ byte 0 ∷ write_stored p ∷ [])

-- I = 264, with a reserved byte more
abbrev pub long_instrument : Instrument → List ℕ
long_instrument x = flat (
    long (least_instrument (count_of x) + 1)
    ∷ x.name
    ∷ byte x.type
    ∷ word (count_of x)
    ∷ long least_head
    ∷ x.voice
    ∷ replicate 23 0
    ∷ samples_format.write x.samples
    ∷ [])

abbrev pub wrong_files : List (List ℕ)
wrong_files = first_packed saved (read_file saved) ∷ file_by long_pattern (write_instrument normal) song ∷ file_by write_pattern long_instrument song ∷ []

-- 32 silent rows, twice, and a press that writes S = 0 of 64 empty rows only.
abbrev pub silence : Content
silence = (song.0, (replicate 2 (empty_rows 1 32), song.1.1))

abbrev pub cells_pattern : Pattern → List ℕ
cells_pattern p = let cells = joined write_cell p.cells in flat (long least_pattern ∷ byte 0 ∷ word p.rows ∷ word (length cells) ∷ cells ∷ [])

abbrev pub in_cells : List ℕ
in_cells = file_by cells_pattern (write_instrument normal) silence

-- A14: a press that forgets a field gives one file for two songs; one that keeps what is no content gives two files for one.
abbrev pub with_tempo : ℕ → Content → Content
with_tempo tempo content = (
  record {
    module_name = content.0.module_name;
    tracker_name = content.0.tracker_name;
    song_length = content.0.song_length;
    restart = content.0.restart;
    channels = content.0.channels;
    patterns = content.0.patterns;
    instruments = content.0.instruments;
    flags = content.0.flags;
    tempo = tempo;
    bpm = content.0.bpm;
    orders = content.0.orders;
  },
  content.1,
)

abbrev pub forgetful : Content → List ℕ
forgetful content = pressed normal (with_tempo 0 content)

-- The packing type, which is ignored, as found.
abbrev pub typed_pattern : (type : ℕ) → Pattern → List ℕ
typed_pattern type p = flat (long least_pattern ∷ byte type ∷ word p.rows ∷ word (length (write_stored p)) ∷ write_stored p ∷ [])

abbrev pub typed : (type : ℕ) → List ℕ
typed type = file_by (typed_pattern type) (write_instrument normal) song

-- What a file reads as, and how many bytes it takes.
abbrev pub contents_in : Got Found → List Content
contents_in (got found end) = content_of found ∷ []
contents_in (refused r) = []

abbrev pub reads_as : (file : List ℕ) → List Content × ℕ
reads_as file = (contents_in (read_file file), length file)
