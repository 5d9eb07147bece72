-- A header that is written: with a tracker name, a number of patterns and orders of the caller's, and else the content of a file's header.
use Rattle.std.specs.Prelude.{ℕ, Bool, true, false, List, [], ◌∷◌, length, replicate}
use Rattle.xm.specs.Number.{word_at, part, byte, word, long}
use Rattle.xm.specs.ModuleKind.{ModuleKind}
use Rattle.xm.specs.Format.{flat}
use Rattle.xm.specs.Header.{Header, id_text, mark, version, least_header, padding, channels_at, instruments_at, restart_of, no_tracker}

-- The tracker name as it stands, or nulls.
abbrev pub tracker_by : (kept : Bool) (file : List ℕ) → List ℕ
tracker_by true file = part 38 20 file
tracker_by false file = no_tracker

-- As many orders as the song length says.
abbrev pub header_with : (tracker : List ℕ) (patterns : ℕ) (orders file : List ℕ) → Header
header_with tracker patterns orders file = record {
  module_name = part 17 20 file;
  tracker_name = tracker;
  song_length = length orders;
  restart = restart_of (length orders) (word_at 66 file);
  channels = channels_at file;
  patterns = patterns;
  instruments = instruments_at file;
  flags = word_at 74 file;
  tempo = word_at 76 file;
  bpm = word_at 78 file;
  orders = orders;
}

-- Its three parts: up to the version, the numbers, and the order table.
abbrev pub names_of : ModuleKind → (tracker file : List ℕ) → List ℕ
names_of kind tracker file = flat (id_text kind ∷ part 17 20 file ∷ byte (mark kind) ∷ tracker ∷ word (version kind) ∷ [])

abbrev pub header_numbers : ModuleKind → (song_length patterns : ℕ) (file : List ℕ) → List ℕ
header_numbers kind song_length patterns file = flat (
    long (least_header kind song_length)
    ∷ word song_length
    ∷ word (restart_of song_length (word_at 66 file))
    ∷ word (channels_at file)
    ∷ word patterns
    ∷ word (instruments_at file)
    ∷ word (word_at 74 file)
    ∷ word (word_at 76 file)
    ∷ word (word_at 78 file)
    ∷ [])

abbrev pub orders_of : ModuleKind → (orders : List ℕ) → List ℕ
orders_of kind orders = flat (orders ∷ replicate (padding kind (length orders)) 0 ∷ [])
