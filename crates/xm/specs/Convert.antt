-- "Read, press and convert both ways": the shortest file of the other kind with the same content, but for the tracker name.
use Rattle.std.specs.Prelude.{ℕ, List, [], ◌∷◌, length}
use Rattle.xm.specs.ModuleKind.{ModuleKind}
use Rattle.xm.specs.Got.{got, ◌>>=◌, ◌>>◌, Test, checked, present, at_most, ◌at◌}
use Rattle.xm.specs.Answer.{Answer, answered, numbers, after, loader_number}
use Rattle.xm.specs.Header.{Header, no_tracker}
use Rattle.xm.specs.Module.{Content, file_most, read_file}
use Rattle.xm.specs.Press.{content_of, pressed, pressed_length}

-- "A conversion to the normal format writes 20 nulls as tracker name", and in a stripped file it is none of the content; "a conversion
-- keeps everything else".
abbrev pub without_tracker : Header → Header
without_tracker x = record {
  module_name = x.module_name;
  tracker_name = no_tracker;
  song_length = x.song_length;
  restart = x.restart;
  channels = x.channels;
  patterns = x.patterns;
  instruments = x.instruments;
  flags = x.flags;
  tempo = x.tempo;
  bpm = x.bpm;
  orders = x.orders;
}

abbrev pub converted : Content → Content
converted content = (without_tracker content.0, content.1)

-- It "is the shortest file of its target format".
abbrev pub converted_file : (to : ModuleKind) → Content → List ℕ
converted_file to content = pressed to (converted content)

-- The file's own refusals first. "A conversion whose file would be over 16,777,216 bytes gets 2, tried just before 14."
abbrev pub convert_tests : (size room : ℕ) → List Test
convert_tests size room = at_most file_most size (2 at 0) ∷ present size room (14 at 0) ∷ []

unfoldable pub converting : (to : ModuleKind) (file : List ℕ) (room : ℕ) → Answer (List ℕ)
converting to file room = answered (λ bytes used. bytes) (do
  (found, end) ← read_file file
  checked (convert_tests (length (converted_file to (content_of found))) room)
  got (converted_file to (content_of found)) end)

-- Number, place, length; the lent output afterwards; the loader's number: as of pressing.
abbrev pub convert_numbers : (to : ModuleKind) (file : List ℕ) (room : ℕ) → List ℕ
convert_numbers to file room = numbers (pressed_length ∷ []) (converting to file room)

abbrev pub convert_after : (to : ModuleKind) (file out : List ℕ) → List ℕ
convert_after to file out = after (λ bytes. bytes) (converting to file (length out)) out

abbrev pub convert_loader : (to : ModuleKind) (file : List ℕ) (room : ℕ) → ℕ
convert_loader to file room = loader_number pressed_length (converting to file room)
