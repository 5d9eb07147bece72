-- "Pressing writes: "Extended module: " (17 bytes), mark 1A, .. content, nothing after": the shortest file of a content.
use Rattle.std.specs.Prelude.{ℕ, List, [], ◌∷◌, length}
use Rattle.xm.specs.ModuleKind.{ModuleKind}
use Rattle.xm.specs.Got.{got, ◌>>=◌, ◌>>◌, checked, present, ◌at◌}
use Rattle.xm.specs.Format.{Format}
use Rattle.xm.specs.Answer.{Answer, answered, numbers, after, loader_number}
use Rattle.xm.specs.Header.{kind_at}
use Rattle.xm.specs.Module.{Found, Content, module_format, read_whole}

abbrev pub content_of : Found → Content
content_of found = (module_format found.0.kind).view found

abbrev pub pressed : ModuleKind → Content → List ℕ
pressed kind content = (module_format kind).write content

-- Pressing within a format: the file's own refusals first; then 14, by the pressed length.
unfoldable pub pressing_as : {I A : Type 0} → Format (Unit {0}) I A → (file : List ℕ) (room : ℕ) → Answer (List ℕ)
pressing_as F file room = answered (λ bytes used. bytes) (do
  (found, end) ← read_whole F file
  checked (present (length (F.write (F.view found))) room (14 at 0) ∷ [])
  got (F.write (F.view found)) end)

-- Each file in its own kind.
abbrev pub pressing : (file : List ℕ) (room : ℕ) → Answer (List ℕ)
pressing file room = pressing_as (module_format (kind_at file)) file room

-- "It reports the length": number, place, length; the lent output afterwards; the loader's number.
abbrev pub pressed_length : List ℕ → ℕ
pressed_length bytes = length bytes

abbrev pub press_numbers_as : {I A : Type 0} → Format (Unit {0}) I A → (file : List ℕ) (room : ℕ) → List ℕ
press_numbers_as F file room = numbers (pressed_length ∷ []) (pressing_as F file room)

abbrev pub press_after_as : {I A : Type 0} → Format (Unit {0}) I A → (file out : List ℕ) → List ℕ
press_after_as F file out = after (λ bytes. bytes) (pressing_as F file (length out)) out

abbrev pub press_numbers : (file : List ℕ) (room : ℕ) → List ℕ
press_numbers file room = press_numbers_as (module_format (kind_at file)) file room

abbrev pub press_after : (file out : List ℕ) → List ℕ
press_after file out = press_after_as (module_format (kind_at file)) file out

abbrev pub press_loader : (file : List ℕ) (room : ℕ) → ℕ
press_loader file room = loader_number pressed_length (pressing file room)
