-- The form in which an instrument is written: its I and H, and how many bytes it takes with its sample headers and data.
use Rattle.std.specs.Prelude.{ℕ, ◌+◌, ◌-◌, ◌*◌, ◌≤◌, List, [], ◌∷◌, ◌≡◌, length}
use Rattle.xm.specs.Number.{byte_at, part, byte, word, long}
use Rattle.xm.specs.ModuleKind.{ModuleKind, normal, stripped}
use Rattle.xm.specs.Format.{flat}
use Rattle.xm.specs.Sample.{least_head, smallest_head}
use Rattle.xm.specs.Instrument.{least_instrument, least_stripped, Instrument, voice_of, count_of, write_fields, write_instrument}
use Rattle.steps.specs.declared.instrument.InstrumentPart.{InstrumentPart}
use Rattle.forms.specs.declared.Form.{Form}

-- "I = 29 or 263 .. H = 40"; "Our stripped press uses the smallest H, then the smallest I".
abbrev pub form_by : ModuleKind → Instrument → Form
form_by normal x = record { size = least_instrument (count_of x); head_size = least_head; length = length (write_instrument normal x) }
form_by stripped x =
    record { size = least_stripped + length (write_fields x); head_size = smallest_head x.samples.0; length = length (write_instrument stripped x) }

-- In a normal module, by what was read of it at a place: behind the sample headers its data, as many bytes as there.
abbrev pub normal_form : (place : ℕ) → InstrumentPart → Form
normal_form place piece =
    let size = least_instrument piece.samples in
    let bytes = piece.next - (place + piece.size + piece.samples * piece.head_size) in
    record { size = size; head_size = least_head; length = size + least_head * piece.samples + bytes }

-- Of an instrument that was read from a place to the next: it may be longer, but by no more than fields and headers take.
pub record FormIs (kind : ModuleKind) (place next : ℕ) (x : Instrument) (form : Form) : Type 0 where
  pub is : form ≡ form_by kind x
  pub most : place + form.length ≤ next + 903

-- The fields behind I, from the bytes that they are read from.
abbrev pub written_fields : (fields : List ℕ) (samples head_size : ℕ) → List ℕ
written_fields fields samples head_size = flat (part 4 22 fields ∷ byte (byte_at 26 fields) ∷ word samples ∷ long head_size ∷ voice_of samples fields ∷ [])
