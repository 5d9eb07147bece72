-- What the walk over a whole file answers, and the check: the values of what was read, and the numbers of an answer in the rules' order.
use Rattle.std.specs.Prelude.{ℕ, ◌+◌, List, [], ◌∷◌, length, Result, Ok, Err}
use Rattle.xm.specs.ModuleKind.{ModuleKind}
use Rattle.xm.specs.Format.{Format, each, joined}
use Rattle.xm.specs.Instrument.{InstrumentFound}
use Rattle.xm.specs.Module.{Found}
use Rattle.xm.specs.Table.{sample_rows_in, sample_rows, CheckReport}
use Rattle.xm.specs.Press.{content_of, pressed}
use Rattle.refusal.specs.declared.Refusal.{Refusal}
use Rattle.refusal.specs.declared.Step.{Step}
use Rattle.refusal.specs.declared.Step.TheVariants.{Given, Refused}
use Rattle.walk.specs.declared.Run.{Run}
use Rattle.walk.specs.declared.Count.{Count}
use Rattle.walk.specs.declared.Module.{Module}

-- A run of structures, as they are written within a format.
abbrev pub run_given : {H I A : Type 0} → Format H I A → (place : ℕ) → List I → (used : ℕ) → Run
run_given F place is used = record { next = place + used; pressed = length ((each F).write ((each F).view is)) }

abbrev pub run_pressed : Step Run → ℕ
run_pressed (Given part) = part.pressed
run_pressed (Refused refusal) = 0

-- A run of instruments, and how many samples they have.
abbrev pub count_given : (place : ℕ) → List InstrumentFound → (used : ℕ) → Count
count_given place is used = record { next = place + used; samples = length (joined sample_rows_in is) }

-- The shortest form of a whole file, in a kind of module.
abbrev pub pressed_as : ModuleKind → Found → (end : ℕ) → List ℕ
pressed_as to found end = pressed to (content_of found)

-- "An accepted check reports the end of the last structure and the numbers of channels, patterns, instruments and samples".
abbrev pub code_module : CheckReport → Module
code_module c = record {
  end = c.end;
  channels = c.found.0.content.channels;
  patterns = c.found.0.content.patterns;
  instruments = c.found.0.content.instruments;
  samples = length (sample_rows c.found);
}

-- The paper's numbers for each case: number, place, end, channels, patterns, instruments, samples.
abbrev pub verdict_numbers : Result Module Refusal → List ℕ
verdict_numbers (Ok m) = 0 ∷ 0 ∷ m.end ∷ m.channels ∷ m.patterns ∷ m.instruments ∷ m.samples ∷ []
verdict_numbers (Err refusal) = refusal.number ∷ refusal.place ∷ 0 ∷ 0 ∷ 0 ∷ 0 ∷ 0 ∷ []
