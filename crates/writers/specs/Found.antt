-- What a reading found at a place of a file, and the bytes that it is written as.
use Rattle.std.specs.Prelude.{ℕ, ◌+◌, List, drop}
use Rattle.xm.specs.ModuleKind.{ModuleKind}
use Rattle.xm.specs.Got.{Got, got, refused, list_in}
use Rattle.xm.specs.Format.{Format}
use Rattle.xm.specs.Header.{kind_at}
use Rattle.xm.specs.Instrument.{instrument_format}

-- What stands at a place of a file, read within a format.
abbrev pub read_at : {H I A : Type 0} → Format H I A → H → (file : List ℕ) (place : ℕ) → Got I
read_at F h file place = F.read h place (drop place file)

-- The same as it is written within another format of that content; and within its own, in its shortest form.
abbrev pub written_at : {H I A : Type 0} → (from to : Format H I A) → H → (file : List ℕ) (place : ℕ) → List ℕ
written_at from to h file place = list_in (λ i. to.write (from.view i)) (read_at from h file place)

abbrev pub pressed_at : {H I A : Type 0} → Format H I A → H → (file : List ℕ) (place : ℕ) → List ℕ
pressed_at F = written_at F F

-- Where it ends.
abbrev pub end_of : {A : Type 0} → (place : ℕ) → Got A → ℕ
end_of place (got a used) = place + used
end_of place (refused r) = place

-- An instrument of a file, as it is written in a module of a kind.
abbrev pub instrument_as : (to : ModuleKind) (file : List ℕ) (place : ℕ) → List ℕ
instrument_as to file = written_at (instrument_format (kind_at file)) (instrument_format to) tt file
