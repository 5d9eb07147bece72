-- What is answered to a sample asked for by number: this paper's place and length, or its refusal.
use Rattle.std.specs.Prelude.{ℕ, ◌+◌, ◌≤◌, List, [], ◌∷◌, length, Result, Ok, Err}
use Rattle.xm.specs.Number.{part}
use Rattle.xm.specs.Asking as paper
use Rattle.refusal.specs.declared.Refusal.{Refusal}
use Rattle.asking.specs.declared.Stretch.{Stretch}

abbrev pub code_stretch : paper.Stretch → Stretch
code_stretch stretch = record { place = stretch.place; length = stretch.size }

-- The paper's numbers for each case: number, place of the refusal, place, length.
abbrev pub asked_numbers : Result Stretch Refusal → List ℕ
asked_numbers (Ok stretch) = 0 ∷ 0 ∷ stretch.place ∷ stretch.length ∷ []
asked_numbers (Err refusal) = refusal.number ∷ refusal.place ∷ 0 ∷ 0 ∷ []

-- The data that a row speaks of.
abbrev pub paper_stretch : Stretch → paper.Stretch
paper_stretch row = record { place = row.place; size = row.length }

-- What an answer speaks of is inside the file; as its very stretch; and 0 or the refusal's number.
abbrev pub AskedInside : (file : List ℕ) → Result Stretch Refusal → Type 0
AskedInside file (Ok stretch) = stretch.place + stretch.length ≤ length file
AskedInside file (Err refusal) = Unit {0}

abbrev pub stretch_asked : (file : List ℕ) → Result Stretch Refusal → List ℕ
stretch_asked file (Ok stretch) = part stretch.place stretch.length file
stretch_asked file (Err refusal) = []

abbrev pub refusal_asked : Result Stretch Refusal → ℕ
refusal_asked (Ok stretch) = 0
refusal_asked (Err refusal) = refusal.number
