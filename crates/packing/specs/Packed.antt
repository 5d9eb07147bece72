-- What packing reports.
use Rattle.std.specs.Prelude.{ℕ, ◌≤◌, ◌<◌, List, [], ◌∷◌, ◌≡◌, Result, Ok, Err, length}
use Rattle.refusal.specs.declared.Refusal.{Refusal}
use Rattle.xm.specs.Stored.{Pattern, write_stored}
use Rattle.xm.specs.PatternInFile.{data_most}
use Rattle.packing.specs.declared.Form.{Form}

-- "It reports length and rows."
abbrev pub form_of : Pattern → Form
form_of p = record { length = length (write_stored p); rows = p.rows }

-- The paper's numbers for each case: number, place, length, rows.
abbrev pub packed_numbers : Result Form Refusal → List ℕ
packed_numbers (Ok form) = 0 ∷ 0 ∷ form.length ∷ form.rows ∷ []
packed_numbers (Err refusal) = refusal.number ∷ refusal.place ∷ 0 ∷ 0 ∷ []

-- A length as the first pass tells it: exactly, unless it is above what data can be.
pub record LimitedLength (long told : ℕ) : Type 0 where
  pub exact : told ≤ data_most → told ≡ long
  pub above : data_most < told → data_most < long
