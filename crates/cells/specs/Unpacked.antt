-- What unpacking answers; and for a contract inside the crate, what an eight's first cell is written as.
use Rattle.std.specs.Prelude.{ℕ, ◌%◌, cond, List, [], ◌∷◌, Result, Ok, Err, eqb, replicate}
use Rattle.xm.specs.Cell.{cell_at}
use Rattle.refusal.specs.declared.Refusal.{Refusal}

-- The paper's numbers for each case: number, place, rows.
abbrev pub unpacked_numbers : Result ℕ Refusal → List ℕ
unpacked_numbers (Ok rows) = 0 ∷ 0 ∷ rows ∷ []
unpacked_numbers (Err refusal) = refusal.number ∷ refusal.place ∷ 0 ∷ []

-- If it is empty, as many zeros as eight cells have.
abbrev pub first_fields : (eight : ℕ) → List ℕ → List ℕ
first_fields eight s = cond (eqb (eight % 256) 128) (replicate 40 0) (cell_at s)
