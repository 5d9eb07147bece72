-- What measuring stored cells, and a stored pattern, answers.
use Rattle.std.specs.Prelude.{ℕ, ◌+◌, Bool, true, false, ◌&&◌, List, [], ◌∷◌, eqb, length, take}
use Rattle.xm.specs.Got.{Got}
use Rattle.xm.specs.Format.{joined}
use Rattle.xm.specs.Cell.{write_cell}
use Rattle.xm.specs.Stored.{Pattern, write_stored}
use Rattle.refusal.specs.Refusal.{step_by}
use Rattle.refusal.specs.declared.Step.{Step}
use Rattle.measure.specs.declared.StoredSize.{StoredSize}

unfoldable pub same_bytes : List ℕ → List ℕ → Bool
same_bytes [] [] = true
same_bytes [] (y ∷ ys) = false
same_bytes (x ∷ xs) [] = false
same_bytes (x ∷ xs) (y ∷ ys) = eqb x y && same_bytes xs ys

-- Cells at the head of s, onto what those before them came to: the bytes used, the length of the shortest form, and whether the bytes used
-- are that form already.
abbrev pub cells_on : (before : StoredSize) → List ℕ → List (List ℕ) → ℕ → StoredSize
cells_on before s cells n = record {
  used = before.used + n;
  shortest = before.shortest + length (joined write_cell cells);
  same = before.same && same_bytes (take n s) (joined write_cell cells);
}

abbrev pub measured_on : (before : StoredSize) → List ℕ → Got (List (List ℕ)) → Step StoredSize
measured_on before s = step_by (cells_on before s)

-- Onto none.
abbrev pub no_cells : StoredSize
no_cells = record { used = 0; shortest = 0; same = true }

-- A stored pattern.
abbrev pub pattern_size : (stored : List ℕ) → Pattern → ℕ → StoredSize
pattern_size stored p used = record { used = used; shortest = length (write_stored p); same = same_bytes stored (write_stored p) }

abbrev pub stored_of : (stored : List ℕ) → Got Pattern → Step StoredSize
stored_of stored = step_by (pattern_size stored)
