-- For contracts inside the library: stored cells one after the other, a run, and a pattern's data by the length of its cells.
use Rattle.std.specs.Prelude.{ℕ, zero, suc, cond, List, [], ◌∷◌, eqb, drop}
use Rattle.xm.specs.Cell.{needed, cell_at}

-- The cells of a run, refused or not.
unfoldable pub cells_in : (count : ℕ) → List ℕ → List (List ℕ)
cells_in zero s = []
cells_in (suc count) s = cell_at s ∷ cells_in count (drop (needed s) s)

-- How many bytes a pattern's data take: none if its cells are all empty, which they are if they are as many as the bytes of their shortest
-- forms.
unfoldable pub size_by : (count shortest : ℕ) → ℕ
size_by count shortest = cond (eqb shortest count) 0 shortest
