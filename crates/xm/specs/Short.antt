-- For contracts inside the library: a cell's shortest form, by the numbers that a pass over cells has at hand.
use Rattle.std.specs.Prelude.{ℕ, ◌+◌, ◌/◌, Bool, cond, ◌&&◌, List, ltb, eqb, length, get_or}
use Rattle.xm.specs.Cell.{cell_size, marked_from, needed, cell_at, kepts, plain_by, write_cell}

-- The length of the shortest form, by the note and by how many fields are kept, those that aren't 0.
abbrev pub shortest_by : (note fields : ℕ) → ℕ
shortest_by note fields = cond (plain_by note fields) cell_size (1 + fields)

-- Whether a cell of `used` bytes stands in its shortest form: bits 5 and 6 are zero, every field stored is kept, and it is as short.
abbrev pub short_by : (lead used fields shortest : ℕ) → Bool
short_by lead used fields shortest = ltb lead 160 && (eqb (lead / marked_from + fields) used && eqb shortest used)

unfoldable pub is_short : List ℕ → Bool
is_short s = short_by (get_or s 0 0) (needed s) (length (kepts (cell_at s))) (length (write_cell (cell_at s)))
