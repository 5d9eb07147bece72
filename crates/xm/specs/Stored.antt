-- "A stored form is a row number 1..256 with 0..65,535 data bytes."
use Rattle.std.specs.Prelude.{ℕ, zero, suc, ◌+◌, ◌*◌, ◌-◌, ◌≤◌, Bool, true, cond, ◌&&◌, List, [], ◌∷◌, eqb, length, drop, replicate}
use Rattle.xm.specs.Got.{got, Reader, ◌>>=◌, ◌>>◌, checked, at_most, ◌at◌}
use Rattle.xm.specs.Format.{each, EachGood, joined, flat}
use Rattle.xm.specs.Cell.{cell_size, five, cell_format, write_cell}

-- "rows not 1..256", "channels not 1..64"
abbrev pub rows_most : ℕ
rows_most = 256

abbrev pub channels_most : ℕ
channels_most = 64

-- A pattern: "Cells run row by row, channel by channel."
pub record Pattern : Type 0 where
  pub rows : ℕ
  pub cells : List (List ℕ)

-- So many rows of empty cells.
abbrev pub empty_rows : (channels rows : ℕ) → Pattern
empty_rows channels rows = record { rows = rows; cells = replicate (rows * channels) (replicate cell_size 0) }

-- So many cells, one after the other.
abbrev pub read_run : (count : ℕ) → Reader (List (List ℕ))
read_run count place d = (each cell_format).read (replicate count tt) place d

-- "With S above 0 the cells must fill S exactly": 8 at "the first byte left over".
unfoldable pub read_cells : (channels rows : ℕ) → Reader Pattern
read_cells channels rows place d = do
  (cells, used) ← read_run (rows * channels) place d
  checked (at_most 0 (length d - used) (8 at (place + used)) ∷ [])
  got (record { rows = rows; cells = cells }) used

-- "S = 0 means empty cells for the row number in the header."
unfoldable pub read_stored : (channels rows : ℕ) → Reader Pattern
read_stored channels rows place [] = got (empty_rows channels rows) 0
read_stored channels rows place (b ∷ d) = read_cells channels rows place (b ∷ d)

-- "The press writes S = 0 for every all-empty pattern"; of any other its cells, each in its shortest form.
unfoldable pub all_zero : List ℕ → Bool
all_zero [] = true
all_zero (x ∷ xs) = eqb x 0 && all_zero xs

unfoldable pub needs_no_data : Pattern → Bool
needs_no_data p = all_zero (flat p.cells)

unfoldable pub write_stored : Pattern → List ℕ
write_stored p = cond (needs_no_data p) [] (joined write_cell p.cells)

pub record GoodPattern (channels : ℕ) (p : Pattern) : Type 0 where
  pub some : 1 ≤ channels
  pub low : 1 ≤ p.rows
  pub high : p.rows ≤ rows_most
  pub good : EachGood cell_format (replicate (p.rows * channels) tt) p.cells

-- Cell bytes as they are lent, five to a cell.
unfoldable pub cells_of : ℕ → List ℕ → List (List ℕ)
cells_of zero bytes = []
cells_of (suc n) bytes = five bytes ∷ cells_of n (drop cell_size bytes)
