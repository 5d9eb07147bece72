-- Unpacking and packing a pattern: the whole answers, their refusals in order, and the lent memory afterwards.
use Rattle.std.specs.Prelude.{ℕ, ◌+◌, ◌*◌, List, [], ◌∷◌, ◌++◌, length}
use Rattle.xm.specs.Got.{got, ◌>>=◌, ◌>>◌, Test, checked, present, at_most, within, exactly, ◌at◌}
use Rattle.xm.specs.Format.{flat}
use Rattle.xm.specs.Answer.{Answer, answered, numbers, after, loader_number}
use Rattle.xm.specs.Cell.{cell_size}
use Rattle.xm.specs.Stored.{rows_most, channels_most, Pattern, read_stored, write_stored, cells_of}
use Rattle.xm.specs.PatternInFile.{data_most}

abbrev pub argument_tests : (rows channels : ℕ) → List Test
argument_tests rows channels = within 1 rows_most rows (16 at 0) ∷ within 1 channels_most channels (16 at 0) ∷ []

-- "fills five bytes a cell"
abbrev pub cell_bytes : Pattern → List ℕ
cell_bytes p = flat p.cells

-- "Unpacking takes rows, channels, data. Order: 16 (rows, channels, or data above 65,535 bytes), cells as above, 14."
unfoldable pub unpacking : (rows channels : ℕ) (stored : List ℕ) (room : ℕ) → Answer Pattern
unpacking rows channels stored room = answered (λ p used. p) (do
  checked (argument_tests rows channels ++ (at_most data_most (length stored) (16 at 0) ∷ []))
  (p, used) ← read_stored channels rows 0 stored
  checked (present (length (cell_bytes p)) room (14 at 0) ∷ [])
  got p used)

-- "It reports the rows": number, place, rows; and the lent cells afterwards.
abbrev pub rows_read : Pattern → ℕ
rows_read p = p.rows

abbrev pub unpack_numbers : (rows channels : ℕ) (stored : List ℕ) (room : ℕ) → List ℕ
unpack_numbers rows channels stored room = numbers (rows_read ∷ []) (unpacking rows channels stored room)

abbrev pub unpack_after : (rows channels : ℕ) (stored cells : List ℕ) → List ℕ
unpack_after rows channels stored cells = after cell_bytes (unpacking rows channels stored (length cells)) cells

-- The pattern that lent cell bytes stand for.
abbrev pub pattern_of : (rows channels : ℕ) (cells : List ℕ) → Pattern
pattern_of rows channels cells = record { rows = rows; cells = cells_of (rows * channels) cells }

-- "Packing order: 16 (rows, channels, or cell bytes not rows × channels × 5), .. 15, 14."
unfoldable pub packing : (rows channels : ℕ) (cells : List ℕ) (room : ℕ) → Answer Pattern
packing rows channels cells room = answered (λ p used. p) (do
  let p = pattern_of rows channels cells
  checked (argument_tests rows channels ++ (exactly (rows * channels * cell_size) (length cells) (16 at 0) ∷ []))
  checked (at_most data_most (length (write_stored p)) (15 at 0) ∷ present (length (write_stored p)) room (14 at 0) ∷ [])
  got p 0)

-- "It reports length and rows": number, place, length, rows; and the lent output afterwards.
abbrev pub stored_length : Pattern → ℕ
stored_length p = length (write_stored p)

abbrev pub pack_numbers : (rows channels : ℕ) (cells : List ℕ) (room : ℕ) → List ℕ
pack_numbers rows channels cells room = numbers (stored_length ∷ rows_read ∷ []) (packing rows channels cells room)

abbrev pub pack_after : (rows channels : ℕ) (cells out : List ℕ) → List ℕ
pack_after rows channels cells out = after write_stored (packing rows channels cells (length out)) out

-- The loader's numbers: "the rows", "length + 65,536 × rows".
abbrev pub unpack_loader : (rows channels : ℕ) (stored : List ℕ) (room : ℕ) → ℕ
unpack_loader rows channels stored room = loader_number rows_read (unpacking rows channels stored room)

abbrev pub length_and_rows : Pattern → ℕ
length_and_rows p = stored_length p + 65536 * rows_read p

abbrev pub pack_loader : (rows channels : ℕ) (cells : List ℕ) (room : ℕ) → ℕ
pack_loader rows channels cells room = loader_number length_and_rows (packing rows channels cells room)
