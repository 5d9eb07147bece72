-- "A cell is five bytes: note, instrument, volume, effect, parameter." How it is stored, and its shortest form. "Keep all 256 note
-- values."
use Rattle.std.specs.Prelude.{ℕ, zero, suc, ◌+◌, ◌*◌, ◌/◌, ◌%◌, Bool, cond, ◌&&◌, List, [], ◌∷◌, ◌++◌, ◌≡◌, ltb, eqb, length, get_or, drop}
use Rattle.std.specs.Int.Count.{ones}
use Rattle.xm.specs.Number.{Bytes}
use Rattle.xm.specs.Got.{got, Reader, ◌>>◌, checked, present, ◌at◌}
use Rattle.xm.specs.Format.{Format}

-- "A cell is five bytes"
abbrev pub cell_size : ℕ
cell_size = 5

-- "From 128 up it is marked"
abbrev pub marked_from : ℕ
marked_from = 128

-- The first five numbers.
abbrev pub five : List ℕ → List ℕ
five s = get_or s 0 0 ∷ get_or s 1 0 ∷ get_or s 2 0 ∷ get_or s 3 0 ∷ get_or s 4 0 ∷ []

-- "A lead byte below 128 is the note, and four bytes follow"; "A marked cell's length is one more than the number of ones in the low
-- five bits of its lead byte."
unfoldable pub length_by : ℕ → ℕ
length_by lead = cond (ltb lead marked_from) cell_size (1 + ones (lead % 32))

-- "bits 0 to 4 say which of the five follow, in order; the absent are 0": one field by the lowest bit, and `count` fields so.
abbrev pub field_by : ℕ → List ℕ → ℕ
field_by bits s = cond (eqb (bits % 2) 0) 0 (get_or s 0 0)

unfoldable pub fields_by : (count bits : ℕ) → List ℕ → List ℕ
fields_by zero bits s = []
fields_by (suc count) bits s = field_by bits s ∷ fields_by count (bits / 2) (drop (bits % 2) s)

-- The bytes that the cell at the head of s takes, and its five bytes.
abbrev pub needed : List ℕ → ℕ
needed s = length_by (get_or s 0 0)

unfoldable pub cell_at : List ℕ → List ℕ
cell_at s = cond (ltb (get_or s 0 0) marked_from) (five s) (fields_by cell_size (get_or s 0 0) (drop 1 s))

-- "A cell is tried for 7", at "where the cell's lead byte stands or would stand".
unfoldable pub read_cell : Reader (List ℕ)
read_cell place s = do
  checked (present (needed s) (length s) (7 at place) ∷ [])
  got (cell_at s) (needed s)

-- "bits 5 and 6 zero and one bit for each field that isn't 0": the bits, the first field's lowest, and those fields.
abbrev pub bit : ℕ → ℕ
bit zero = 0
bit (suc x) = 1

unfoldable pub kept : ℕ → List ℕ
kept zero = []
kept (suc x) = suc x ∷ []

unfoldable pub marks : List ℕ → ℕ
marks [] = 0
marks (x ∷ xs) = bit x + 2 * marks xs

unfoldable pub kepts : List ℕ → List ℕ
kepts [] = []
kepts (x ∷ xs) = kept x ++ kepts xs

unfoldable pub marked : List ℕ → List ℕ
marked cell = (marked_from + marks cell) ∷ kepts cell

-- "A note of 128 or more can only be stored marked": plain it would be a marked cell's lead byte.
unfoldable pub stands_plain : (note : ℕ) → Bool
stands_plain note = ltb note marked_from

-- "each cell in its shortest form; where plain and marked tie at five bytes, marked": a marked cell has its lead byte and the fields kept.
unfoldable pub plain_shorter : (fields : ℕ) → Bool
plain_shorter fields = ltb cell_size (1 + fields)

unfoldable pub plain_by : (note fields : ℕ) → Bool
plain_by note fields = stands_plain note && plain_shorter fields

unfoldable pub goes_plain : List ℕ → Bool
goes_plain cell = plain_by (get_or cell 0 0) (length (kepts cell))

unfoldable pub write_cell : List ℕ → List ℕ
write_cell cell = cond (goes_plain cell) cell (marked cell)

-- "so a full cell may take six bytes"
abbrev pub cell_most : ℕ
cell_most = 6

pub record GoodCell (cell : List ℕ) : Type 0 where
  pub size : length cell ≡ cell_size
  pub plain : Bytes cell

abbrev pub cell_format : Format (Unit {0}) (List ℕ) (List ℕ)
cell_format = record { read = λ u. read_cell; view = λ cell. cell; regions = λ cell. []; Good = λ u. GoodCell; write = write_cell }
