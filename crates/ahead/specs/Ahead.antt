-- For the fast loops: eight bytes at once, a run of empty cells, and two cells ahead; and the cells that begin in a block of bytes.
use Rattle.std.specs.Prelude.{ℕ, zero, suc, ◌+◌, ◌*◌, ◌/◌, ◌%◌, ◌^◌, ◌<◌, ◌≤◌, cond, List, ◌≡◌, ltb, eqb, length, get_or}
use Rattle.xm.specs.Cell.{marked_from, length_by}
use Rattle.ahead.specs.declared.Ahead.{Ahead}

-- Eight bytes as one number, low first.
abbrev pub eight_at : List ℕ → (place : ℕ) → ℕ
eight_at s place =
    get_or s place 0 + 256 * get_or s (place + 1) 0 + 65536 * get_or s (place + 2) 0 + 16777216 * get_or s (place + 3) 0
    + 4294967296 * get_or s (place + 4) 0 + 1099511627776 * get_or s (place + 5) 0 + 281474976710656 * get_or s (place + 6) 0
    + 72057594037927936 * get_or s (place + 7) 0

-- An eight that stands at a place, where there are so many bytes.
pub record EightRead (s : List ℕ) (place eight : ℕ) : Type 0 where
  pub right : place + 8 ≤ length s → eight ≡ eight_at s place

-- A byte of an eight.
abbrev pub byte_in : (eight offset : ℕ) → ℕ
byte_in eight offset = eight / 2 ^ (8 * offset) % 256

-- So many bytes of an eight, from the first on, are empty cells, and its eighth isn't one of them.
pub record Empties (eight count : ℕ) : Type 0 where
  pub few : count ≤ 7
  pub all : (i : ℕ) → i < count → byte_in eight i ≡ 128

-- So many bytes, from a place on, are empty cells.
pub record EmptyRun (s : List ℕ) (place count : ℕ) : Type 0 where
  pub few : count ≤ 7
  pub all : (i : ℕ) → i < count → get_or s (place + i) 0 ≡ 128

-- Sixteen lengths of cells, four bits each, by an eight's first byte.
unfoldable pub lengths_by : (eight : ℕ) → ℕ
lengths_by eight = cond (ltb (eight % 256) marked_from) 0x5555555555555555 (cond (eqb (eight / 16 % 2) 0) 0x5443433243323221 0x6554544354434332)

-- The cell behind some bits of the eight that stands at a place.
abbrev pub cell_behind : (eight place cells bits : ℕ) → Ahead
cell_behind eight place cells bits =
    record { cells = cells; last = place + bits / 8; next = place + bits / 8 + length_by (eight / 2 ^ bits % 256) }

-- From a place on: empty cells, or else one cell; and a last one behind.
pub record AheadOf (s : List ℕ) (place : ℕ) (r : Ahead) : Type 0 where
  pub empties : get_or s place 0 ≡ 128 → EmptyRun s place r.cells × (r.last ≡ place + r.cells)
  pub one : (get_or s place 0 ≡ 128 → ⊥) → (r.cells ≡ 1) × (r.last ≡ place + length_by (get_or s place 0))
  pub few : r.cells ≤ 7
  pub near : r.last ≤ place + 7
  pub next : r.next ≡ r.last + length_by (get_or s r.last 0)
  pub reach : r.next ≤ place + 13

-- A block of bytes, or what there is of one.
abbrev pub block_size : ℕ
block_size = 64

pub record BlockOf (rest size : ℕ) : Type 0 where
  pub most : size ≤ block_size
  pub inside : size ≤ rest
  pub some : 0 < rest → 0 < size

-- Of a block's row so many numbers, from the first on, are those of a rule.
pub record Follows (rule : ℕ → ℕ) (size : ℕ) (row : List ℕ) : Type 0 where
  pub long : length row ≡ block_size
  pub right : (i : ℕ) → i < size → get_or row i 0 ≡ rule i

-- The lengths of the cells that the bytes from a place on would lead.
abbrev pub lengths_from : List ℕ → (place : ℕ) → ℕ → ℕ
lengths_from s place i = length_by (get_or s (place + i) 0)

-- Where a walk through a block ended: how far in, how many cells are left, and what those passed came to.
pub record Walked (S : Type 0) : Type 0 where
  pub at : ℕ
  pub left : ℕ
  pub state : S

-- From one cell to the next, as long as one begins in the block and there are cells left.
unfoldable pub walked : {S : Type 0} → (pass : (at : ℕ) → S → S) (lengths : List ℕ) (size left at : ℕ) → S → Walked S
walked pass lengths size zero at state = record { at = at; left = 0; state = state }
walked pass lengths size (suc left) at state =
    cond (ltb at size) (walked pass lengths size left (at + get_or lengths at 0) (pass at state)) (record { at = at; left = suc left; state = state })
