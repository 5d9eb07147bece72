-- A pattern in a file: "length L (4), packing type (1, ignored), rows (2), data size S (2). Data begins L bytes after the header's
-- start and takes S bytes; the next structure follows at once."
use Rattle.std.specs.Prelude.{ℕ, ◌+◌, ◌≤◌, List, [], ◌∷◌, length}
use Rattle.xm.specs.Number.{word_at, long_at, part, byte, word, long}
use Rattle.xm.specs.Got.{got, Reader, ◌>>=◌, ◌>>◌, Test, checked, present, at_least, within, ◌at◌}
use Rattle.xm.specs.Format.{Format, pattern_header, pattern_data, flat}
use Rattle.xm.specs.Stored.{rows_most, Pattern, GoodPattern, read_stored, write_stored}

-- "L below 9": the press writes 9.
abbrev pub least_pattern : ℕ
least_pattern = 9

-- The fields, at their offsets.
abbrev pub pattern_head_size_at : List ℕ → ℕ
pattern_head_size_at s = long_at 0 s

abbrev pub rows_at : List ℕ → ℕ
rows_at s = word_at 5 s

abbrev pub data_size_at : List ℕ → ℕ
data_size_at s = word_at 7 s

-- "9 bytes present (1), 6, its L + S bytes present (1)"
abbrev pub pattern_tests : (place : ℕ) → List ℕ → List Test
pattern_tests place s =
    present least_pattern (length s) (1 at place)
    ∷ at_least least_pattern (pattern_head_size_at s) (6 at place)
    ∷ within 1 rows_most (rows_at s) (6 at place)
    ∷ present (pattern_head_size_at s + data_size_at s) (length s) (1 at place)
    ∷ []

-- What is found: the header's place and L, the data's place and S, and the pattern it reads as.
pub record PatternFound : Type 0 where
  pub place : ℕ
  pub head_size : ℕ
  pub data_place : ℕ
  pub data_size : ℕ
  pub content : Pattern

unfoldable pub read_pattern : (channels : ℕ) → Reader PatternFound
read_pattern channels place s = do
  let head_size = pattern_head_size_at s
  let data_size = data_size_at s
  checked (pattern_tests place s)
  (pattern, used) ← read_stored channels (rows_at s) (place + head_size) (part head_size data_size s)
  got (record { place = place; head_size = head_size; data_place = place + head_size; data_size = data_size; content = pattern }) (head_size + data_size)

-- "L = 9, packing type 0"
unfoldable pub write_pattern : Pattern → List ℕ
write_pattern p = flat (long least_pattern ∷ byte 0 ∷ word p.rows ∷ word (length (write_stored p)) ∷ write_stored p ∷ [])

-- "15 | packed pattern would exceed 65,535 bytes"
abbrev pub data_most : ℕ
data_most = 65535

pub record GoodStored (channels : ℕ) (p : Pattern) : Type 0 where
  pub pattern : GoodPattern channels p
  pub room : length (write_stored p) ≤ data_most

abbrev pub pattern_format : Format ℕ PatternFound Pattern
pattern_format = record {
  read = read_pattern;
  view = λ i. i.content;
  regions = λ i.
      record { kind = pattern_header; place = i.place; size = i.head_size }
      ∷ record { kind = pattern_data; place = i.data_place; size = i.data_size }
      ∷ [];
  Good = GoodStored;
  write = write_pattern;
}
