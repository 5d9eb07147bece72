-- Numbers in bytes: "Numbers are little-endian; offsets in bytes." What is read past the end of a list is 0.
use Rattle.std.specs.Prelude.{ℕ, suc, ◌+◌, ◌-◌, ◌*◌, ◌/◌, ◌%◌, ◌^◌, ◌<◌, cond, List, [], ◌∷◌, ltb, ℤ, pos, negsuc, get_or, take, drop}

-- Every element is a byte.
pub record Bytes (s : List ℕ) : Type 0 where
  pub below : (i : ℕ) → get_or s i 0 < 256

-- The number of one, two and four bytes at an offset, and some bytes as they stand.
abbrev pub byte_at : ℕ → List ℕ → ℕ
byte_at offset s = get_or s offset 0

unfoldable pub word_at : ℕ → List ℕ → ℕ
word_at offset s = get_or s offset 0 + 256 * get_or s (offset + 1) 0

unfoldable pub long_at : ℕ → List ℕ → ℕ
long_at offset s = get_or s offset 0 + 256 * get_or s (offset + 1) 0 + 65536 * get_or s (offset + 2) 0 + 16777216 * get_or s (offset + 3) 0

abbrev pub part : ℕ → ℕ → List ℕ → List ℕ
part offset size s = take size (drop offset s)

-- The bytes of a number.
abbrev pub byte : ℕ → List ℕ
byte x = x ∷ []

abbrev pub word : ℕ → List ℕ
word x = (x % 256) ∷ (x / 256) ∷ []

abbrev pub long : ℕ → List ℕ
long x = (x % 256) ∷ (x / 256 % 256) ∷ (x / 65536 % 256) ∷ (x / 16777216) ∷ []

-- A number of `width` bits read as signed: from half of all values on, the number less all values. So byte 80 hex is -128.
unfoldable pub signed : ℕ → ℕ → ℤ
signed width x = cond (ltb x (2 ^ width / 2)) (pos x) (negsuc (2 ^ width - suc x))
