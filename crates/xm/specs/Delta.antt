-- Samples: "Each stored number is a signed difference from the value before; before the first it is 0. Sums and differences wrap at 8
-- or 16 bits, and the values are signed, lent as 16-bit numbers."
use Rattle.std.specs.Prelude.{ℕ, suc, ◌+◌, ◌-◌, ◌*◌, ◌/◌, ◌%◌, ◌^◌, Bool, cond, ◌&&◌, ◌||◌, true, List, [], ◌∷◌, map, ltb, eqb, ℤ, pos, negsuc, length}
use Rattle.xm.specs.Number.{word, signed}
use Rattle.xm.specs.Got.{got, ◌>>◌, Test, checked, present, at_most, even, holds, when, ◌at◌}
use Rattle.xm.specs.Format.{joined}
use Rattle.xm.specs.Answer.{Answer, answered, behind, numbers, after, loader_number}
use Rattle.xm.specs.Module.{file_most}

-- "16-bit data are two bytes, low first": the stored numbers of some bytes, and the bytes of stored numbers.
unfoldable pub pairs : List ℕ → List ℕ
pairs [] = []
pairs (low ∷ []) = []
pairs (low ∷ high ∷ bytes) = (low + 256 * high) ∷ pairs bytes

unfoldable pub stored_numbers : (width : ℕ) → List ℕ → List ℕ
stored_numbers width bytes = cond (eqb width 16) (pairs bytes) bytes

unfoldable pub stored_bytes : (width : ℕ) → List ℕ → List ℕ
stored_bytes width stored = cond (eqb width 16) (joined word stored) stored

-- A decoded value is the signed reading of the sum of all stored numbers up to it, modulo 2^width.
unfoldable pub sums : (before : ℕ) → List ℕ → List ℕ
sums before [] = []
sums before (d ∷ ds) = (before + d) ∷ sums (before + d) ds

unfoldable pub decoded : (width : ℕ) → List ℕ → List ℤ
decoded width bytes = map (λ sum. signed width (sum % 2 ^ width)) (sums 0 (stored_numbers width bytes))

-- A value modulo 2^width, and the difference of one from the one before it.
unfoldable pub residue : (width : ℕ) → ℤ → ℕ
residue width (pos n) = n % 2 ^ width
residue width (negsuc n) = 2 ^ width - suc (n % 2 ^ width)

unfoldable pub difference : (width before value : ℕ) → ℕ
difference width before value = (value + (2 ^ width - before)) % 2 ^ width

unfoldable pub differences : (width before : ℕ) → List ℕ → List ℕ
differences width before [] = []
differences width before (v ∷ vs) = difference width before v ∷ differences width v vs

unfoldable pub coded : (width : ℕ) → List ℤ → List ℕ
coded width values = stored_bytes width (differences width 0 (map (residue width) values))

-- "a value outside -128..127 at 8"
abbrev pub fits : (width : ℕ) → ℤ → Bool
fits width (pos n) = ltb n (2 ^ width / 2)
fits width (negsuc n) = ltb n (2 ^ width / 2)

abbrev pub all_fit : (width : ℕ) → List ℤ → Bool
all_fit width [] = true
all_fit width (v ∷ vs) = fits width v && all_fit width vs

-- "Refusals, in order: width not 8 or 16 (16); reading an odd byte count at 16 (16); coding a value outside -128..127 at 8 (16);
-- room (14)."
abbrev pub width_test : (width : ℕ) → Test
width_test width = holds (eqb width 8 || eqb width 16) (16 at 0)

unfoldable pub decoding : (width : ℕ) (bytes : List ℕ) (room : ℕ) → Answer (List ℤ)
decoding width bytes room = answered (λ values used. values) (do
  checked (width_test width ∷ when (eqb width 16) (even (length bytes) (16 at 0)) ∷ present (length (decoded width bytes)) room (14 at 0) ∷ [])
  got (decoded width bytes) 0)

unfoldable pub coding : (width : ℕ) (values : List ℤ) (room : ℕ) → Answer (List ℕ)
coding width values room = answered (λ bytes used. bytes) (do
  checked (width_test width ∷ when (eqb width 8) (holds (all_fit 8 values) (16 at 0)) ∷ present (length (coded width values)) room (14 at 0) ∷ [])
  got (coded width values) 0)

-- "The answer reports how many values or bytes it wrote; what lies beyond stays."
abbrev pub count_written : {A : Type 0} → List A → ℕ
count_written xs = length xs

abbrev pub decode_numbers : (width : ℕ) (bytes : List ℕ) (room : ℕ) → List ℕ
decode_numbers width bytes room = numbers (count_written ∷ []) (decoding width bytes room)

abbrev pub decode_after : (width : ℕ) (bytes : List ℕ) (lent : List ℤ) → List ℤ
decode_after width bytes lent = after (λ values. values) (decoding width bytes (length lent)) lent

abbrev pub code_numbers : (width : ℕ) (values : List ℤ) (room : ℕ) → List ℕ
code_numbers width values room = numbers (count_written ∷ []) (coding width values room)

abbrev pub code_after : (width : ℕ) (values : List ℤ) (lent : List ℕ) → List ℕ
code_after width values lent = after (λ bytes. bytes) (coding width values (length lent)) lent

-- The loader's calls: so that no number can be read two ways, more than 16,777,216 bytes to decode or values to code get 16. The other causes of
-- 16 have the same place, so it does not matter which of them is tried first.
abbrev pub delta_most : ℕ
delta_most = file_most

abbrev pub limit_test : (most count : ℕ) → Test
limit_test most count = at_most most count (16 at 0)

abbrev pub decoding_limited : (width : ℕ) (bytes : List ℕ) (room : ℕ) → Answer (List ℤ)
decoding_limited width bytes room = behind (limit_test delta_most (length bytes)) (decoding width bytes room)

abbrev pub coding_limited : (width : ℕ) (values : List ℤ) (room : ℕ) → Answer (List ℕ)
coding_limited width values room = behind (limit_test delta_most (length values)) (coding width values room)

-- The loader's numbers, how many values and how many bytes, and the lent memory afterwards.
abbrev pub decode_loader : (width : ℕ) (bytes : List ℕ) (room : ℕ) → ℕ
decode_loader width bytes room = loader_number count_written (decoding_limited width bytes room)

abbrev pub decode_limited_after : (width : ℕ) (bytes : List ℕ) (lent : List ℤ) → List ℤ
decode_limited_after width bytes lent = after (λ values. values) (decoding_limited width bytes (length lent)) lent

abbrev pub code_loader : (width : ℕ) (values : List ℤ) (room : ℕ) → ℕ
code_loader width values room = loader_number count_written (coding_limited width values room)

abbrev pub code_limited_after : (width : ℕ) (values : List ℤ) (lent : List ℕ) → List ℕ
code_limited_after width values lent = after (λ bytes. bytes) (coding_limited width values (length lent)) lent
