-- ADPCM samples, of kind AD: "if the length is above 0, a 16-byte table of deltas is followed by (length + 1) / 2 bytes, rounded down, of
-- two 4-bit indexes each, low half first (document 001). The values are 8-bit running sums of the chosen deltas, exactly as many as the
-- length says." The sizes stand in Sample, with the header that says them.
use Rattle.std.specs.Prelude.{ℕ, ◌*◌, ◌/◌, ◌%◌, cond, List, [], ◌∷◌, map, eqb, ℤ, length, take, drop}
use Rattle.xm.specs.Number.{byte_at}
use Rattle.xm.specs.Got.{got, ◌>>◌, checked, present, exactly, ◌at◌}
use Rattle.xm.specs.Answer.{Answer, answered, behind, numbers, after, loader_number}
use Rattle.xm.specs.Sample.{length_of, width_of, adpcm, is_adpcm, delta_table, adpcm_size}
use Rattle.xm.specs.Module.{file_most}
use Rattle.xm.specs.Delta.{decoded, decoding, count_written, limit_test}

-- The indexes in some bytes, "low half first".
unfoldable pub halves : List ℕ → List ℕ
halves [] = []
halves (b ∷ bytes) = (b % 16) ∷ (b / 16) ∷ halves bytes

-- The deltas that the first `count` indexes choose: "At an odd length the last high half is unused".
unfoldable pub chosen : (count : ℕ) (bytes : List ℕ) → List ℕ
chosen count bytes = map (λ index. byte_at index bytes) (take count (halves (drop delta_table bytes)))

-- "8-bit running sums": the chosen deltas are decoded as stored differences are.
unfoldable pub adpcm_decoded : (count : ℕ) (bytes : List ℕ) → List ℤ
adpcm_decoded count bytes = decoded 8 (chosen count bytes)

-- "decoding refuses a byte count that doesn't fit the length (16), then room (14)"; `count` is the header's length.
unfoldable pub adpcm_decoding : (count : ℕ) (bytes : List ℕ) (room : ℕ) → Answer (List ℤ)
adpcm_decoding count bytes room = answered (λ values used. values) (do
  checked (exactly (adpcm_size count) (length bytes) (16 at 0) ∷ present (length (adpcm_decoded count bytes)) room (14 at 0) ∷ [])
  got (adpcm_decoded count bytes) 0)

abbrev pub adpcm_numbers : (count : ℕ) (bytes : List ℕ) (room : ℕ) → List ℕ
adpcm_numbers count bytes room = numbers (count_written ∷ []) (adpcm_decoding count bytes room)

abbrev pub adpcm_after : (count : ℕ) (bytes : List ℕ) (lent : List ℤ) → List ℤ
adpcm_after count bytes lent = after (λ values. values) (adpcm_decoding count bytes (length lent)) lent

-- The loader's call: a length above 33,554,432, which no file has the bytes for, gets 16, so that no number can be read two ways. A byte count
-- that doesn't fit gets the same, so it does not matter which of the two is tried first.
abbrev pub adpcm_most : ℕ
adpcm_most = 2 * file_most

abbrev pub adpcm_limited : (count : ℕ) (bytes : List ℕ) (room : ℕ) → Answer (List ℤ)
adpcm_limited count bytes room = behind (limit_test adpcm_most count) (adpcm_decoding count bytes room)

abbrev pub adpcm_loader : (count : ℕ) (bytes : List ℕ) (room : ℕ) → ℕ
adpcm_loader count bytes room = loader_number count_written (adpcm_limited count bytes room)

abbrev pub adpcm_limited_after : (count : ℕ) (bytes : List ℕ) (lent : List ℤ) → List ℤ
adpcm_limited_after count bytes lent = after (λ values. values) (adpcm_limited count bytes (length lent)) lent

-- A sample's data are decoded by what its header says: the kind, the length, the width. And its values.
abbrev pub decoding_by : (kind count width : ℕ) (bytes : List ℕ) (room : ℕ) → Answer (List ℤ)
decoding_by kind count width bytes room = cond (eqb kind adpcm) (adpcm_decoding count bytes room) (decoding width bytes room)

unfoldable pub values_of : (head bytes : List ℕ) → List ℤ
values_of head bytes = cond (is_adpcm head) (adpcm_decoded (length_of head) bytes) (decoded (width_of head) bytes)
