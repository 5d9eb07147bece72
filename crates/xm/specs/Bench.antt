-- The bench pieces that are marked P, as one table: a piece says what goes in and what comes out. `worked` puts in what the
-- definitions give; the claim (proofs/Bench.antt) is that this changes no piece.
use Rattle.std.specs.Prelude.{ℕ, List, [], ◌∷◌, ℤ, pos, negsuc, length}
use Rattle.xm.specs.Got.{Refusal, ◌at◌}
use Rattle.xm.specs.Answer.{Answer, gives, refuses, number_of, place_of}
use Rattle.xm.specs.Cell.{cell_size, cell_most}
use Rattle.xm.specs.Stored.{write_stored}
use Rattle.xm.specs.Packing.{cell_bytes, unpacking, packing}
use Rattle.xm.specs.Delta.{decoding}
use Rattle.xm.specs.Adpcm.{adpcm_decoding}

pub data Piece : Type 0 where
  reads : (stored cell packed : List ℕ) → Piece
  gets : (stored : List ℕ) → Refusal → Piece
  packs : (cell packed : List ℕ) → Piece
  decodes : (width : ℕ) (bytes : List ℕ) (values : List ℤ) → Piece
  decodes_adpcm : (length : ℕ) (bytes : List ℕ) (values : List ℤ) → Piece

-- What an answer gives, as a list; nothing if it refuses.
abbrev pub answer_list : {A B : Type 0} → (A → List B) → Answer A → List B
answer_list f (gives a) = f a
answer_list f (refuses r) = []

-- "in one cell": one row and one channel, with room for a cell
abbrev pub unpacked : List ℕ → List ℕ
unpacked stored = answer_list cell_bytes (unpacking 1 1 stored cell_size)

abbrev pub packed_to : List ℕ → List ℕ
packed_to cell = answer_list write_stored (packing 1 1 cell cell_most)

abbrev pub answer_refusal : {A : Type 0} → Answer A → Refusal
answer_refusal answer = number_of answer at place_of answer

abbrev pub piece_worked : Piece → Piece
piece_worked (reads stored cell packed) = reads stored (unpacked stored) (packed_to (unpacked stored))
piece_worked (gets stored r) = gets stored (answer_refusal (unpacking 1 1 stored cell_size))
piece_worked (packs cell packed) = packs cell (packed_to cell)
piece_worked (decodes width bytes values) = decodes width bytes (answer_list (λ vs. vs) (decoding width bytes (length bytes)))
piece_worked (decodes_adpcm count bytes values) = decodes_adpcm count bytes (answer_list (λ vs. vs) (adpcm_decoding count bytes count))

-- Document 001's ADPCM example: "The contents of the compression table are almost always the same", then the indexes of 14 values.
abbrev example : List ℕ
example =
    0x00 ∷ 0x01 ∷ 0x02 ∷ 0x04 ∷ 0x08 ∷ 0x10 ∷ 0x20 ∷ 0x40 ∷ 0xFF ∷ 0xFE ∷ 0xFC ∷ 0xF8 ∷ 0xF0 ∷ 0xE0 ∷ 0xD0 ∷ 0xC0
    ∷ 0x00 ∷ 0x08 ∷ 0x00 ∷ 0x18 ∷ 0x31 ∷ 0x02 ∷ 0x81 ∷ []

abbrev example_values : List ℤ
example_values = pos 0 ∷ pos 0 ∷ negsuc 0 ∷ negsuc 0 ∷ negsuc 0 ∷ negsuc 0 ∷ negsuc 1 ∷ negsuc 0 ∷ pos 0 ∷ pos 4 ∷ pos 6 ∷ pos 6 ∷ pos 7 ∷ pos 6 ∷ []

-- "a pattern of one empty cell packs to no bytes, not to 80"; "P 81 62 and P 62 00 00 00 00 now read as cells"; "a full cell may take six
-- bytes".
abbrev pub pieces : List Piece
pieces =
    reads (0x83 ∷ 0x01 ∷ 0x01 ∷ []) (0x01 ∷ 0x01 ∷ 0x00 ∷ 0x00 ∷ 0x00 ∷ []) (0x83 ∷ 0x01 ∷ 0x01 ∷ [])
    ∷ packs (0x01 ∷ 0x01 ∷ 0x00 ∷ 0x05 ∷ 0x1F ∷ []) (0x9B ∷ 0x01 ∷ 0x01 ∷ 0x05 ∷ 0x1F ∷ [])
    ∷ reads (0x80 ∷ []) (0x00 ∷ 0x00 ∷ 0x00 ∷ 0x00 ∷ 0x00 ∷ []) []
    ∷ reads (0xE0 ∷ []) (0x00 ∷ 0x00 ∷ 0x00 ∷ 0x00 ∷ 0x00 ∷ []) []
    ∷ reads [] (0x00 ∷ 0x00 ∷ 0x00 ∷ 0x00 ∷ 0x00 ∷ []) []
    ∷ packs (0x31 ∷ 0x02 ∷ 0x40 ∷ 0x0F ∷ 0x06 ∷ []) (0x31 ∷ 0x02 ∷ 0x40 ∷ 0x0F ∷ 0x06 ∷ [])
    ∷ reads (0x00 ∷ 0x01 ∷ 0x40 ∷ 0x0A ∷ 0x0F ∷ []) (0x00 ∷ 0x01 ∷ 0x40 ∷ 0x0A ∷ 0x0F ∷ []) (0x9E ∷ 0x01 ∷ 0x40 ∷ 0x0A ∷ 0x0F ∷ [])
    ∷ reads (0x81 ∷ 0x61 ∷ []) (97 ∷ 0x00 ∷ 0x00 ∷ 0x00 ∷ 0x00 ∷ []) (0x81 ∷ 0x61 ∷ [])
    ∷ reads (0x81 ∷ 0x62 ∷ []) (98 ∷ 0x00 ∷ 0x00 ∷ 0x00 ∷ 0x00 ∷ []) (0x81 ∷ 0x62 ∷ [])
    ∷ reads (0x62 ∷ 0x00 ∷ 0x00 ∷ 0x00 ∷ 0x00 ∷ []) (98 ∷ 0x00 ∷ 0x00 ∷ 0x00 ∷ 0x00 ∷ []) (0x81 ∷ 0x62 ∷ [])
    ∷ packs (0xFF ∷ 0x01 ∷ 0x40 ∷ 0x0A ∷ 0x0F ∷ []) (0x9F ∷ 0xFF ∷ 0x01 ∷ 0x40 ∷ 0x0A ∷ 0x0F ∷ [])
    ∷ gets (0x83 ∷ 0x01 ∷ []) (7 at 0)
    ∷ gets (0x80 ∷ 0x80 ∷ []) (8 at 1)
    ∷ decodes 8 (0x00 ∷ 0x01 ∷ 0xFF ∷ 0x02 ∷ 0x01 ∷ 0xFE ∷ []) (pos 0 ∷ pos 1 ∷ pos 0 ∷ pos 2 ∷ pos 3 ∷ pos 1 ∷ [])
    ∷ decodes 8 (0x7F ∷ 0x01 ∷ []) (pos 127 ∷ negsuc 127 ∷ [])
    ∷ decodes 16 (0xFF ∷ 0x7F ∷ 0x01 ∷ 0x00 ∷ []) (pos 32767 ∷ negsuc 32767 ∷ [])
    ∷ decodes_adpcm 14 example example_values
    ∷ decodes_adpcm 13 example (pos 0 ∷ pos 0 ∷ negsuc 0 ∷ negsuc 0 ∷ negsuc 0 ∷ negsuc 0 ∷ negsuc 1 ∷ negsuc 0 ∷ pos 0 ∷ pos 4 ∷ pos 6 ∷ pos 6 ∷ pos 7 ∷ [])
    ∷ []
