-- The bench pieces that are marked P hold: one table under one claim, by computation. Assumes nothing.
use mathlib.Core.List.{map}
use mathlib.Core.Path.{◌≡◌, refl}
use lib.Count.{ones, ones_in}
use Rattle.xm.specs.Number.{signed}
use Rattle.xm.specs.Got.{◌>>=◌, ◌>>◌, ensure, checked}
use Rattle.xm.specs.Cell.{length_by, fields_by, cell_at, read_cell, kept, marks, kepts, marked, stands_plain, plain_shorter, plain_by, goes_plain, write_cell}
use Rattle.xm.specs.Stored.{read_cells, read_stored, all_zero, needs_no_data, write_stored, cells_of}
use Rattle.xm.specs.Packing.{unpacking, packing}
use Rattle.xm.specs.Delta.{pairs, stored_numbers, sums, decoded, decoding}
use Rattle.xm.specs.Adpcm.{halves, chosen, adpcm_decoded, adpcm_decoding}
use Rattle.xm.specs.Bench.{piece_worked, pieces}

pub bench : map piece_worked pieces ≡ pieces
unfolding unpacking packing decoding adpcm_decoding adpcm_decoded chosen halves ◌>>=◌ ◌>>◌ ensure checked read_stored read_cells read_cell cell_at fields_by length_by
    ones ones_in write_stored needs_no_data all_zero write_cell goes_plain plain_by stands_plain plain_shorter marked kepts marks kept cells_of decoded stored_numbers
    pairs sums signed
bench = refl
