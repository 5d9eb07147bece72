-- The wrong presses are ruled out: what each writes reads as the song, and the press writes fewer bytes. By computation. Assumes nothing.
use Prim.Native.Nat.{ℕ}
use mathlib.Core.List.{[], ◌∷◌, map}
use mathlib.Core.Path.{◌≡◌, refl}
use lib.Count.{ones, ones_in}
use lib.ListN.{get_or}
use Rattle.xm.specs.Number.{word_at, long_at}
use Rattle.xm.specs.ModuleKind.{normal, padded}
use Rattle.xm.specs.Got.{◌>>=◌, ◌>>◌, ensure, checked}
use Rattle.xm.specs.Cell.{length_by, fields_by, cell_at, read_cell, kept, marks, kepts, marked, stands_plain, plain_shorter, plain_by, goes_plain, write_cell}
use Rattle.xm.specs.Stored.{read_cells, read_stored, all_zero, needs_no_data, write_stored}
use Rattle.xm.specs.Header.{kind_at, restart_inside, restart_of, read_header, write_header}
use Rattle.xm.specs.PatternInFile.{read_pattern, write_pattern}
use Rattle.xm.specs.Sample.{data_size, read_head, read_data}
use Rattle.xm.specs.Instrument.{read_instrument, write_voice, write_instrument}
use Rattle.xm.specs.Module.{read_whole}
use Rattle.xm.specs.Press.{pressed}
use Rattle.xm.specs.Wrong.{song, wrong_files, silence, in_cells, with_tempo, forgetful, typed, reads_as}

pub wrong_longer :
    (map reads_as (pressed normal song ∷ wrong_files) ≡ (song ∷ [], 662) ∷ (song ∷ [], 665) ∷ (song ∷ [], 664) ∷ (song ∷ [], 663) ∷ [])
    × (map reads_as (pressed normal silence ∷ in_cells ∷ []) ≡ (silence ∷ [], 658) ∷ (silence ∷ [], 722) ∷ [])
unfolding read_whole ◌>>=◌ ◌>>◌ ensure checked kind_at restart_inside restart_of read_header write_header read_pattern write_pattern read_stored read_cells read_cell
    cell_at fields_by length_by ones ones_in write_stored needs_no_data all_zero write_cell goes_plain plain_by stands_plain plain_shorter marked kepts marks kept read_head
    read_data read_instrument write_voice write_instrument word_at long_at padded data_size
wrong_longer = (refl, refl)

-- One file for two songs: they differ in the tempo, and the press that forgets it gives the same bytes of both
pub forgets : (forgetful song ≡ forgetful (with_tempo 3 song)) × (song.0.tempo ≡ 6)
forgets = (refl, refl)

-- Two files for one song: each reads as it and would be written as it stands, with its own byte at 340
pub keeps_type : (map (λ (type : ℕ). reads_as (typed type)) (0 ∷ 1 ∷ []) ≡ (song ∷ [], 662) ∷ (song ∷ [], 662) ∷ [])
    × (map (λ (type : ℕ). get_or (typed type) 340 9) (0 ∷ 1 ∷ []) ≡ 0 ∷ 1 ∷ [])
unfolding read_whole ◌>>=◌ ◌>>◌ ensure checked kind_at restart_inside restart_of read_header write_header read_pattern write_pattern read_stored read_cells read_cell
    cell_at fields_by length_by ones ones_in write_stored needs_no_data all_zero write_cell goes_plain plain_by stands_plain plain_shorter marked kepts marks kept read_head
    read_data read_instrument write_voice write_instrument word_at long_at padded data_size
keeps_type = (refl, refl)
