-- The worked files of stripped modules come out as the table says: one claim, by computation. Assumes nothing.
use mathlib.Core.List.{map}
use mathlib.Core.Path.{◌≡◌, refl}
use Rattle.xm.specs.Number.{word_at, long_at}
use Rattle.xm.specs.ModuleKind.{padded, before, trimmed}
use Rattle.xm.specs.Got.{◌>>=◌, ◌>>◌, ensure, checked}
use Rattle.xm.specs.Stored.{read_stored, all_zero, needs_no_data, write_stored}
use Rattle.xm.specs.Header.{kind_at, restart_inside, restart_of, read_header, write_header}
use Rattle.xm.specs.PatternInFile.{read_pattern, write_pattern}
use Rattle.xm.specs.Sample.{data_size, read_head, read_data, smallest_head}
use Rattle.xm.specs.Instrument.{read_instrument, write_voice, write_fields, write_instrument}
use Rattle.xm.specs.Module.{read_whole}
use Rattle.xm.specs.Table.{checking}
use Rattle.xm.specs.Structure.{hand_over, started}
use Rattle.xm.specs.Press.{pressing_as}
use Rattle.xm.specs.Convert.{converting}
use Rattle.xm.specs.Worked.{done, cases}

pub worked : map done cases ≡ cases
unfolding checking hand_over started pressing_as converting read_whole ◌>>=◌ ◌>>◌ ensure checked kind_at restart_inside restart_of read_header write_header
    read_pattern write_pattern read_stored all_zero needs_no_data write_stored data_size read_head read_data smallest_head read_instrument write_voice write_fields
    write_instrument word_at long_at padded before trimmed
worked = refl
