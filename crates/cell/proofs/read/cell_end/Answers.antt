-- `cell::read::cell_end` meets its contract: behind its last field a cell ends. Assumes nothing.
use Rattle.cell.proofs.ReadLaws.{fields_end_lem}
use Rattle.cell.proofs.read.cell_end.Goals as goal

pub returns : goal.returns
returns c =
    let f = c.fields_of.ensures in
    fields_end_lem f.note f.instrument f.volume f.effect f.parameter c.next_field.ensures
