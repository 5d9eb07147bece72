-- `cell::read::take_over` meets its contract: each field at its place, which lies inside six bytes. Assumes nothing.
use Rattle.cell.proofs.ReadLaws.{fields_lem}
use Rattle.cell.proofs.read.take_over.Goals as goal

pub returns : goal.returns
returns c =
    fields_lem c.args.place c.args.stored.now c.fields_of-fields.ensures c.field_over.ensures c.field_over-2.ensures c.field_over-3.ensures
    c.field_over-4.ensures c.field_over-5.ensures
