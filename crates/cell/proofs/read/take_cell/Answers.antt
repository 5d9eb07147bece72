-- `cell::read::take_cell` meets its contract: each field at its place, which lies inside the cell. Assumes nothing.
use native.Mathlib.Omega.{arith}
use lib.ListN.{length, get_or}
use Rattle.xm.proofs.Cell.{length_some}
use Rattle.cell.proofs.ReadLaws.{Inside, fields_inside, fields_lem}
use Rattle.cell.proofs.read.take_cell.Goals as goal
use Rattle.cell.proofs.read.take_cell.Goals.{After-fields_of-fields}

inside : (c : After-fields_of-fields) → Inside c.fields_of-fields.result (length c.args.stored.now)
inside c = fields_inside c.args.place c.args.stored.now c.fields_of-fields.ensures c.requires

pub bounds-stored-place : goal.bounds-stored-place
bounds-stored-place c = let a = c.args in omega (arith, length_some (get_or a.stored.now a.place 0))

pub field_at-requires : goal.field_at-requires
field_at-requires c = (inside (goal.at.field_at-requires c).After-fields_of-fields).note

pub field_at-requires-2 : goal.field_at-requires-2
field_at-requires-2 c = (inside (goal.at.field_at-requires-2 c).After-fields_of-fields).instrument

pub field_at-requires-3 : goal.field_at-requires-3
field_at-requires-3 c = (inside (goal.at.field_at-requires-3 c).After-fields_of-fields).volume

pub field_at-requires-4 : goal.field_at-requires-4
field_at-requires-4 c = (inside (goal.at.field_at-requires-4 c).After-fields_of-fields).effect

pub field_at-requires-5 : goal.field_at-requires-5
field_at-requires-5 c = (inside (goal.at.field_at-requires-5 c).After-fields_of-fields).parameter

pub returns : goal.returns
returns c =
    fields_lem c.args.place c.args.stored.now c.fields_of-fields.ensures c.field_at.ensures c.field_at-2.ensures c.field_at-3.ensures
    c.field_at-4.ensures c.field_at-5.ensures
