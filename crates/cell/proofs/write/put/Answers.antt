-- `cell::write::put` meets its contract: a field that is 0 is not kept, and any other is one byte. Assumes nothing.
use mathlib.Core.Path.{sym, ap, ◌∙◌}
use native.Mathlib.Omega.{arith}
use Rattle.xm.specs.Lay.{lay}
use Rattle.xm.proofs.Cell.{bit_some, kept_none, kept_some}
use Rattle.xm.proofs.Lay.{lay_none, lay_one}
use Rattle.cell.proofs.write.put.Goals as goal

pub returns-then-field-eq0-clause-out_after : goal.returns-then-field-eq0-clause-out_after
returns-then-field-eq0-clause-out_after c =
    let a = c.args in sym (ap (lay a.out.now a.place) (kept_none a.field c.if-field-eq0.true) ∙ lay_none a.out.now a.place)

pub returns-clause-out_after : goal.returns-clause-out_after
returns-clause-out_after c =
    let a = c.args in
    let one = bit_some a.field c.if-field-eq0.false in
    lay_one a.out.now a.place a.field (omega arith) ∙ sym (ap (lay a.out.now a.place) (kept_some a.field c.if-field-eq0.false))
