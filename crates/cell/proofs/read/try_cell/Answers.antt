-- `cell::read::try_cell` meets its contract: the two answers of reading a cell. Assumes nothing.
use mathlib.Core.Path.{sym, ap}
use native.Mathlib.Omega.{arith}
use lib.ListN.{get_or}
use Rattle.xm.proofs.Cell.{length_some}
use Rattle.refusal.specs.Refusal.{place_step}
use Rattle.cell.proofs.ReadLaws.{read_short_at, read_got_at}
use Rattle.cell.proofs.read.try_cell.Goals as goal

pub returns-then-left-eq0 : goal.returns-then-left-eq0
returns-then-left-eq0 c =
    let a = c.args in
    rw c.at.ensures
    (sym (ap (place_step a.place) (read_short_at a.place a.stored.now (omega (arith, length_some (get_or a.stored.now a.place 0))))))

pub returns-then-left-used : goal.returns-then-left-used
returns-then-left-used c =
    let a = c.args in
    rw c.at-then-left-used.ensures
    (sym (ap (place_step a.place) (read_short_at a.place a.stored.now (omega (arith, c.cell_length-used.ensures)))))

pub returns : goal.returns
returns c =
    let a = c.args in
    rw c.cell_length-used.ensures
    (sym (ap (place_step a.place) (read_got_at a.place a.stored.now (omega (arith, c.cell_length-used.ensures, c.requires)))))
