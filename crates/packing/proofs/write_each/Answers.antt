-- `packing::write_each` meets its contract: the cells that are left are still to be written. Assumes nothing.
use mathlib.Core.Path.{ap}
use lib.ListN.{drop_of_length-le}
use Rattle.xm.specs.Format.{joined}
use Rattle.xm.specs.Cell.{write_cell}
use Rattle.xm.proofs.Lay.{laid_done}
use Rattle.cell.proofs.WriteRuns.{writing_part}
use Rattle.packing.proofs.Lent.{left_first}
use Rattle.packing.proofs.write_each.Goals as goal

pub loop-cell-preserved : goal.loop-cell-preserved
loop-cell-preserved c =
    writing_part c.loop-cell.invariant (left_first c.args.cells.now c.loop-cell.cell-index c.loop-cell-test.true) _ _ c.write_cell-to.ensures.value
    c.write_cell-to.ensures.out_after

pub returns : goal.returns
returns c = laid_done c.loop-cell.invariant (ap (joined write_cell) (drop_of_length-le c.args.cells.now {i = c.loop-cell.cell-index} c.loop-cell-test.false))
