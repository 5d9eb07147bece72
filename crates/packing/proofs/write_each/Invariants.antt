-- `packing::write_each` meets its contract: the cells that are left are still to be written. Assumes nothing.
use lib.ListN.{drop}
use Rattle.xm.specs.Format.{joined}
use Rattle.xm.specs.Cell.{write_cell}
use Rattle.xm.proofs.Lay.{Laid}
use Rattle.packing.proofs.write_each.Given as goal

abbrev pub invariant-loop-cell : goal.invariant-loop-cell
invariant-loop-cell l = Laid l.initial.out (joined write_cell l.cells) l.out l.to (joined write_cell (drop l.cell-index l.cells))
