-- `packing::measure_cells` meets its contract: each cell adds its length. Assumes nothing.
use Prim.Native.Nat.{◌+◌}
use mathlib.Core.Path.{◌≡◌}
use lib.ListN.{length, drop}
use Rattle.xm.specs.Format.{joined}
use Rattle.xm.specs.Cell.{write_cell}
use Rattle.packing.proofs.measure_cells.Given as goal

abbrev pub invariant-loop-cell : goal.invariant-loop-cell
invariant-loop-cell l = l.shortest + length (joined write_cell (drop l.cell-index l.cells)) ≡ length (joined write_cell l.cells)
