-- `packing::measure_cells` meets its contract: each cell adds its length. Assumes nothing.
use mathlib.Core.List.{[]}
use native.Mathlib.Omega.{arith}
use lib.ListN.{get_or}
use Rattle.xm.proofs.Cell.{kepts_most}
use Rattle.xm.proofs.Stored.{cells_most_lem}
use Rattle.packing.proofs.Lent.{fives, measured}
use Rattle.packing.proofs.measure_cells.Goals as goal

pub shortest_by-shortest-requires : goal.shortest_by-shortest-requires
shortest_by-shortest-requires c =
    let i = c.loop-cell.cell-index in
    omega (arith, c.kept_in.ensures, kepts_most (get_or c.args.cells.now i []), c.told-cells i c.loop-cell-test.true)

pub loop-cell-preserved : goal.loop-cell-preserved
loop-cell-preserved c =
    let i = c.loop-cell.cell-index in
    measured c.args.cells.now i c.loop-cell-test.true (c.told-cells i c.loop-cell-test.true) c.loop-cell.shortest c.loop-cell.invariant c.kept_in.ensures c.shortest_by-shortest.ensures

pub overflow_add-shortest : goal.overflow_add-shortest
overflow_add-shortest c =
    let cells = c.args.cells.now in
    let i = c.loop-cell.cell-index in
    omega (
      arith,
      measured cells i c.loop-cell-test.true (c.told-cells i c.loop-cell-test.true) c.loop-cell.shortest c.loop-cell.invariant c.kept_in.ensures c.shortest_by-shortest.ensures,
      cells_most_lem cells (fives cells c.told-cells),
    )
