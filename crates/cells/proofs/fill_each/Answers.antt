-- `cells::fill_each` meets its contract: what is written so far and what is still to come make the whole. Assumes nothing.
use Prim.Native.Nat.{ℕ, ◌+◌, ◌-◌}
use mathlib.Core.Path.{ap}
use native.Mathlib.Omega.{arith}
use lib.ListN.{get_or}
use Rattle.xm.proofs.Cell.{length_some}
use Rattle.cell.specs.Read.{cell_fields}
use Rattle.cell.proofs.ReadLaws.{fields_of_lem}
use Rattle.cell.proofs.ReadRuns.{First, run_first}
use Rattle.cells.proofs.Fill.{filling_none, filling_more, filling_done}
use Rattle.cells.proofs.fill_each.Goals as goal
use Rattle.cells.proofs.fill_each.Goals.{In-loop}

first_cell : (c : In-loop) → First c.args.stored.now c.loop.at (c.args.count - c.loop.counter)
first_cell c =
    let l = c.loop in
    run_first c.args.stored.now l.at _ (omega arith) l.invariant.inside l.invariant.fine

pub loop-init : goal.loop-init
loop-init c =
    let a = c.args in
    filling_none a.stored.now a.from a.count c.requires.from_in_bounds c.requires.stored_value c.requires.cell_size_in_bounds (omega arith)

pub take_cell-cell-requires : goal.take_cell-cell-requires
take_cell-cell-requires c = (first_cell c).fits

pub bounds-stored-at : goal.bounds-stored-at
bounds-stored-at c =
    omega (arith, (first_cell (goal.at.bounds-stored-at c).In-loop).fits, length_some (get_or c.args.stored.now c.loop.at 0))

pub overflow_add-at : goal.overflow_add-at
overflow_add-at c = omega (arith, (first_cell (goal.at.overflow_add-at c).In-loop).fits, c.cell_length-at.ensures)

pub loop-preserved : goal.loop-preserved
loop-preserved c =
    filling_more c.loop.invariant (cell_fields c.take_cell-cell.result) c.put_plain.ensures (omega arith)
    (fields_of_lem _ c.take_cell-cell.ensures)
    (ap (λ (n : ℕ). c.loop.at + n) c.cell_length-at.ensures) (omega arith)

pub returns : goal.returns
returns c = filling_done c.loop.invariant (omega arith)
