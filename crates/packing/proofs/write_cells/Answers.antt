-- `packing::write_cells` meets its contract: the cells that are left are still to be written. Assumes nothing.
use Prim.Native.Nat.{ℕ, ◌+◌, ◌≤◌, ◌<◌}
use mathlib.Core.Path.{◌≡◌, sym, ap, ◌∙◌}
use mathlib.Core.List.{List, [], ◌∷◌}
use native.Mathlib.Omega.{arith}
use lib.ListN.{length, get_or, drop, length-drop}
use lib.Seq.{get_or-take}
use Rattle.xm.specs.Format.{joined}
use Rattle.xm.specs.Cell.{write_cell}
use Rattle.xm.proofs.Run.{cells_least}
use Rattle.xm.proofs.Lay.{part_all, laid_last}
use Rattle.cell.specs.Over.{over_most}
use Rattle.cell.proofs.WriteLaws.{empty_written}
use Rattle.cell.proofs.WriteRuns.{writing_over, writing_empty}
use Rattle.packing.proofs.Lent.{fives, fives_left, left_first}
use Rattle.packing.proofs.write_cells.Goals as goal
use Rattle.packing.proofs.write_cells.Goals.{In-loop-cell, After-weight, Then-weight-eq0}

-- Five stand behind this one
some : (c : In-loop-cell) → c.loop-cell.cell-index + 5 < length c.args.cells.now
some c = omega (arith, c.loop-cell-test.true, c.split_at.ensures.front_len, c.saturating_sub.ensures)

first : (c : In-loop-cell)
    → drop c.loop-cell.cell-index c.args.cells.now ≡ get_or c.split_at.result.0.now c.loop-cell.cell-index [] ∷ drop (c.loop-cell.cell-index + 1) c.args.cells.now
first c =
    let cells = c.args.cells.now in
    let i = c.loop-cell.cell-index in
    let here = ap (λ (most : List (List ℕ)). get_or most i []) c.split_at.ensures.front
    ∙ get_or-take c.saturating_sub.result cells i [] (omega (arith, c.loop-cell-test.true, c.split_at.ensures.front_len)) in
    left_first cells i (omega (arith, some c)) ∙ ap (λ (cell : List ℕ). cell ∷ drop (i + 1) cells) (sym here)

-- so there is more to write than a cell takes
more : (c : In-loop-cell) → over_most ≤ length (joined write_cell (drop c.loop-cell.cell-index c.args.cells.now))
more c =
    let cells = c.args.cells.now in
    let i = c.loop-cell.cell-index in
    omega (arith, cells_least (drop i cells) (fives_left i cells (fives cells c.told-cells)), length-drop i cells, some c)

empty : (c : Then-weight-eq0) → write_cell (get_or c.split_at.result.0.now c.loop-cell.cell-index []) ≡ 128 ∷ []
empty c = ap write_cell (c.weight.ensures c.if-weight-eq0.true) ∙ empty_written

pub bounds-out-to : goal.bounds-out-to
bounds-out-to c = omega (arith, more (goal.at.bounds-out-to c).In-loop-cell, c.loop-cell.invariant.room)

pub loop-cell-preserved-then-weight-eq0 : goal.loop-cell-preserved-then-weight-eq0
loop-cell-preserved-then-weight-eq0 c =
    writing_empty c.loop-cell.invariant (first (goal.at.loop-cell-preserved-then-weight-eq0 c).In-loop-cell)
    (empty (goal.at.loop-cell-preserved-then-weight-eq0 c).Then-weight-eq0)

pub write_over-to-requires : goal.write_over-to-requires
write_over-to-requires c =
    let l = c.loop-cell in
    rw (part_all l.to l.out) (omega (arith, more (goal.at.write_over-to-requires c).In-loop-cell, l.invariant.room, length-drop l.to l.out))

pub loop-cell-preserved : goal.loop-cell-preserved
loop-cell-preserved c =
    writing_over c.loop-cell.invariant (first (goal.at.loop-cell-preserved c).In-loop-cell) _ _ c.write_over-to.ensures.value
    (more (goal.at.loop-cell-preserved c).In-loop-cell) c.write_over-to.ensures.over c.write_over-to.auto.out

pub returns : goal.returns
returns c =
    let cells = c.args.cells.now in
    let all : c.loop-cell.cell-index ≡ c.saturating_sub.result = omega (arith, c.loop-cell-test.false, c.loop-cell.auto.cell-index-end, c.split_at.ensures.front_len) in
    laid_last c.loop-cell.invariant (ap (joined write_cell) (ap (λ (n : ℕ). drop n cells) all ∙ sym c.split_at.ensures.back)) c.write_each.ensures
