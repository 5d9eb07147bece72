-- `packing::pack` meets its contract: each exit by its law, from what the first pass found. Assumes nothing.
use Prim.Native.Nat.{ℕ, ◌*◌, ◌/◌}
use mathlib.Core.List.{List}
use mathlib.Core.Path.{◌≡◌, sym, ap, ◌∙◌}
use native.Mathlib.Omega.{arith}
use lib.ListN.{length}
use Rattle.std.specs.Prelude.{Err}
use Rattle.std.specs.Simd.{first_chunks}
use Rattle.xm.specs.Format.{joined}
use Rattle.xm.specs.Cell.{write_cell}
use Rattle.xm.specs.Stored.{cells_of}
use Rattle.xm.specs.Got.{AllHold}
use Rattle.xm.specs.Packing.{argument_tests}
use Rattle.xm.proofs.Got.{no_true, all_pass_lem, all_hold}
use Rattle.xm.proofs.Packing.{PackRange}
use Rattle.cell.proofs.ReadRuns.{count_most}
use Rattle.packing.proofs.Lent.{chunks_cells}
use Rattle.packing.proofs.Exits.{form_path, CellsSized, sized, sized_cells, packs_argument, packs_large, packs_narrow, packs-nothing, packs_cells}
use Rattle.packing.proofs.pack.Goals as goal
use Rattle.packing.proofs.pack.Goals.{After-as_chunks, Else-not-in_range, Else-cells-count, After-stored_size-size}

-- Rows and channels are in range, and so are the cell bytes
held : (c : Else-not-in_range) → (let a = c.args in AllHold (argument_tests a.rows a.channels))
held c = all_hold _ (sym c.in_range.ensures ∙ c.if-not-in_range.false)

range : (c : Else-cells-count) → (let a = c.args in PackRange a.rows a.channels a.cells.now)
range c = let h = held (goal.at.Else-cells-count c).Else-not-in_range in (h.0, (h.1.0, (omega arith, tt)))

-- The lent bytes in cells
cells : (c : After-as_chunks) → (let a = c.args in c.as_chunks.result.0.now ≡ cells_of (a.rows * a.channels) a.cells.now)
cells c =
    let a = c.args in
    let size : length a.cells.now ≡ a.rows * a.channels * 5 = omega arith in
    let n : length a.cells.now / 5 ≡ a.rows * a.channels = omega arith in
    c.as_chunks.ensures.front ∙ ap (λ (n : ℕ). first_chunks 5 n a.cells.now) n ∙ chunks_cells (a.rows * a.channels) a.cells.now (omega arith)

-- What the first pass found out
found : (c : After-stored_size-size)
    → (let a = c.args in
    CellsSized a.rows a.channels a.cells.now c.stored_size-size.result)
found c =
    sized _ _ _ (range (goal.at.After-stored_size-size c).Else-cells-count) (omega arith)
    (c.measure_cells-shortest.ensures.exact (omega arith) ∙ ap (λ (l : List (List ℕ)). length (joined write_cell l)) (cells (goal.at.After-stored_size-size c).After-as_chunks))
    c.stored_size-size.ensures

pub returns-then-not-in_range : goal.returns-then-not-in_range
returns-then-not-in_range c =
    let both = packs_argument _ _ _ _ (ap Err c.at.ensures)
    (λ h. no_true (sym c.if-not-in_range.true ∙ c.in_range.ensures ∙ all_pass_lem _ (h.0, (h.1.0, tt)))) in
    record { value = both.0; out_after = both.1 }

pub overflow_mul-count : goal.overflow_mul-count
overflow_mul-count c = omega (arith, count_most _ _ (held c))

pub overflow_mul-count-2 : goal.overflow_mul-count-2
overflow_mul-count-2 c = omega (arith, count_most _ _ (held c))

pub returns-then-cells-count : goal.returns-then-cells-count
returns-then-cells-count c =
    let both = packs_argument _ _ _ _ (ap Err c.at-then-cells-count.ensures) (λ h. c.if-cells-count.true h.1.1.0) in
    record { value = both.0; out_after = both.1 }

pub measure_cells-shortest-requires : goal.measure_cells-shortest-requires
measure_cells-shortest-requires c = omega (arith, c.as_chunks.ensures.front_len, count_most _ _ (held (goal.at.measure_cells-shortest-requires c).Else-not-in_range))

pub returns-then-shortest-gt65535 : goal.returns-then-shortest-gt65535
returns-then-shortest-gt65535 c =
    let both = packs_large _ _ _ _ (range (goal.at.returns-then-shortest-gt65535 c).Else-cells-count) (ap Err c.at-then-shortest-gt65535.ensures) (rw (cells (goal.at.returns-then-shortest-gt65535 c).After-as_chunks) at (c.measure_cells-shortest.ensures.above (omega arith))) in
    record { value = both.0; out_after = both.1 }

pub returns-then-out-size : goal.returns-then-out-size
returns-then-out-size c =
    let both = packs_narrow _ _ _ _ (found (goal.at.returns-then-out-size c).After-stored_size-size) (ap Err c.at-then-out-size.ensures) (omega arith) in
    record { value = both.0; out_after = both.1 }

pub write_cells-requires : goal.write_cells-requires
write_cells-requires c =
    rw (cells (goal.at.write_cells-requires c).After-as_chunks) (omega (arith, sized_cells (found (goal.at.write_cells-requires c).After-stored_size-size) (omega arith)))

pub returns-then-size-gt0 : goal.returns-then-size-gt0
returns-then-size-gt0 c =
    let f = found (goal.at.returns-then-size-gt0 c).After-stored_size-size in
    let both = packs_cells _ _ _ _ f (form_path (omega arith) (omega arith)) (omega arith) (omega arith) _ (rw (cells (goal.at.returns-then-size-gt0 c).After-as_chunks) at c.write_cells.ensures) in
    record { value = both.0; out_after = both.1 }

pub returns-else-size-gt0 : goal.returns-else-size-gt0
returns-else-size-gt0 c =
    let both = packs-nothing _ _ _ _ (found (goal.at.returns-else-size-gt0 c).After-stored_size-size) (form_path (omega arith) (omega arith)) (omega arith) in
    record { value = both.0; out_after = both.1 }
