-- `shortest::stored::press_each` meets its contract: what is left of the cells is what is still to be written. Assumes nothing.
use Prim.Native.Nat.{ℕ, ◌+◌}
use mathlib.Core.Path.{refl, ap}
use native.Mathlib.Omega.{arith}
use lib.ListN.{length-drop}
use Rattle.xm.proofs.Lay.{part_all}
use Rattle.shortest.proofs.FoundLaws.{rewriting_done, rewriting_here, rewriting_fits, rewriting_room, rewriting_part}
use Rattle.shortest.proofs.stored.press_each.Goals as goal

pub bounds-stored-at : goal.bounds-stored-at
bounds-stored-at c = rewriting_here c.loop.invariant (omega arith)

pub overflow_add-place : goal.overflow_add-place
overflow_add-place c = omega (arith, c.cell_length-place.ensures, rewriting_fits c.loop.invariant (omega arith), c.well_formed)

pub rewrite_cell-to-requires : goal.rewrite_cell-to-requires
rewrite_cell-to-requires c =
    let l = c.loop in
    rw (part_all l.to l.out)
    (record { place_in_bounds = rewriting_fits l.invariant (omega arith); stored_in_bounds = omega (arith, rewriting_room l.invariant (omega arith) refl, length-drop l.to l.out) })

pub loop-preserved : goal.loop-preserved
loop-preserved c =
    rewriting_part c.loop.invariant (omega arith) refl _ (ap (λ (n : ℕ). c.loop.place + n) c.cell_length-place.ensures) _ _ c.rewrite_cell-to.ensures.value (omega arith) c.rewrite_cell-to.ensures.out_after

pub returns : goal.returns
returns c =
    let both = rewriting_done c.loop.invariant (omega arith) in
    record { value = both.0; out_after = both.1 }
