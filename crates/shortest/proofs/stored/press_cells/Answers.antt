-- `shortest::stored::press_cells` meets its contract: what is left of the cells is what is still to be written. Assumes nothing.
use mathlib.Core.Path.{refl}
use native.Mathlib.Omega.{arith}
use Rattle.xm.proofs.Lay.{part_all, laid_last}
use Rattle.shortest.proofs.FoundLaws.{rewriting_stored, rewriting_lent, rewriting_here, rewriting_over}
use Rattle.shortest.proofs.FoundLaws.{empty_room, rewriting_empty}
use Rattle.shortest.proofs.stored.press_cells.Goals as goal

pub bounds-stored-at : goal.bounds-stored-at
bounds-stored-at c = rewriting_here c.loop-left.invariant (omega arith)

pub bounds-out-to : goal.bounds-out-to
bounds-out-to c = empty_room c.loop-left.invariant (omega arith) c.if-lead.true

pub loop-left-preserved-then-lead : goal.loop-left-preserved-then-lead
loop-left-preserved-then-lead c = rewriting_empty c.loop-left.invariant (omega arith) c.if-lead.true refl

pub rewrite_over-to-requires : goal.rewrite_over-to-requires
rewrite_over-to-requires c =
    let more = c.loop-left-test.true in
    record { place_in_bounds = omega (arith, rewriting_stored c.loop-left.invariant); over_most_in_bounds = rw (part_all c.loop-left.to c.loop-left.out) (omega (arith, rewriting_lent c.loop-left.invariant)) }

pub loop-left-preserved : goal.loop-left-preserved
loop-left-preserved c =
    rewriting_over c.loop-left.invariant (omega arith) refl _ c.cell_end-place.ensures _ _ c.rewrite_over-to.ensures.value refl (omega arith) c.rewrite_over-to.ensures.over c.rewrite_over-to.auto.out

pub returns-clause-out_after : goal.returns-clause-out_after
returns-clause-out_after c =
    let w = c.loop-left.invariant.writing in
    laid_last w refl c.press_each.ensures.out_after
