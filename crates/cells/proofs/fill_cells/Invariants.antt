-- `cells::fill_cells` meets its contract: what is written so far and what is still to come make the whole, and the eight is the one that
-- stands here. Assumes nothing.
use Rattle.xm.specs.Format.{flat}
use Rattle.xm.specs.Run.{cells_in}
use Rattle.ahead.specs.Ahead.{EightRead}
use Rattle.cells.proofs.Fill.{Filling}
use Rattle.cells.proofs.fill_cells.Given as goal

abbrev pub invariant-loop-left : goal.invariant-loop-left
invariant-loop-left l =
    Filling l.stored (flat (cells_in l.count l.stored)) l.initial.out l.out l.at l.to l.left × EightRead l.stored l.at l.eight

abbrev pub decreases-loop-left : goal.decreases-loop-left
decreases-loop-left l = l.left
