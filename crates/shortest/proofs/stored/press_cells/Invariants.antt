-- `shortest::stored::press_cells` meets its contract: what is left of the cells is what is still to be written. Assumes nothing.
use Rattle.xm.specs.Format.{joined}
use Rattle.xm.specs.Cell.{write_cell}
use Rattle.xm.specs.Run.{cells_in}
use Rattle.shortest.proofs.FoundLaws.{Rewriting}
use Rattle.shortest.proofs.stored.press_cells.Given as goal

abbrev pub invariant-loop-left : goal.invariant-loop-left
invariant-loop-left l = Rewriting l.stored l.initial.out (joined write_cell (cells_in l.count l.stored)) l.out l.place l.to l.left

abbrev pub decreases-loop-left : goal.decreases-loop-left
decreases-loop-left l = l.left
