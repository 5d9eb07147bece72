-- `measure::measure_cells` meets its contract. The loop's invariant: the answer is what measuring comes to from here on, by what the weights
-- came to. Assumes nothing.
use Rattle.xm.specs.Stored.{read_run}
use Rattle.measure.specs.Measure.{no_cells, measured_on}
use Rattle.measure.proofs.Weighing.{Weighing}
use Rattle.measure.proofs.measure_cells.Given as goal

abbrev pub invariant-loop-left : goal.invariant-loop-left
invariant-loop-left l = Weighing l.stored (measured_on no_cells l.stored (read_run l.count 0 l.stored)) l.count l.used l.left l.sums

abbrev pub decreases-loop-left : goal.decreases-loop-left
decreases-loop-left l = l.left
