-- `measure::skip_short` meets its contract. The loop's invariant: each cell passed has the weight 1, and the eight is the one that stands here.
-- Assumes nothing.
use Prim.Native.Nat.{◌-◌}
use Rattle.xm.specs.Stored.{read_run}
use Rattle.ahead.specs.Ahead.{EightRead}
use Rattle.measure.specs.Measure.{no_cells, measured_on}
use Rattle.measure.proofs.Weighing.{Weighing, ones_of}
use Rattle.measure.proofs.skip_short.Given as goal

abbrev pub invariant-loop-left : goal.invariant-loop-left
invariant-loop-left l =
    Weighing l.stored (measured_on no_cells l.stored (read_run l.count 0 l.stored)) l.count l.used l.left (ones_of (l.count - l.left))
    × EightRead l.stored l.used l.eight

abbrev pub decreases-loop-left : goal.decreases-loop-left
decreases-loop-left l = l.left
