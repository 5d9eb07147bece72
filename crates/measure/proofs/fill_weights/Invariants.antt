-- `measure::fill_weights` meets its contract. The loop's invariant: the weights passed are right. Assumes nothing.
use Rattle.ahead.specs.Ahead.{Follows}
use Rattle.measure.specs.Weight.{weights_from}
use Rattle.measure.proofs.fill_weights.Given as goal

abbrev pub invariant-loop-i : goal.invariant-loop-i
invariant-loop-i l = Follows (weights_from l.stored l.place) l.i l.weights
