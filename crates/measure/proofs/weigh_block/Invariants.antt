-- `measure::weigh_block` meets its contract. The loop's invariant: from here on the walk ends where it is to end, and the sums are small.
-- Assumes nothing.
use Prim.Native.Nat.{◌+◌, ◌*◌, ◌-◌, ◌≤◌}
use mathlib.Core.Path.{◌≡◌}
use lib.ListN.{length}
use Rattle.measure.specs.Weight.{weighed}
use Rattle.measure.proofs.weigh_block.Given as goal

abbrev pub invariant-loop-at : goal.invariant-loop-at
invariant-loop-at l =
    (weighed l.lengths l.weights (length l.lengths) l.left l.at l.sums ≡ weighed l.lengths l.weights (length l.lengths) l.count 0 l.initial.sums)
    × (l.left ≤ l.count)
    × (l.sums.extra ≤ l.initial.sums.extra + 15 * (l.count - l.left))
    × (l.sums.odd ≤ l.initial.sums.odd + 15 * (l.count - l.left))

abbrev pub decreases-loop-at : goal.decreases-loop-at
decreases-loop-at l = l.left
