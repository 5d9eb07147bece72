-- `scan::walk_block` meets its contract. The loop's invariant: from here on the walk ends where it is to end. Assumes nothing.
use mathlib.Core.Path.{◌≡◌}
use lib.ListN.{length}
use Rattle.scan.specs.Block.{block_passed}
use Rattle.scan.proofs.walk_block.Given as goal

abbrev pub invariant-loop-at : goal.invariant-loop-at
invariant-loop-at l = block_passed l.lengths (length l.lengths) l.left l.at ≡ block_passed l.lengths (length l.lengths) l.count 0

abbrev pub decreases-loop-at : goal.decreases-loop-at
decreases-loop-at l = l.left
