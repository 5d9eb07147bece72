-- `rows::sample::row_step` meets its contract. The loop's invariant: the sample is sought. The measure is what is left of the file.
-- Assumes nothing.
use Prim.Native.Nat.{◌-◌}
use lib.ListN.{length}
use Rattle.rows.specs.Sought.{Seeks}
use Rattle.rows.proofs.sample.row_step.Given as goal

abbrev pub invariant-loop-left : goal.invariant-loop-left
invariant-loop-left l =
    Seeks l.file (record { number = l.number; left = l.left; head = l.head; head_size = l.size; data_place = l.place })

abbrev pub decreases-loop-left : goal.decreases-loop-left
decreases-loop-left l = length l.file - l.place
