-- `scan::scan_dense` meets its contract. The loop's invariant: the answer is where the cells from here on end. Assumes nothing.
use Rattle.xm.specs.Stored.{read_run}
use Rattle.refusal.specs.Refusal.{place_step}
use Rattle.scan.proofs.BlockLaws.{Scanning}
use Rattle.scan.proofs.scan_dense.Given as goal

abbrev pub invariant-loop-left : goal.invariant-loop-left
invariant-loop-left l = Scanning l.stored (place_step 0 (read_run l.count 0 l.stored)) l.used l.left

abbrev pub decreases-loop-left : goal.decreases-loop-left
decreases-loop-left l = l.left
