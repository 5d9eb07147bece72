-- `scan::scan_from` meets its contract. The loop's invariant: the answer is where the cells from here on end. Assumes nothing.
use native.Mathlib.Omega.{arith}
use Rattle.scan.proofs.BlockLaws.{scanning_next, scanning_stop}
use Rattle.scan.proofs.scan_from.Goals as goal

pub returns-in_default : goal.returns-in_default
returns-in_default c = scanning_stop c.loop.invariant (omega arith) c.try_cell-step.ensures c.in_default.is

pub loop-preserved : goal.loop-preserved
loop-preserved c = scanning_next c.loop.invariant (omega arith) c.try_cell-step.ensures c.in-Given.is (omega arith)
