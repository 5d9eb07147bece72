-- `scan::scan_sparse` meets its contract. The loop's invariant: the answer is where the cells from here on end, and the eight is the one that
-- stands here. Assumes nothing.
use Prim.Native.Nat.{◌+◌, ◌≤◌}
use native.Mathlib.Omega.{arith}
use borrow.Author.Tests.{leb-true}
use lib.ListN.{length}
use Rattle.scan.proofs.BlockLaws.{scanning_turn}
use Rattle.scan.proofs.scan_sparse.Goals as goal
use Rattle.scan.proofs.scan_sparse.Goals.{Then-stored-used-ge21}

-- In a turn 21 bytes stand from here on
wide : (c : Then-stored-used-ge21) → c.loop-left.used + 21 ≤ length c.args.stored.now
wide c = omega (arith, leb-true)

pub loop-left-preserved : goal.loop-left-preserved
loop-left-preserved c =
    let l = c.loop-left in (
      scanning_turn l.invariant.0 (omega arith) (wide (goal.at.loop-left-preserved c).Then-stored-used-ge21) c.look_ahead-turn.ensures,
      record { right = λ h. c.eight_at-eight.ensures },
    )
