-- `scan::scan_dense` meets its contract. The loop's invariant: the answer is where the cells from here on end. Assumes nothing.
use native.Mathlib.Omega.{arith}
use borrow.Author.Tests.{ltb-true}
use lib.Seq.{length-take-le}
use Rattle.scan.proofs.BlockLaws.{scanning_block, block_less}
use Rattle.scan.proofs.scan_dense.Goals as goal

pub loop-left-smaller : goal.loop-left-smaller
loop-left-smaller c =
    let b = c.block_of-size.ensures in
    let size = length-take-le c.block_of-size.result c.fill_lengths.new.lengths (omega (arith, b.most)) in
    block_less _ (omega (arith, size, b.some (omega (arith, ltb-true)))) (omega arith) c.walk_block-walk.ensures

pub loop-left-preserved : goal.loop-left-preserved
loop-left-preserved c =
    let b = c.block_of-size.ensures in
    let v = c.loop-left.invariant in
    scanning_block c.loop-left.used _ c.fill_lengths.ensures b.most (omega (arith, b.inside)) v c.walk_block-walk.ensures (omega arith)
