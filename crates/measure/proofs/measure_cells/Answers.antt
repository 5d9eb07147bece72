-- `measure::measure_cells` meets its contract. The loop's invariant: the answer is what measuring comes to from here on, by what the weights
-- came to. Assumes nothing.
use native.Mathlib.Omega.{arith}
use borrow.Author.Tests.{ltb-true}
use lib.Seq.{length-take-le}
use Rattle.measure.proofs.Weighing.{weighing_block, weighed_less}
use Rattle.measure.proofs.measure_cells.Goals as goal

pub loop-left-smaller : goal.loop-left-smaller
loop-left-smaller c =
    let b = c.block_of-size.ensures in
    let size = length-take-le c.block_of-size.result c.fill_lengths.new.lengths (omega (arith, b.most)) in
    weighed_less _ _ _ _ (omega (arith, size, b.some (omega (arith, ltb-true)))) (omega arith) c.weigh_block-walk.ensures

pub loop-left-preserved : goal.loop-left-preserved
loop-left-preserved c =
    let b = c.block_of-size.ensures in
    let v = c.loop-left.invariant in
    weighing_block (λ i. omega (arith, c.type_inv.stored i)) c.loop-left.used _ c.fill_lengths.ensures c.fill_weights.ensures b.most
    (omega (arith, b.inside, v.measuring.inside)) v c.weigh_block-walk.ensures (omega (arith, v.measuring.inside))
