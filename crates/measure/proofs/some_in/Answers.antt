-- `measure::some_in` meets its contract. The invariant of both loops: so many of the bytes passed aren't 0. Assumes nothing.
use native.Mathlib.Omega.{arith}
use Rattle.measure.proofs.WeightLaws.{some_block, some_rest}
use Rattle.measure.proofs.some_in.Goals as goal

pub loop-block-preserved : goal.loop-block-preserved
loop-block-preserved c =
    omega (arith, c.loop-block.invariant, c.from-sum.ensures, c.some_in_block.ensures, some_block _ c.loop-block.block-index c.args.bytes.now c.as_chunks.ensures.front (omega arith))

pub returns : goal.returns
returns c = grind (arith, c.loop-byte.invariant, some_rest c.args.bytes.now c.as_chunks.ensures.back)
