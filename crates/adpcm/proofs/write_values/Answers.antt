-- The values of the chosen deltas that are left, from the sum so far, are still to be laid. Assumes nothing.
use Rattle.std.proofs.Common.{◌∙◌, arith, rules, to_z-of_z, w16}
use Rattle.adpcm.proofs.Loops.{writing_start, writing_pair, writing_last, writing_done}
use Rattle.adpcm.proofs.write_values.Goals as goal

pub loop-i-init : goal.loop-i-init
loop-i-init c = let a = c.args in rw c.zero-sum.ensures (writing_start a.count a.bytes.now a.values.now c.requires.bytes_len c.requires.count_in_bounds)

pub loop-i-preserved : goal.loop-i-preserved
loop-i-preserved c =
    writing_pair c.loop-i.invariant (omega arith) c.low_half-low.ensures.0 c.high_half-high.ensures.0 c.plus-first.ensures c.plus-sum.ensures
    (to_z-of_z {w = w16} {z = c.value.result} (record { sfits = c.value.type_inv }) ∙ c.value.ensures)
    (to_z-of_z {w = w16} {z = c.value-in-loop-i.result} (record { sfits = c.value-in-loop-i.type_inv }) ∙ c.value-in-loop-i.ensures)

pub returns-then-count-eq1 : goal.returns-then-count-eq1
returns-then-count-eq1 c =
    writing_last c.loop-i.invariant (omega arith) (omega arith) (search rules) c.plus-sum-then-count-eq1.ensures
    (to_z-of_z {w = w16} {z = c.value-then-count-eq1.result} (record { sfits = c.value-then-count-eq1.type_inv }) ∙ c.value-then-count-eq1.ensures)

pub returns-else-count-eq1 : goal.returns-else-count-eq1
returns-else-count-eq1 c = writing_done c.loop-i.invariant (omega arith)
