-- `steps::pattern::tried_head` meets its contract: L and S are small. Assumes nothing.
use native.Mathlib.Omega.{arith}
use Rattle.steps.proofs.PatternLaws.{end_small}
use Rattle.steps.proofs.pattern.tried_head.Goals as goal

pub overflow_add-head : goal.overflow_add-head
overflow_add-head c = omega (arith, end_small c.args.at c.args.file.now (record { below = λ i. omega (arith, c.type_inv.file i) }) c.pattern_head-head.ensures)
