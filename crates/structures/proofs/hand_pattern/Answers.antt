-- `structures::hand_pattern` meets its contract. Assumes nothing.
use native.Mathlib.Omega.{arith}
use Rattle.structures.proofs.HandingLaws.{plain, pattern_fits}
use Rattle.structures.proofs.hand_pattern.Goals as goal

pub overflow_add-next : goal.overflow_add-next
overflow_add-next c =
    omega (arith, pattern_fits _ _ (plain c.type_inv.file) (omega arith) (omega arith) c.pattern_head-pattern.ensures)
