-- `structures::hand_instrument` meets its contract. Assumes nothing.
use native.Mathlib.Omega.{arith}
use Rattle.structures.proofs.HandingLaws.{part-fits}
use Rattle.structures.proofs.hand_instrument.Goals as goal

pub overflow_add-next : goal.overflow_add-next
overflow_add-next c = omega (arith, part-fits _ _ c.in-Given.ensures)
