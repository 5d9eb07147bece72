-- q as the code sums it. Assumes nothing.
use Rattle.std.proofs.Common.{arith}
use Rattle.std.proofs.lemmas.Int.{ints, to_z-of_z}
use Rattle.periods.specs.Period.{position}
use Rattle.periods.proofs.position.Goals as goal

pub returns : goal.returns
unfolding position
returns c = grind (arith, ints, to_z-of_z)
