-- `measure::some_in_block` meets its contract. The loop's invariant: so many of the bytes passed aren't 0. Assumes nothing.
use mathlib.Core.Path.{◌≡◌}
use Rattle.measure.specs.Weight.{some_of}
use Rattle.measure.proofs.some_in_block.Given as goal

abbrev pub invariant-loop-byte : goal.invariant-loop-byte
invariant-loop-byte l = l.sum ≡ some_of l.byte-index l.block
