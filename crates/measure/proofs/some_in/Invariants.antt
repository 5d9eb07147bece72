-- `measure::some_in` meets its contract. The invariant of both loops: so many of the bytes passed aren't 0. Assumes nothing.
use Prim.Native.Nat.{◌+◌, ◌*◌, ◌/◌}
use mathlib.Core.Path.{◌≡◌}
use lib.ListN.{length}
use Rattle.measure.specs.Weight.{some_of}
use Rattle.measure.proofs.some_in.Given as goal

abbrev pub invariant-loop-block : goal.invariant-loop-block
invariant-loop-block l = l.sum ≡ some_of (l.block-index * 64) l.bytes

abbrev pub invariant-loop-byte : goal.invariant-loop-byte
invariant-loop-byte l = l.sum ≡ some_of (length l.bytes / 64 * 64) l.bytes + some_of l.byte-index l.rest
