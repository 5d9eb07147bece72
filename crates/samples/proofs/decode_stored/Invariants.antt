-- The values of what is left, from the sum so far, are still to be laid. Assumes nothing.
use Rattle.std.proofs.Common.{◌*◌, drop}
use Rattle.xm.specs.Delta.{decoded, stored_numbers}
use Rattle.xm.proofs.Delta.{values_from}
use Rattle.xm.proofs.Lay.{Laid}
use Rattle.samples.proofs.decode_stored.Given as goal

abbrev pub invariant-loop-i : goal.invariant-loop-i
invariant-loop-i g l =
    let s = g.S.Stored in
    Laid l.initial.values (decoded s.width l.bytes) l.values (2 * l.i) (values_from s.width (s.number l.sum) (drop (2 * l.i) (stored_numbers s.width l.bytes)))
