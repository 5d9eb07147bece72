-- The bytes of the differences of what is left, from the residue before, are still to be laid. Assumes nothing.
use Rattle.std.proofs.Common.{◌*◌, map, drop}
use Rattle.xm.specs.Delta.{coded, stored_bytes, differences, residue}
use Rattle.xm.proofs.Lay.{Laid}
use Rattle.samples.proofs.code_stored.Given as goal

abbrev pub invariant-loop-i : goal.invariant-loop-i
invariant-loop-i g l =
    let s = g.S.Stored in
    Laid l.initial.bytes (coded s.width l.values) l.bytes (s.BYTES * l.i) (stored_bytes s.width (differences s.width (s.number l.before) (map (residue s.width) (drop l.i l.values))))
