-- The values of the chosen deltas that are left, from the sum so far, are still to be laid. Assumes nothing.
use Rattle.adpcm.proofs.Loops.{Writing}
use Rattle.adpcm.proofs.write_values.Given as goal

abbrev pub invariant-loop-i : goal.invariant-loop-i
invariant-loop-i l = Writing l.count l.bytes l.initial.values l.values l.sum l.i
