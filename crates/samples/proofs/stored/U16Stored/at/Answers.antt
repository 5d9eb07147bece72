-- Two bytes are the pair there. Assumes nothing.
use Rattle.std.proofs.Common.{refl, arith, ◌*◌}
use Rattle.xm.specs.Delta.{stored_numbers}
use Rattle.xm.proofs.Delta.{pairs_at, pairs-length}
use Rattle.samples.proofs.stored.U16Stored.at.Goals as goal

pub returns : goal.returns
unfolding stored_numbers
returns c =
    let pair = pairs_at c.args.bytes.now c.args.index (2 * c.args.index) refl (omega (arith, c.requires, pairs-length c.args.bytes.now)) in
    omega (arith, c.from_le_bytes.ensures, pair)
