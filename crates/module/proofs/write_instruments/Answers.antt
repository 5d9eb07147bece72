-- `module::write_instruments` meets its contract: the instruments that are left are still to be laid. Assumes nothing.
use native.Mathlib.Omega.{arith}
use lib.ListN.{length-drop}
use Rattle.xm.proofs.Lay.{part_all}
use Rattle.module.proofs.LoopLaws.{instrument-accepted, instrument_room, instruments_more, instruments_done}
use Rattle.module.proofs.write_instruments.Goals as goal

pub part_at-part-requires-clause-file_value : goal.part_at-part-requires-clause-file_value
part_at-part-requires-clause-file_value c = instrument-accepted _ _ _ _ _ c.loop.invariant (omega arith)

pub write_instrument-written-requires-clause-at_in_bounds : goal.write_instrument-written-requires-clause-at_in_bounds
write_instrument-written-requires-clause-at_in_bounds c =
    let room = instrument_room _ _ _ _ _ c.loop.invariant (omega arith) in
    rw (part_all, length-drop) (omega (arith, room))

pub loop-preserved : goal.loop-preserved
loop-preserved c =
    instruments_more _ _ _ _ _ c.loop.invariant (omega arith) (omega arith) c.part_at-part.ensures c.write_instrument-written.ensures.value
    c.write_instrument-written.ensures.out_after

pub returns : goal.returns
returns c = instruments_done _ _ _ _ _ c.loop.invariant (omega arith)
