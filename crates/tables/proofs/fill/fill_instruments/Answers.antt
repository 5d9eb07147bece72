-- `tables::fill::fill_instruments` meets its contract. The loop's invariant: the numbers of the instruments that are left are still to be
-- laid. Assumes nothing.
use mathlib.Core.Path.{ap}
use native.Mathlib.Omega.{arith}
use Rattle.steps.specs.declared.header.HeaderPart.{HeaderPart}
use Rattle.rows.proofs.Reading.{accepted-header}
use Rattle.tables.proofs.FillLaws.{instruments_start, instruments_tests, instruments_place, instruments_stands, instruments_room}
use Rattle.tables.proofs.FillLaws.{instruments_on, instruments_done}
use Rattle.tables.proofs.fill.fill_instruments.Goals as goal

pub header_part-counts-requires : goal.header_part-counts-requires
header_part-counts-requires c = (accepted-header _ c.args.accepted.sound).0

pub loop-number-init : goal.loop-number-init
loop-number-init c =
    instruments_start _ _ c.args.accepted.sound c.requires.instruments_from c.requires.file_in_bounds
    (omega (arith, ap HeaderPart.instruments c.header_part-counts.ensures))

pub instrument_head-instrument-requires : goal.instrument_head-instrument-requires
instrument_head-instrument-requires c =
    instruments_tests _ _ c.loop-number.invariant c.args.accepted.plain (omega (arith, c.loop-number-test.true))

pub overflow_cast-place : goal.overflow_cast-place
overflow_cast-place c =
    omega (
      arith,
      instruments_place _ _ c.loop-number.invariant c.args.accepted.plain
          (omega (arith, c.loop-number-test.true)),
      c.loop-number.invariant.small,
    )

pub overflow_cast-samples : goal.overflow_cast-samples
overflow_cast-samples c =
    omega (
      arith,
      (instruments_stands _ _ c.loop-number.invariant c.args.accepted.plain
          (omega (arith, c.loop-number-test.true)) c.instrument_head-instrument.ensures).few,
    )

pub put_three-requires : goal.put_three-requires
put_three-requires c =
    instruments_room _ _ c.loop-number.invariant c.args.accepted.plain
    (omega (arith, c.loop-number-test.true)) c.instrument_head-instrument.ensures

pub data_end-place-requires : goal.data_end-place-requires
data_end-place-requires c =
    instruments_stands _ _ c.loop-number.invariant c.args.accepted.plain
    (omega (arith, c.loop-number-test.true)) c.instrument_head-instrument.ensures

pub overflow_add-first : goal.overflow_add-first
overflow_add-first c =
    let stands = instruments_stands _ _ c.loop-number.invariant c.args.accepted.plain
    (omega (arith, c.loop-number-test.true)) c.instrument_head-instrument.ensures in
    omega (arith, c.loop-number.invariant.few, stands.few)

pub loop-number-preserved : goal.loop-number-preserved
loop-number-preserved c =
    instruments_on _ _ c.loop-number.invariant c.args.accepted.plain
    (omega (arith, c.loop-number-test.true)) c.instrument_head-instrument.ensures c.put_three.ensures c.data_end-place.ensures (omega arith) (omega arith) (omega arith)

pub returns : goal.returns
returns c = instruments_done _ _ c.loop-number.invariant (omega (arith, c.loop-number-test.false))
