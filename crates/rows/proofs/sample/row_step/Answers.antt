-- `rows::sample::row_step` meets its contract. The loop's invariant: the sample is sought. The measure is what is left of the file.
-- Assumes nothing.
use Prim.Native.Nat.{◌<◌}
use mathlib.Core.Path.{refl, sym, ap, ◌∙◌}
use native.Mathlib.Omega.{arith}
use Rattle.xm.specs.Number.{Bytes}
use Rattle.rows.specs.Place.{code_row}
use Rattle.rows.specs.declared.sample.SampleRow.{SampleRow}
use Rattle.rows.proofs.SampleLaws.{seeks_fits, seeks_found, seeks_after, seeks_tests, seeks_stands, seeks_on, seeks_less}
use Rattle.rows.proofs.sample.row_step.Goals as goal

pub instrument_head-instrument-requires : goal.instrument_head-instrument-requires
instrument_head-instrument-requires c =
    let bytes : Bytes c.args.file.now = record { below = λ i. omega (arith, c.type_inv.file i) } in
    seeks_tests _ _ c.requires.0 bytes c.loop-left.invariant c.loop-left-test.true

pub overflow_mul-place : goal.overflow_mul-place
overflow_mul-place c =
    let w = seeks_stands _ _ c.requires.0 (record { below = λ i. omega (arith, c.type_inv.file i) }) c.loop-left.invariant
    c.loop-left-test.true c.instrument_head-instrument.ensures in
    omega (arith, w.inside, w.small)

pub overflow_add-place : goal.overflow_add-place
overflow_add-place c =
    let w = seeks_stands _ _ c.requires.0 (record { below = λ i. omega (arith, c.type_inv.file i) }) c.loop-left.invariant
    c.loop-left-test.true c.instrument_head-instrument.ensures in
    omega (arith, w.inside, w.small)

pub loop-left-smaller : goal.loop-left-smaller
loop-left-smaller c =
    seeks_less _ _ c.requires.0 (record { below = λ i. omega (arith, c.type_inv.file i) }) c.loop-left.invariant
    c.loop-left-test.true c.instrument_head-instrument.ensures

pub loop-left-preserved : goal.loop-left-preserved
loop-left-preserved c =
    seeks_on _ _ c.requires.0 (record { below = λ i. omega (arith, c.type_inv.file i) }) c.loop-left.invariant
    c.loop-left-test.true c.instrument_head-instrument.ensures

pub sample_row-row-requires-clause-file_len_bound : goal.sample_row-row-requires-clause-file_len_bound
sample_row-row-requires-clause-file_len_bound c =
    let w = seeks_fits _ _ c.requires.0 (record { below = λ i. omega (arith, c.type_inv.file i) }) c.loop-left.invariant
    (omega (arith, c.loop-left-test.false)) in
    w.small

pub returns : goal.returns
returns c =
    let row = c.sample_row-row.ensures in
    let some : 0 < c.loop-left.left = omega (arith, c.loop-left-test.false) in (
      row ∙ ap code_row (sym (seeks_found _ _ c.requires.0 (record { below = λ i. omega (arith, c.type_inv.file i) })
          c.loop-left.invariant some)),
      refl,
      seeks_after _ _ c.requires.0 (record { below = λ i. omega (arith, c.type_inv.file i) }) c.loop-left.invariant
          some (omega (arith, ap SampleRow.length row)),
    )
