-- `tables::fill::fill_samples` meets its contract. The loop's invariant: the numbers and the tunes of the samples that are left are still
-- to be laid, and the first of them is the one sought. Assumes nothing.
use Prim.Native.Nat.{ℕ, ◌*◌}
use mathlib.Core.Path.{ap, ◌∙◌}
use native.Mathlib.Omega.{arith}
use Rattle.xm.specs.Number.{Bytes}
use lib.ListN.{get_or}
use Rattle.xm.specs.Got.{list_in}
use Rattle.xm.specs.Lay.{lay}
use Rattle.xm.specs.Module.{read_file}
use Rattle.xm.specs.Asking.{no_row}
use Rattle.xm.specs.Table.{sample_rows, sample_stride, tune_stride}
use Rattle.rows.specs.Place.{code_row, code_row_numbers, tunes_of}
use Rattle.rows.specs.declared.sample.SampleRow.{SampleRow}
use Rattle.rows.specs.declared.sample.Sought.{Sought}
use Rattle.rows.proofs.SampleLaws.{seeks_start}
use Rattle.tables.proofs.FillLaws.{samples_start, samples_on, samples_done}
use Rattle.tables.proofs.fill.fill_samples.Goals as goal

pub loop-number-init : goal.loop-number-init
loop-number-init c =
    let e = c.sought_from-from.ensures in
    let bytes : Bytes c.args.file.now = record { below = λ i. omega (arith, c.type_inv.file i) } in (
      samples_start _ _ _ c.requires.file_in_bounds c.requires.file_in_bounds_2,
      ap Sought.number e,
      λ some. rw e (seeks_start _ 0 (omega (arith, some, c.requires.count_value)) bytes (c.requires.instruments_from some)),
    )

pub loop-number-preserved : goal.loop-number-preserved
loop-number-preserved c =
    let l = c.loop-number in
    let step = c.row_step-step.ensures in
    let row = step.0 ∙ ap (λ (n : ℕ). code_row (get_or (list_in sample_rows (read_file c.args.file.now)) n no_row)) l.invariant.1 in (
      samples_on _ _ _ l.invariant.0 (omega (arith, c.requires.count_value, c.loop-number-test.true))
          (c.put_sample.ensures.samples_after ∙ ap (λ (r : SampleRow). lay l.table (sample_stride * l.number) (code_row_numbers r)) row)
          (c.put_sample.ensures.tunes_after ∙ ap (λ (r : SampleRow). lay l.tunes (tune_stride * l.number) (tunes_of r)) row),
      omega (arith, step.1, l.invariant.1),
      λ some. step.2,
    )

pub returns : goal.returns
returns c =
    let both = samples_done _ _ _ c.loop-number.invariant.0 (omega (arith, c.requires.count_value, c.loop-number-test.false)) in
    record { table_after = both.0; tunes_after = both.1 }
