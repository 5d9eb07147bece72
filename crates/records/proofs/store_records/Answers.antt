-- `records::store_records` meets its contract: a turn stores the record of that number. Assumes nothing.
use mathlib.Core.Path.{ap, ◌∙◌}
use native.Mathlib.Omega.{arith}
use lib.ListN.{get_or}
use Rattle.xm.specs.Got.{list_in}
use Rattle.xm.specs.Module.{read_file}
use Rattle.xm.specs.Table.{sample_rows}
use Rattle.xm.specs.Asking.{no_row}
use Rattle.rows.specs.Place.{code_row}
use Rattle.records.proofs.RecordsLaws.{stored_next}
use Rattle.records.proofs.store_records.Goals as goal

pub loop-number-preserved : goal.loop-number-preserved
loop-number-preserved c =
    let i = c.loop-number.invariant in
    let e = c.row_step-step.ensures in (
      stored_next c.args.file.now c.args.samples.now c.loop-number.number (e.0 ∙ ap (λ (j : _). code_row (get_or (list_in sample_rows (read_file c.args.file.now)) j no_row)) i.1)
          i.0 (omega arith) (omega arith),
      omega arith,
      λ l. e.2,
    )
