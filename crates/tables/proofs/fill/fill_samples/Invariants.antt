-- `tables::fill::fill_samples` meets its contract. The loop's invariant: the numbers and the tunes of the samples that are left are still
-- to be laid, and the first of them is the one sought. Assumes nothing.
use Prim.Native.Nat.{◌<◌}
use mathlib.Core.Path.{◌≡◌}
use Rattle.xm.specs.Got.{list_in}
use Rattle.xm.specs.Module.{read_file}
use Rattle.xm.specs.Table.{sample_rows}
use Rattle.rows.specs.Sought.{Seeks}
use Rattle.tables.proofs.FillLaws.{FillingSamples}
use Rattle.tables.proofs.fill.fill_samples.Given as goal

abbrev pub invariant-loop-number : goal.invariant-loop-number
invariant-loop-number l =
    FillingSamples (list_in sample_rows (read_file l.file)) l.initial.table l.table l.initial.tunes l.tunes l.number
    × (l.from.number ≡ l.number)
    × (l.number < l.count → Seeks l.file l.from)
