-- `tables::fill::fill_patterns` meets its contract. The loop's invariant: the numbers of the patterns that are left are still to be laid.
-- Assumes nothing.
use Prim.Native.Nat.{◌-◌, ◌*◌}
use Rattle.tables.proofs.FillLaws.{FillingPatterns}
use Rattle.tables.proofs.fill.fill_patterns.Given as goal

abbrev pub invariant-loop-number : goal.invariant-loop-number
invariant-loop-number l = FillingPatterns l.file l.initial.table l.table (l.number-end - l.number) l.place (3 * l.number)
