-- `tables::fill::fill_instruments` meets its contract. The loop's invariant: the numbers of the instruments that are left are still to be
-- laid. Assumes nothing.
use Prim.Native.Nat.{◌-◌, ◌*◌}
use Rattle.tables.proofs.FillLaws.{FillingInstruments}
use Rattle.tables.proofs.fill.fill_instruments.Given as goal

abbrev pub invariant-loop-number : goal.invariant-loop-number
invariant-loop-number l = FillingInstruments l.file l.initial.table l.table (l.number-end - l.number) l.place l.first (3 * l.number)
