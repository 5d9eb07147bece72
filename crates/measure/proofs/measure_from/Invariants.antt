-- `measure::measure_from` meets its contract. The loop's invariant: the answer is what measuring comes to from here on. Assumes nothing.
use Prim.Native.Nat.{◌-◌}
use lib.ListN.{drop}
use Rattle.xm.specs.Stored.{read_run}
use Rattle.measure.specs.Measure.{measured_on}
use Rattle.measure.proofs.MeasureLaws.{Measuring}
use Rattle.measure.proofs.measure_from.Given as goal

abbrev pub invariant-loop : goal.invariant-loop
invariant-loop l =
    Measuring l.stored (measured_on l.fn.before (drop l.fn.before.used l.stored) (read_run l.count l.fn.before.used (drop l.fn.before.used l.stored))) l.size
    (l.count - l.counter)
