-- `scan::scan_from` meets its contract. The loop's invariant: the answer is where the cells from here on end. Assumes nothing.
use Prim.Native.Nat.{◌-◌}
use lib.ListN.{drop}
use Rattle.xm.specs.Stored.{read_run}
use Rattle.refusal.specs.Refusal.{place_step}
use Rattle.scan.proofs.BlockLaws.{Scanning}
use Rattle.scan.proofs.scan_from.Given as goal

abbrev pub invariant-loop : goal.invariant-loop
invariant-loop l = Scanning l.stored (place_step l.from (read_run l.count l.from (drop l.from l.stored))) l.used (l.count - l.counter)
