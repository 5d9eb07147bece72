-- `cells::fill_each` meets its contract: what is written so far and what is still to come make the whole. Assumes nothing.
use Prim.Native.Nat.{◌-◌}
use lib.ListN.{drop}
use Rattle.xm.specs.Format.{flat}
use Rattle.xm.specs.Run.{cells_in}
use Rattle.cells.proofs.Fill.{Filling}
use Rattle.cells.proofs.fill_each.Given as goal

abbrev pub invariant-loop : goal.invariant-loop
invariant-loop l = Filling l.stored (flat (cells_in l.count (drop l.from l.stored))) l.initial.out l.out l.at l.to (l.count - l.counter)
