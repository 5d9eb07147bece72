-- `shortest::stored::press_each` meets its contract: what is left of the cells is what is still to be written. Assumes nothing.
use Prim.Native.Nat.{◌-◌}
use lib.ListN.{drop}
use Rattle.xm.specs.Format.{joined}
use Rattle.xm.specs.Cell.{write_cell}
use Rattle.xm.specs.Run.{cells_in}
use Rattle.shortest.proofs.FoundLaws.{Rewriting}
use Rattle.shortest.proofs.stored.press_each.Given as goal

abbrev pub invariant-loop : goal.invariant-loop
invariant-loop l =
    Rewriting l.stored l.initial.out (joined write_cell (cells_in l.count (drop l.from l.stored))) l.out l.place l.to (l.count - l.counter)
