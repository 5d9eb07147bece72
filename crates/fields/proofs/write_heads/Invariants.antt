-- `fields::write_heads` meets its contract: the headers that are left are still to be laid. Assumes nothing.
use Prim.Native.Nat.{◌-◌}
use lib.ListN.{drop}
use Rattle.fields.specs.Fields.{heads_cut}
use Rattle.fields.proofs.PieceLaws.{HeadsToWrite}
use Rattle.fields.proofs.write_heads.Given as goal

abbrev pub invariant-loop : goal.invariant-loop
invariant-loop l =
    HeadsToWrite l.file l.initial.out (heads_cut l.count l.size l.kept (drop l.heads l.file)) l.size l.kept (l.count - l.counter) l.head l.out l.to
