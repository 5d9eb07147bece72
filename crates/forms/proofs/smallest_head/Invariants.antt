-- `forms::smallest_head` meets its contract. The loop's invariant: the most of the headers behind and of those ahead is that of all. Assumes nothing.
use Prim.Native.Nat.{◌-◌}
use Rattle.forms.proofs.KeptLaws.{HeadsLeft}
use Rattle.forms.proofs.smallest_head.Given as goal

abbrev pub invariant-loop : goal.invariant-loop
invariant-loop l = HeadsLeft l.file l.heads l.size l.count l.head l.most (l.count - l.counter)
