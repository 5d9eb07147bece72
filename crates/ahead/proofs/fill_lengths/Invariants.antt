-- `ahead::fill_lengths` meets its contract. The loop's invariant: the lengths passed are right. Assumes nothing.
use Rattle.ahead.specs.Ahead.{Follows, lengths_from}
use Rattle.ahead.proofs.fill_lengths.Given as goal

abbrev pub invariant-loop-i : goal.invariant-loop-i
invariant-loop-i l = Follows (lengths_from l.stored l.place) l.i l.lengths
