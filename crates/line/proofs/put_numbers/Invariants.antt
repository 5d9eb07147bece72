-- `line::put_numbers` meets its contract: some of the numbers are written, and the others have room. Assumes nothing.
use Rattle.line.proofs.Put.{NumbersWritten}
use Rattle.line.proofs.put_numbers.Given as goal

abbrev pub invariant-loop-number : goal.invariant-loop-number
invariant-loop-number l = NumbersWritten l.initial.line l.at l.numbers l.number-index l.next l.line
