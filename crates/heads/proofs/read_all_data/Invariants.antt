-- `heads::read_all_data` meets its contract. The loop's invariant: the data of so many samples are read. Assumes nothing.
use Rattle.heads.proofs.SampleLaws.{DataRead}
use Rattle.heads.proofs.read_all_data.Given as goal

abbrev pub invariant-loop-number : goal.invariant-loop-number
invariant-loop-number l = DataRead l.file l.heads l.size l.count l.at l.number l.place
