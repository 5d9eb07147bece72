-- `walk::count_instruments` meets its contract. The loop's invariant: so many instruments are read, and their samples are counted. Assumes nothing.
use Rattle.walk.proofs.RunLaws.{InstrumentsTried}
use Rattle.walk.proofs.count_instruments.Given as goal

abbrev pub invariant-loop : goal.invariant-loop
invariant-loop l = InstrumentsTried l.file l.at l.count l.counter l.place l.samples
