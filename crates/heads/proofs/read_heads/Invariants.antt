-- `heads::read_heads` meets its contract. The loop's invariant: so many headers are read, and the place stands behind them. Assumes nothing.
use Rattle.heads.proofs.SampleLaws.{HeadsRead}
use Rattle.heads.proofs.read_heads.Given as goal

abbrev pub invariant-loop : goal.invariant-loop
invariant-loop l = HeadsRead l.file l.at l.size l.count l.counter l.place
