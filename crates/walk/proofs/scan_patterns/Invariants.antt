-- `walk::scan_patterns` meets its contract. The loop's invariant: so many patterns are tried. Assumes nothing.
use Rattle.walk.proofs.RunLaws.{PatternsTried}
use Rattle.walk.proofs.scan_patterns.Given as goal

abbrev pub invariant-loop : goal.invariant-loop
invariant-loop l = PatternsTried l.file l.at l.channels.count l.count l.counter l.place
