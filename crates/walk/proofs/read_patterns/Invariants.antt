-- `walk::read_patterns` meets its contract. The loop's invariant: so many patterns are read, their pressed forms are measured, and they are marked.
-- Assumes nothing.
use Rattle.walk.proofs.RunLaws.{PatternsRead}
use Rattle.walk.proofs.read_patterns.Given as goal

abbrev pub invariant-loop-done : goal.invariant-loop-done
invariant-loop-done l =
    PatternsRead l.file l.at l.channels.count l.count l.done l.place l.pressed l.marks
