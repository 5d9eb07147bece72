-- `module::write_patterns` meets its contract: the patterns that are left are still to be laid. Assumes nothing.
use Rattle.module.proofs.LoopLaws.{PatternsLeft}
use Rattle.module.proofs.write_patterns.Given as goal

abbrev pub invariant-loop-number : goal.invariant-loop-number
invariant-loop-number l = PatternsLeft l.file l.initial.out l.at l.channels.count l.count l.marks l.number l.place l.out l.written
