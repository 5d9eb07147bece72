-- `walk::read_instruments` meets its contract. The loop's invariant: so many instruments are read, and their forms are measured. Assumes nothing.
use Rattle.steps.specs.Kind.{kind_of}
use Rattle.walk.proofs.RunLaws.{InstrumentsRead}
use Rattle.walk.proofs.read_instruments.Given as goal

abbrev pub invariant-loop : goal.invariant-loop
invariant-loop l = InstrumentsRead l.file (kind_of l.kind) l.at l.count l.counter l.place l.pressed
