-- `module::write_instruments` meets its contract: the instruments that are left are still to be laid. Assumes nothing.
use Prim.Native.Nat.{◌-◌}
use Rattle.steps.specs.Kind.{kind_of}
use Rattle.module.proofs.LoopLaws.{InstrumentsLeft}
use Rattle.module.proofs.write_instruments.Given as goal

abbrev pub invariant-loop : goal.invariant-loop
invariant-loop l = InstrumentsLeft l.file l.initial.out (kind_of l.kind) l.at l.count (l.count - l.counter) l.place l.out l.written
