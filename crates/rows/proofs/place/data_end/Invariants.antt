-- `rows::place::data_end` meets its contract. The loop's invariant: so many samples are left to be stepped over. Assumes nothing.
use Prim.Native.Nat.{◌-◌}
use Rattle.rows.specs.Place.{data_end}
use Rattle.rows.specs.Sought.{SamplesLeft}
use Rattle.rows.proofs.place.data_end.Given as goal

abbrev pub invariant-loop : goal.invariant-loop
invariant-loop l = SamplesLeft l.file l.size (data_end l.file l.fn.instrument) (l.count - l.counter) l.head l.place
