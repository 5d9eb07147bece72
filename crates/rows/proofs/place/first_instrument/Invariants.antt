-- `rows::place::first_instrument` meets its contract. The loop's invariant: so many patterns are still to be stepped over. Assumes nothing.
use Prim.Native.Nat.{◌-◌}
use mathlib.Core.List.{List}
use Rattle.xm.specs.PatternInFile.{PatternFound}
use Rattle.rows.proofs.PlaceLoops.{Skipping}
use Rattle.rows.proofs.place.first_instrument.Given as goal

abbrev pub invariant-loop : goal.invariant-loop
invariant-loop l = (parts : List PatternFound) × Skipping l.file (l.end - l.counter) l.place parts
