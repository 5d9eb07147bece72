-- `rows::sample::first_sought` meets its contract. Assumes nothing.
use mathlib.Core.Path.{ap}
use native.Mathlib.Omega.{arith}
use Rattle.xm.specs.Table.{sample_rows}
use Rattle.rows.proofs.Reading.{some_accepted}
use Rattle.rows.proofs.SampleLaws.{seeks_start}
use Rattle.rows.specs.declared.sample.Sought.{Sought}
use Rattle.rows.proofs.sample.first_sought.Goals as goal

pub invariant_of-first_instrument : goal.invariant_of-first_instrument
invariant_of-first_instrument c = record {
  sound = some_accepted sample_rows _ {number = 0} (omega (arith, c.requires));
  plain = record { below = λ i. omega (arith, c.type_inv.file i) };
}

pub returns : goal.returns
returns c = (
  ap Sought.number c.sought_from-2.ensures,
  λ some.
      rw c.sought_from-2.ensures (seeks_start _ 0 (omega (arith, some, c.requires))
      (record { below = λ i. omega (arith, c.type_inv.file i) }) c.first_instrument.ensures),
)
