-- `cell::write::lead_of` meets its contract: the lead byte is 128 and a sum of bits. Assumes nothing.
use native.Mathlib.Omega.{arith}
use Rattle.cell.proofs.ReadLaws.{one_if, marks_in}
use Rattle.cell.proofs.write.lead_of.Goals as goal

pub returns : goal.returns
returns c =
    omega (
      arith,
      marks_in c.args.cell.now (omega arith),
      one_if _ c.from.ensures,
      one_if _ c.from-2.ensures,
      one_if _ c.from-3.ensures,
      one_if _ c.from-4.ensures,
      one_if _ c.from-5.ensures,
    )
