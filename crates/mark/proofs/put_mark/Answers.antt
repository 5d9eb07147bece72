-- `mark::put_mark` meets its contract. Assumes nothing.
use native.Mathlib.Omega.{arith}
use Rattle.mark.proofs.MarkLaws.{mark_put}
use Rattle.mark.proofs.put_mark.Goals as goal

pub returns : goal.returns
returns c =
    rw (c.with_mark.ensures, c.bits_of.ensures) (mark_put c.args.marks.now c.args.number c.args.mark (omega arith) (omega arith))
