-- `fields::write_head` meets its contract: it stands there whole, or it is cut off. Assumes nothing.
use mathlib.Core.Path.{sym}
use native.Mathlib.Omega.{arith}
use Rattle.xm.proofs.Cut.{padded-long}
use Rattle.fields.proofs.CutLaws.{named}
use Rattle.fields.proofs.write_head.Goals as goal

pub returns-then-head-ge40 : goal.returns-then-head-ge40
returns-then-head-ge40 c =
    let kept = c.if-kept-eq40.true in
    rw kept (named c.args.out.now c.copy_front.ensures (sym (padded-long 40 c.args.head.now (omega arith))))
