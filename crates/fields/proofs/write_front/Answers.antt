-- `fields::write_front` meets its contract: all are there, or they are cut off. Assumes nothing.
use mathlib.Core.Path.{sym, ap, ◌∙◌}
use native.Mathlib.Omega.{arith}
use lib.ListN.{take, drop, length-drop}
use Rattle.xm.proofs.Cut.{padded-long}
use Rattle.xm.proofs.Lay.{part_all}
use Rattle.fields.proofs.CutLaws.{named}
use Rattle.fields.proofs.write_front.Goals as goal

pub returns-then-own-ge29 : goal.returns-then-own-ge29
returns-then-own-ge29 c =
    let own = c.args.own.now in
    named c.args.out.now c.copy_front.ensures (ap (take 25) (part_all 4 own) ∙ sym (padded-long 25 (drop 4 own) (omega (arith, length-drop 4 own))))
