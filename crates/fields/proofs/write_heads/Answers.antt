-- `fields::write_heads` meets its contract: the headers that are left are still to be laid. Assumes nothing.
use mathlib.Core.Path.{ap}
use native.Mathlib.Omega.{arith}
use lib.ListN.{length-drop}
use Rattle.xm.specs.ModuleKind.{padded}
use Rattle.xm.proofs.Lay.{part_all}
use Rattle.fields.proofs.CutLaws.{named, own_bytes}
use Rattle.fields.proofs.PieceLaws.{heads_none, heads_done, heads_more, head_room}
use Rattle.fields.proofs.write_heads.Goals as goal

pub loop-init : goal.loop-init
loop-init c = heads_none _ _ _ _ (omega arith) _ _ (omega arith) (omega arith) (omega arith)

pub write_head-requires : goal.write_head-requires
write_head-requires c =
    let inv = c.loop.invariant in
    rw (part_all, length-drop) (omega (arith, head_room _ _ _ _ (omega arith) inv (omega arith)))

-- The bytes first: the headers stand as far apart as they were read
pub loop-preserved : goal.loop-preserved
loop-preserved c =
    let l = c.loop in
    let a = c.args in
    heads_more _ _ _ _ (omega arith) l.invariant (omega arith) (omega arith) (omega arith)
    (named _ c.write_head.ensures (ap (padded a.kept) (own_bytes l.head a.size a.file.now)))

pub returns : goal.returns
returns c = heads_done _ _ _ _ (omega arith) c.loop.invariant (omega arith)
