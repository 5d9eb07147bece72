-- `scan::walk_block` meets its contract. The loop's invariant: from here on the walk ends where it is to end. Assumes nothing.
use mathlib.Core.Path.{sym, ap, ◌∙◌}
use native.Mathlib.Omega.{arith}
use borrow.Author.Tests.{ltb-true, ltb-false}
use lib.ListN.{length}
use Rattle.ahead.proofs.Walk.{walked_more, walked_past, walked_none}
use Rattle.scan.specs.Block.{walk_of}
use Rattle.scan.proofs.walk_block.Goals as goal

pub loop-at-preserved : goal.loop-at-preserved
loop-at-preserved c =
    let l = c.loop-at in
    let a = c.args in
    rw c.from-at.ensures (walked_more _ a.lengths.now (length a.lengths.now) l.left l.at tt (omega arith) (omega (arith, ltb-true)) ∙ l.invariant)

pub returns-else-left-gt0 : goal.returns-else-left-gt0
returns-else-left-gt0 c =
    let l = c.loop-at in
    let a = c.args in
    ap walk_of (sym (walked_none _ a.lengths.now (length a.lengths.now) l.left l.at tt (omega (arith, ltb-false))) ∙ l.invariant)

pub returns-after-loop-at : goal.returns-after-loop-at
returns-after-loop-at c =
    let l = c.loop-at in
    let a = c.args in
    ap walk_of (sym (walked_past _ a.lengths.now (length a.lengths.now) l.left l.at tt (omega arith)) ∙ l.invariant)
