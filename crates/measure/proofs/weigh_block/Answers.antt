-- `measure::weigh_block` meets its contract. The loop's invariant: from here on the walk ends where it is to end, and the sums are small.
-- Assumes nothing.
use mathlib.Core.Path.{sym, ap, ◌∙◌}
use native.Mathlib.Omega.{arith}
use borrow.Author.Tests.{ltb-true, ltb-false}
use lib.ListN.{length}
use Rattle.ahead.proofs.Walk.{walked_more, walked_past, walked_none}
use Rattle.measure.specs.Weight.{weigh_of}
use Rattle.measure.proofs.weigh_block.Goals as goal

pub loop-at-preserved : goal.loop-at-preserved
loop-at-preserved c =
    let l = c.loop-at in
    let a = c.args in (
      rw (c.from-at.ensures, c.from-weight.ensures) (walked_more _ a.lengths.now (length a.lengths.now) l.left l.at l.sums (omega arith) (omega (arith, ltb-true))
          ∙ l.invariant.0),
      omega arith,
      omega (arith, ltb-true),
      omega (arith, ltb-true, c.type_inv.weights l.at),
    )

pub returns-else-left-gt0 : goal.returns-else-left-gt0
returns-else-left-gt0 c =
    let l = c.loop-at in
    let a = c.args in
    ap weigh_of (sym (walked_none _ a.lengths.now (length a.lengths.now) l.left l.at l.sums (omega (arith, ltb-false)))
    ∙ l.invariant.0)

pub returns-after-loop-at : goal.returns-after-loop-at
returns-after-loop-at c =
    let l = c.loop-at in
    let a = c.args in
    ap weigh_of (sym (walked_past _ a.lengths.now (length a.lengths.now) l.left l.at l.sums (omega arith)) ∙ l.invariant.0)
