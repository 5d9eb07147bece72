-- `measure::skip_short` meets its contract. The loop's invariant: each cell passed has the weight 1, and the eight is the one that stands here.
-- Assumes nothing.
use Prim.Native.Nat.{◌+◌, ◌≤◌}
use mathlib.Core.Path.{sym, ◌∙◌}
use native.Mathlib.Omega.{arith}
use borrow.Author.Tests.{leb-true}
use lib.ListN.{length}
use Rattle.measure.proofs.Weighing.{weighing_start, weighing_turn, skip_end}
use Rattle.measure.proofs.skip_short.Goals as goal
use Rattle.measure.proofs.skip_short.Goals.{Then-stored-used-ge21}

-- In a turn 21 bytes stand from here on
wide : (c : Then-stored-used-ge21) → c.loop-left.used + 21 ≤ length c.args.stored.now
wide c = omega (arith, leb-true)

pub loop-left-init : goal.loop-left-init
loop-left-init c = (weighing_start _ _, c.first_eight-eight.ensures)

pub loop-left-preserved : goal.loop-left-preserved
loop-left-preserved c =
    let i = c.loop-left in (
      weighing_turn (λ i. omega (arith, c.type_inv.stored i)) c.requires i.invariant.0 (omega arith)
          (wide (goal.at.loop-left-preserved c).Then-stored-used-ge21) c.look_ahead-turn.ensures (sym c.is_longer.ensures ∙ c.if-is_longer.false)
          (sym c.is_longer-else-is_longer.ensures ∙ c.if-is_longer-2.false),
      record { right = λ h. c.eight_at-eight.ensures },
    )

pub returns-else-stored-used-ge21 : goal.returns-else-stored-used-ge21
returns-else-stored-used-ge21 c = skip_end _ _ _ _ c.requires c.loop-left.invariant.0

pub returns-after-loop-left : goal.returns-after-loop-left
returns-after-loop-left c = skip_end _ _ _ _ c.requires c.loop-left.invariant.0

pub returns-then-is_longer : goal.returns-then-is_longer
returns-then-is_longer c = skip_end _ _ _ _ c.requires c.loop-left.invariant.0
