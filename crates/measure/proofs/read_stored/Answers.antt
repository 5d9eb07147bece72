-- `measure::read_stored` meets its contract: a law for each exit. Assumes nothing.
use Prim.Native.Nat.{◌≤◌}
use mathlib.Core.Path.{sym, ◌∙◌}
use native.Mathlib.Omega.{arith}
use borrow.Author.Tests.{eqb-true, eqb-false}
use lib.ListN.{length}
use Rattle.measure.proofs.Stored.{measured_none, measured_refused, measured_left, measured_nothing, measured_whole}
use Rattle.measure.proofs.read_stored.Goals as goal
use Rattle.measure.proofs.read_stored.Goals.{After-measure_cells-step}

pub returns-then-is_empty : goal.returns-then-is_empty
returns-then-is_empty c = measured_none _ _ _ (eqb-true _ _ (sym c.is_empty.ensures ∙ c.if-is_empty.true))

some : (c : After-measure_cells-step) → 1 ≤ length c.args.stored.now
some c = omega (arith, eqb-false _ _ (sym c.is_empty.ensures ∙ c.if-is_empty.false))

pub returns-in_default : goal.returns-in_default
returns-in_default c =
    measured_refused _ _ _ (some (goal.at.returns-in_default c).After-measure_cells-step) c.measure_cells-step.ensures c.in_default.is

pub returns-then-size-stored : goal.returns-then-size-stored
returns-then-size-stored c =
    rw c.at.ensures
    (measured_left _ _ _ (some (goal.at.returns-then-size-stored c).After-measure_cells-step) c.measure_cells-step.ensures c.in-Given.is c.if-size-stored.true)

pub returns-then-stored_size-eq0 : goal.returns-then-stored_size-eq0
returns-then-stored_size-eq0 c =
    measured_nothing _ _ _ (some (goal.at.returns-then-stored_size-eq0 c).After-measure_cells-step) c.measure_cells-step.ensures c.in-Given.is
    c.if-size-stored.false c.stored_size.ensures c.if-stored_size-eq0.true

pub returns : goal.returns
returns c =
    measured_whole _ _ _ (some (goal.at.returns c).After-measure_cells-step) c.measure_cells-step.ensures c.in-Given.is c.if-size-stored.false
    c.stored_size.ensures c.if-stored_size-eq0.false
