-- `scan::scan_stored` meets its contract: a law for each exit. Assumes nothing.
use Prim.Native.Nat.{◌≤◌}
use mathlib.Core.Path.{sym, ap, ◌∙◌}
use native.Mathlib.Omega.{arith}
use borrow.Author.Tests.{eqb-true, eqb-false}
use lib.ListN.{length}
use Rattle.xm.proofs.Stored.{stored_none}
use Rattle.refusal.specs.Refusal.{place_step}
use Rattle.scan.proofs.BlockLaws.{scan_refused, scan_left, scan_whole}
use Rattle.scan.proofs.scan_stored.Goals as goal
use Rattle.scan.proofs.scan_stored.Goals.{After-scan_cells-step}

pub returns-then-is_empty : goal.returns-then-is_empty
returns-then-is_empty c = sym (ap (place_step 0) (stored_none _ _ 0 _ (eqb-true _ _ (sym c.is_empty.ensures ∙ c.if-is_empty.true))))

some : (c : After-scan_cells-step) → 1 ≤ length c.args.stored.now
some c = omega (arith, eqb-false _ _ (sym c.is_empty.ensures ∙ c.if-is_empty.false))

pub returns-in_default : goal.returns-in_default
returns-in_default c =
    scan_refused _ _ _ (some (goal.at.returns-in_default c).After-scan_cells-step) c.scan_cells-step.ensures c.in_default.is

pub returns-then-used-stored : goal.returns-then-used-stored
returns-then-used-stored c =
    rw c.at.ensures
    (scan_left _ _ _ (some (goal.at.returns-then-used-stored c).After-scan_cells-step) c.scan_cells-step.ensures c.in-Given.is c.if-used-stored.true)

pub returns : goal.returns
returns c =
    scan_whole _ _ _ (some (goal.at.returns c).After-scan_cells-step) c.scan_cells-step.ensures c.in-Given.is c.if-used-stored.false
