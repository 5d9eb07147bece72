-- `walk::scan_patterns` meets its contract. The loop's invariant: so many patterns are tried. Assumes nothing.
use mathlib.Core.Path.{sym, ◌∙◌}
use native.Mathlib.Omega.{arith}
use Rattle.walk.proofs.RunLaws.{tried_start, tried_end, tried_out, tried_on}
use Rattle.walk.proofs.scan_patterns.Goals as goal

pub loop-init : goal.loop-init
loop-init c = tried_start _ _ _ _ c.requires

pub returns-in_default : goal.returns-in_default
returns-in_default c = tried_out _ _ _ _ c.loop.invariant c.loop-test.true c.scan_pattern-step.ensures c.in_default.is

pub loop-preserved : goal.loop-preserved
loop-preserved c =
    tried_on _ _ _ _ c.loop.invariant c.loop-test.true (record { below = λ i. omega (arith, c.type_inv.file i) })
    (omega arith) (sym c.in-Given.is ∙ c.scan_pattern-step.ensures)

pub returns : goal.returns
returns c = tried_end _ _ _ _ c.loop.invariant c.loop-test.false
