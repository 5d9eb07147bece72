-- `forms::kept_by_eights` meets its contract. The loop's invariant: without the zeros behind, as many are left of those before as of all.
-- Assumes nothing.
use mathlib.Core.Path.{sym, ◌∙◌}
use native.Mathlib.Omega.{arith}
use Rattle.forms.proofs.KeptLaws.{eight_kept}
use Rattle.forms.proofs.kept_by_eights.Goals as goal

pub loop-left-preserved : goal.loop-left-preserved
loop-left-preserved c =
    eight_kept c.loop-left.invariant (omega arith) (sym c.eight_at.ensures ∙ c.if-eight_at-ne0.false)
