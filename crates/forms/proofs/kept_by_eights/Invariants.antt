-- `forms::kept_by_eights` meets its contract. The loop's invariant: without the zeros behind, as many are left of those before as of all.
-- Assumes nothing.
use Rattle.forms.proofs.KeptLaws.{KeptLeft}
use Rattle.forms.proofs.kept_by_eights.Given as goal

abbrev pub invariant-loop-left : goal.invariant-loop-left
invariant-loop-left l = KeptLeft l.bytes l.left

abbrev pub decreases-loop-left : goal.decreases-loop-left
decreases-loop-left l = l.left
