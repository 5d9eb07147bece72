-- `forms::kept` meets its contract. The loop's invariant: without the zeros behind, as many are left of those before as of all. Assumes nothing.
use Rattle.forms.proofs.KeptLaws.{KeptLeft}
use Rattle.forms.proofs.kept.Given as goal

abbrev pub invariant-loop-last : goal.invariant-loop-last
invariant-loop-last l = KeptLeft l.bytes l.last
