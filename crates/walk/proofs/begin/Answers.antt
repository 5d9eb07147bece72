-- `walk::begin` meets its contract: the size's refusal, or the header's step. Assumes nothing.
use mathlib.Core.Path.{sym, ap, ◌∙◌}
use native.Mathlib.Omega.{arith}
use Rattle.refusal.specs.Refusal.{step_by}
use Rattle.steps.specs.Step.{header_given}
use Rattle.walk.proofs.FileLaws.{file_large, file_small}
use Rattle.walk.proofs.begin.Goals as goal

pub returns-then-file-gt-FILE_MOST : goal.returns-then-file-gt-FILE_MOST
returns-then-file-gt-FILE_MOST c = rw c.at.ensures (sym (ap (step_by header_given) (file_large _ _ (omega arith))))

pub returns : goal.returns
returns c = c.read_header.ensures ∙ sym (ap (step_by header_given) (file_small _ _ (omega arith)))
