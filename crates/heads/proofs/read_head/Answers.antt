-- `heads::read_head` meets its contract. Assumes nothing.
use mathlib.Core.Path.{sym, ap, ◌∙◌}
use Rattle.refusal.specs.declared.Step.TheVariants.{Refused}
use Rattle.heads.proofs.SampleLaws.{head_fails, head_passed}
use Rattle.heads.proofs.read_head.Goals as goal

pub returns-in-Err : goal.returns-in-Err
returns-in-Err c =
    ap Refused c.at.ensures ∙ head_fails _ _ _ c.sample_head-head.ensures c.requires (sym c.head_refusal.ensures ∙ c.in-Err.is)

pub returns : goal.returns
returns c = head_passed _ _ _ c.sample_head-head.ensures c.requires (sym c.head_refusal.ensures ∙ c.in_default.is)
