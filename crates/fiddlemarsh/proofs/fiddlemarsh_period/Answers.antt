-- `fiddlemarsh::fiddlemarsh_period` meets its contract: the number of what the call below it answers. Assumes nothing.
use mathlib.Core.Path.{◌∙◌, ap}
use lib.IntN.{ℤ}
use mir.Facts.{to_z-of_z}
use Rattle.loader.proofs.NumberLaws.{period_fits, period_same}
use Rattle.periods.specs.Period.{tuning}
use Rattle.refusal.specs.Refusal.{outcome}
use Rattle.periods.specs.Tuned.{quotient_of}
use Rattle.fiddlemarsh.proofs.fiddlemarsh_period.Goals as goal

-- the call below is handed the finetune as the machine holds it
pub answer_number-requires : goal.answer_number-requires
answer_number-requires c =
    period_fits c.args.note c.args.finetune (c.period-tuned.ensures ∙ ap (λ (z : ℤ). outcome quotient_of (tuning c.args.note z)) (to_z-of_z c.ranges.finetune))

pub returns : goal.returns
returns c =
    c.answer_number.ensures
    ∙ period_same c.args.note c.args.finetune
    (c.period-tuned.ensures ∙ ap (λ (z : ℤ). outcome quotient_of (tuning c.args.note z)) (to_z-of_z c.ranges.finetune))
