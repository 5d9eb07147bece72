-- `fiddlemarsh::fiddlemarsh_check` meets its contract: the number of what the call below it answers. Assumes nothing.
use mathlib.Core.Path.{◌∙◌}
use native.Mathlib.Omega.{arith}
use Rattle.loader.proofs.NumberLaws.{check_fits, check_same}
use Rattle.fiddlemarsh.proofs.fiddlemarsh_check.Goals as goal

pub answer_number-requires : goal.answer_number-requires
answer_number-requires c =
    check_fits c.args.file.now c.check-verdict.ensures (record { below = λ i. omega (arith, c.type_inv.file i) })

pub returns : goal.returns
returns c = c.answer_number.ensures ∙ check_same c.args.file.now c.check-verdict.ensures
