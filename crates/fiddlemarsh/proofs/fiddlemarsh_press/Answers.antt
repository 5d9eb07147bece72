-- `fiddlemarsh::fiddlemarsh_press` meets its contract: the number of what the call below it answers. Assumes nothing.
use mathlib.Core.Path.{◌∙◌}
use native.Mathlib.Omega.{arith}
use lib.ListN.{length}
use Rattle.loader.proofs.NumberLaws.{press_fits, press_same}
use Rattle.fiddlemarsh.proofs.fiddlemarsh_press.Goals as goal

pub answer_number-requires : goal.answer_number-requires
answer_number-requires c =
    let a = c.args in
    press_fits a.file.now (length a.out.now) c.press-pressed.ensures.answer
    (record { below = λ i. omega (arith, c.type_inv.file i) })

pub returns-clause-answer : goal.returns-clause-answer
returns-clause-answer c =
    let a = c.args in
    c.answer_number.ensures ∙ press_same a.file.now (length a.out.now) c.press-pressed.ensures.answer
