-- `fiddlemarsh::fiddlemarsh_code` meets its contract: the number of what the call below it answers. Assumes nothing.
use mathlib.Core.Path.{◌∙◌}
use lib.ListN.{length}
use Rattle.loader.proofs.NumberLaws.{code_fits, code_same}
use Rattle.fiddlemarsh.proofs.fiddlemarsh_code.Goals as goal

pub answer_number-requires : goal.answer_number-requires
answer_number-requires c =
    let a = c.args in
    code_fits a.width a.values.now (length a.bytes.now) c.code-coded.ensures.answer

pub returns-clause-answer : goal.returns-clause-answer
returns-clause-answer c =
    let a = c.args in
    c.answer_number.ensures ∙ code_same a.width a.values.now (length a.bytes.now) c.code-coded.ensures.answer
