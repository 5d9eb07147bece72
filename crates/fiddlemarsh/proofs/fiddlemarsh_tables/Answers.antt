-- `fiddlemarsh::fiddlemarsh_tables` meets its contract: the number of what the call below it answers. Assumes nothing.
use mathlib.Core.Path.{◌∙◌}
use native.Mathlib.Omega.{arith}
use Rattle.tables.specs.Into.{lent}
use Rattle.loader.proofs.NumberLaws.{tables_fits, tables_same}
use Rattle.fiddlemarsh.proofs.fiddlemarsh_tables.Goals as goal

pub answer_number-requires : goal.answer_number-requires
answer_number-requires c =
    let a = c.args in
    tables_fits a.file.now (lent a.patterns.now a.instruments.now a.samples.now a.tunes.now) c.check_into-verdict.ensures.answer
    (record { below = λ i. omega (arith, c.type_inv.file i) })

pub returns-clause-answer : goal.returns-clause-answer
returns-clause-answer c =
    let a = c.args in
    c.answer_number.ensures ∙ tables_same a.file.now (lent a.patterns.now a.instruments.now a.samples.now a.tunes.now) c.check_into-verdict.ensures.answer
