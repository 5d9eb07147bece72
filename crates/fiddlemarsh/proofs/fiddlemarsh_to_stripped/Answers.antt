-- `fiddlemarsh::fiddlemarsh_to_stripped` meets its contract: the number of what the call below it answers. Assumes nothing.
use mathlib.Core.Path.{◌∙◌}
use native.Mathlib.Omega.{arith}
use lib.ListN.{length}
use Rattle.xm.specs.ModuleKind.{stripped}
use Rattle.loader.proofs.NumberLaws.{convert_fits, convert_same}
use Rattle.fiddlemarsh.proofs.fiddlemarsh_to_stripped.Goals as goal

pub answer_number-requires : goal.answer_number-requires
answer_number-requires c =
    let a = c.args in
    convert_fits stripped a.file.now (length a.out.now) c.to_stripped-converted.ensures.answer
    (record { below = λ i. omega (arith, c.type_inv.file i) })

pub returns-clause-answer : goal.returns-clause-answer
returns-clause-answer c =
    let a = c.args in
    c.answer_number.ensures ∙ convert_same stripped a.file.now (length a.out.now) c.to_stripped-converted.ensures.answer
