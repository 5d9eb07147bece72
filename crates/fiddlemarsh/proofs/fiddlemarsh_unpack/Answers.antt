-- `fiddlemarsh::fiddlemarsh_unpack` meets its contract: the number of what the call below it answers. Assumes nothing.
use mathlib.Core.Path.{◌∙◌}
use native.Mathlib.Omega.{arith}
use lib.ListN.{length}
use Rattle.loader.proofs.NumberLaws.{unpack_fits, unpack_same}
use Rattle.fiddlemarsh.proofs.fiddlemarsh_unpack.Goals as goal

pub answer_number-requires : goal.answer_number-requires
answer_number-requires c =
    let a = c.args in
    unpack_fits a.rows a.channels a.stored.now (length a.cells.now) c.unpack-unpacked.ensures.value
    (record { below = λ i. omega (arith, c.type_inv.stored i) })

pub returns-clause-answer : goal.returns-clause-answer
returns-clause-answer c =
    let a = c.args in
    c.answer_number.ensures ∙ unpack_same a.rows a.channels a.stored.now (length a.cells.now) c.unpack-unpacked.ensures.value
