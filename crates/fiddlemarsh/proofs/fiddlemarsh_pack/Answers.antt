-- `fiddlemarsh::fiddlemarsh_pack` meets its contract: the number of what the call below it answers. Assumes nothing.
use mathlib.Core.Path.{◌∙◌}
use lib.ListN.{length}
use Rattle.loader.proofs.NumberLaws.{pack_fits, pack_same}
use Rattle.fiddlemarsh.proofs.fiddlemarsh_pack.Goals as goal

pub answer_number-requires : goal.answer_number-requires
answer_number-requires c =
    let a = c.args in
    pack_fits a.rows a.channels a.cells.now (length a.out.now) c.pack-packed.ensures.value

pub returns-clause-answer : goal.returns-clause-answer
returns-clause-answer c =
    let a = c.args in
    c.answer_number.ensures ∙ pack_same a.rows a.channels a.cells.now (length a.out.now) c.pack-packed.ensures.value
