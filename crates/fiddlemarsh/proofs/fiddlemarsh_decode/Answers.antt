-- `fiddlemarsh::fiddlemarsh_decode` meets its contract: the number of what the call below it answers. Assumes nothing.
use mathlib.Core.Path.{◌∙◌}
use lib.ListN.{length}
use Rattle.loader.proofs.NumberLaws.{decode_fits, decode_same}
use Rattle.fiddlemarsh.proofs.fiddlemarsh_decode.Goals as goal

pub answer_number-requires : goal.answer_number-requires
answer_number-requires c =
    let a = c.args in
    decode_fits a.width a.bytes.now (length a.values.now) c.decode-decoded.ensures.answer

pub returns-clause-answer : goal.returns-clause-answer
returns-clause-answer c =
    let a = c.args in
    c.answer_number.ensures ∙ decode_same a.width a.bytes.now (length a.values.now) c.decode-decoded.ensures.answer
