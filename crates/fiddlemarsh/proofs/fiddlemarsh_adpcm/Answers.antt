-- `fiddlemarsh::fiddlemarsh_adpcm` meets its contract: the number of what the call below it answers. Assumes nothing.
use mathlib.Core.Path.{◌∙◌}
use lib.ListN.{length}
use Rattle.loader.proofs.NumberLaws.{adpcm-fits, adpcm_same}
use Rattle.fiddlemarsh.proofs.fiddlemarsh_adpcm.Goals as goal

pub answer_number-requires : goal.answer_number-requires
answer_number-requires c =
    let a = c.args in
    adpcm-fits a.count a.bytes.now (length a.values.now) c.decode_adpcm-decoded.ensures.answer

pub returns-clause-answer : goal.returns-clause-answer
returns-clause-answer c =
    let a = c.args in
    c.answer_number.ensures ∙ adpcm_same a.count a.bytes.now (length a.values.now) c.decode_adpcm-decoded.ensures.answer
