-- `asking::sample_stretch` meets its contract. Assumes nothing.
use Rattle.asking.proofs.AskLaws.{asked_inside}
use Rattle.asking.proofs.sample_stretch.Goals as goal

pub asked_stretch-requires : goal.asked_stretch-requires
asked_stretch-requires c = let a = c.args in asked_inside a.file.now _ a.number _ c.ask_sample.ensures
