-- `measure::skipped` meets its contract: nothing is skipped, or what stands in its shortest form. Assumes nothing.
use Rattle.measure.proofs.Weighing.{skip_none}
use Rattle.measure.proofs.skipped.Goals as goal

pub returns : goal.returns
returns c = skip_none _ _
