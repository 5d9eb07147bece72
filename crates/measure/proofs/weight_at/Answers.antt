-- `measure::weight_at` meets its contract: the bytes are those of the cell that would begin here. Assumes nothing.
use Rattle.cell.proofs.ReadLaws.{one_if}
use Rattle.measure.proofs.WeightLaws.{weight_by}
use Rattle.measure.proofs.weight_at.Goals as goal

pub returns : goal.returns
returns c =
    weight_by c.args.stored.now c.args.place (one_if _ c.from-first.ensures) (one_if _ c.from-second.ensures) (one_if _ c.from-third.ensures)
    (one_if _ c.from-fourth.ensures) (one_if _ c.from-fifth.ensures) c.plain_weight-plain.ensures c.marked_weight-marked.ensures c.chosen.ensures
