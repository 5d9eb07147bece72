-- `measure::measure_from` meets its contract. The loop's invariant: the answer is what measuring comes to from here on. Assumes nothing.
use mathlib.Core.Path.{ap, ◌∙◌}
use native.Mathlib.Omega.{arith}
use lib.ListN.{get_or}
use Rattle.xm.specs.Short.{shortest_by}
use Rattle.xm.proofs.Cell.{length_some}
use Rattle.refusal.proofs.Steps.{place_refused}
use Rattle.cell.specs.declared.read.Cell.{Cell}
use Rattle.cell.proofs.ReadLaws.{kept_of, Tried, tried}
use Rattle.measure.proofs.MeasureLaws.{measuring_cell, measuring_stop, measuring_done}
use Rattle.measure.proofs.measure_from.Goals as goal
use Rattle.measure.proofs.measure_from.Goals.{In-Given}

-- The cell that was tried
seen : (c : In-Given) → Tried c.loop.size.used c.args.stored.now c.in-Given.next
seen c = tried c.loop.size.used c.args.stored.now c.loop.invariant.inside c.try_cell-step.ensures c.in-Given.is

pub returns-in_default : goal.returns-in_default
returns-in_default c =
    measuring_stop c.loop.invariant (omega arith) (place_refused _ _ c.try_cell-step.ensures c.in_default.is c.refusal.ensures)

pub take_cell-cell-requires : goal.take_cell-cell-requires
take_cell-cell-requires c = (seen c).fits

pub bounds-stored-size : goal.bounds-stored-size
bounds-stored-size c =
    omega (arith, (seen (goal.at.bounds-stored-size c).In-Given).fits, length_some (get_or c.args.stored.now c.loop.size.used 0))

pub loop-preserved : goal.loop-preserved
loop-preserved c =
    let t = seen (goal.at.loop-preserved c).In-Given in
    measuring_cell c.loop.invariant (omega arith) t.reads t.long (omega (arith, t.long)) (c.kept_count-kept.ensures ∙ kept_of _ c.take_cell-cell.ensures)
    (c.shortest_by-least.ensures ∙ ap (λ (cell : Cell). shortest_by cell.note c.kept_count-kept.result) c.take_cell-cell.ensures)
    c.still_same-same.ensures (omega arith)

pub returns : goal.returns
returns c = measuring_done c.loop.invariant (omega arith)
