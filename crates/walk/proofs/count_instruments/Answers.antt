-- `walk::count_instruments` meets its contract. The loop's invariant: so many instruments are read, and their samples are counted. Assumes nothing.
use Prim.Native.Nat.{◌+◌}
use mathlib.Core.Path.{sym, ap, ◌∙◌}
use native.Mathlib.Omega.{arith}
use Rattle.refusal.specs.Refusal.{step_by}
use Rattle.walk.specs.File.{count_given}
use Rattle.walk.proofs.RunLaws.{InstrumentsTried, counted_start, counted_on, instruments_out, counted_end}
use Rattle.walk.proofs.count_instruments.Goals as goal
use Rattle.walk.proofs.count_instruments.Goals.{In-Given}

-- One more is read
counted-more : (t : In-Given) →
    let a = t.args in
    let part = t.in-Given.part in
    InstrumentsTried a.file.now a.at a.count (t.loop.counter + 1) part.next (t.loop.samples + part.samples)
counted-more t =
    counted_on _ _ _ t.loop.invariant t.loop-test.true (record { below = λ i. omega (arith, t.type_inv.file i) })
    (sym t.in-Given.is ∙ t.read_instrument-step.ensures)

pub loop-init : goal.loop-init
loop-init c = counted_start _ _ _ c.requires.at_in_bounds

pub returns-in_default : goal.returns-in_default
returns-in_default c =
    sym (ap (step_by (count_given _))
    (instruments_out _ _ _ c.loop.invariant.reached c.loop-test.true c.read_instrument-step.ensures
    c.in_default.is c.refusal.ensures))

pub overflow_add-samples : goal.overflow_add-samples
overflow_add-samples c = omega (arith, (counted-more (goal.at.overflow_add-samples c).In-Given).few)

pub loop-preserved : goal.loop-preserved
loop-preserved c = counted-more (goal.at.loop-preserved c).In-Given

pub returns : goal.returns
returns c = counted_end _ _ _ c.loop.invariant c.loop-test.false
