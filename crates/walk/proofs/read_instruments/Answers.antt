-- `walk::read_instruments` meets its contract. The loop's invariant: so many instruments are read, and their forms are measured. Assumes nothing.
use Prim.Native.Nat.{◌+◌}
use mathlib.Core.Path.{sym, ap, ◌∙◌}
use native.Mathlib.Omega.{arith}
use Rattle.refusal.specs.Refusal.{step_by}
use Rattle.xm.specs.Instrument.{instrument_format}
use Rattle.steps.specs.Kind.{kind_of}
use Rattle.walk.specs.File.{run_given}
use Rattle.walk.proofs.RunLaws.{InstrumentsRead, instruments_start, instruments_short, instruments_on, instruments_out, instruments_end}
use Rattle.walk.proofs.read_instruments.Goals as goal
use Rattle.walk.proofs.read_instruments.Goals.{After-form_of-pressed}

-- One more is read and measured
measured-more : (u : After-form_of-pressed) →
    let a = u.args in
    let part = u.in-Given.part in
    InstrumentsRead a.file.now (kind_of a.kind) a.at a.count (u.loop.counter + 1) part.next (u.loop.pressed + u.form_of-pressed.result.length)
measured-more u =
    instruments_on _ _ _ u.loop.invariant u.loop-test.true
    (record { below = λ i. omega (arith, u.type_inv.file i) })
    u.form_of-pressed.result (sym u.in-Given.is ∙ u.read_instrument-step.ensures) u.form_of-pressed.ensures

pub loop-init : goal.loop-init
loop-init c = instruments_start _ _ _ _ c.requires.at_in_bounds

pub returns-in_default-clause-answer : goal.returns-in_default-clause-answer
returns-in_default-clause-answer c =
    sym (ap (step_by (run_given (instrument_format (kind_of c.args.kind)) _))
    (instruments_out _ _ _ c.loop.invariant.reached c.loop-test.true c.read_instrument-step.ensures
    c.in_default.is c.refusal.ensures))

pub overflow_add-pressed : goal.overflow_add-pressed
overflow_add-pressed c = omega (arith, instruments_short _ _ _ (measured-more (goal.at.overflow_add-pressed c).After-form_of-pressed))

pub loop-preserved : goal.loop-preserved
loop-preserved c = measured-more (goal.at.loop-preserved c).After-form_of-pressed

pub returns-clause-answer : goal.returns-clause-answer
returns-clause-answer c = let w = c.loop.invariant in instruments_end _ _ _ w c.loop-test.false
