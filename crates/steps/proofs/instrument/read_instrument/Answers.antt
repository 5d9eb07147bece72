-- `steps::instrument::read_instrument` meets its contract: a test's refusal, the samples' one, or what they come to, of the file's own kind.
-- Assumes nothing.
use mathlib.Core.Path.{◌≡◌, sym, ap, ◌∙◌}
use native.Mathlib.Omega.{arith}
use lib.ListN.{drop}
use Rattle.xm.specs.ModuleKind.{ModuleKind}
use Rattle.xm.specs.Got.{AllHold}
use Rattle.xm.specs.Header.{kind_at}
use Rattle.xm.specs.Instrument.{instrument_tests}
use Rattle.refusal.specs.Refusal.{step_by}
use Rattle.refusal.specs.Test.{tested}
use Rattle.refusal.specs.declared.Step.TheVariants.{Refused}
use Rattle.refusal.proofs.Steps.{place_refused}
use Rattle.refusal.proofs.TestLaws.{tested_holds}
use Rattle.steps.specs.Step.{instrument_given}
use Rattle.steps.proofs.InstrumentLaws.{instrument_fails, fields_of_lem, instrument_out, instrument_read}
use Rattle.steps.proofs.instrument.read_instrument.Goals as goal
use Rattle.steps.proofs.instrument.read_instrument.Goals.{After-instrument_refusal, In_default}

-- The tests were those of the file's own kind
own : (t : After-instrument_refusal) →
    let a = t.args in
    tested (instrument_tests (kind_at a.file.now) a.at (drop a.at a.file.now)) ≡ t.instrument_refusal.result
own t =
    let a = t.args in
    sym (t.instrument_refusal.ensures ∙ ap (λ (kind : ModuleKind). tested (instrument_tests kind a.at (drop a.at a.file.now))) t.of.ensures)

held : (t : In_default) →
    let a = t.args in
    AllHold (instrument_tests (kind_at a.file.now) a.at (drop a.at a.file.now))
held t = let a = t.args in tested_holds (instrument_tests (kind_at a.file.now) a.at (drop a.at a.file.now)) (own (goal.at.In_default t).After-instrument_refusal ∙ t.in_default.is)

pub returns-in-Err : goal.returns-in-Err
returns-in-Err c =
    let a = c.args in
    ap Refused c.at.ensures
    ∙ sym (ap (step_by (instrument_given a.at))
    (instrument_fails a.file.now (kind_at a.file.now) a.at (own (goal.at.returns-in-Err c).After-instrument_refusal ∙ c.in-Err.is)))

pub returns-in_default-step : goal.returns-in_default-step
returns-in_default-step c =
    let a = c.args in
    let out = place_refused _ _ c.read_samples-step.ensures c.in_default-step.is c.refusal.ensures in
    sym (ap (step_by (instrument_given a.at))
    (instrument_out a.file.now (kind_at a.file.now) a.at (held (goal.at.returns-in_default-step c).In_default) c.instrument_head-head.ensures out))

pub returns : goal.returns
returns c =
    let a = c.args in
    let h = held (goal.at.returns c).In_default in
    let f = fields_of_lem a.file.now (kind_at a.file.now) a.at h c.instrument_head-head.ensures in
    instrument_read a.file.now (kind_at a.file.now) a.at h c.instrument_head-head.ensures (sym c.in-Given.is ∙ c.read_samples-step.ensures)
    (omega (arith, f.heads))
