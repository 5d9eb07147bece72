-- `steps::header::read_header` meets its contract: a test's refusal, or the header's counts and start. Assumes nothing.
use mathlib.Core.Path.{◌≡◌, sym, ap, ◌∙◌}
use Rattle.xm.specs.ModuleKind.{ModuleKind}
use Rattle.xm.specs.Header.{kind_at, header_tests}
use Rattle.refusal.specs.Refusal.{step_by}
use Rattle.refusal.specs.Test.{tested}
use Rattle.refusal.specs.declared.Step.TheVariants.{Given, Refused}
use Rattle.refusal.proofs.TestLaws.{tested_holds}
use Rattle.steps.specs.Step.{header_given}
use Rattle.steps.proofs.HeaderLaws.{header_fails, header_passes}
use Rattle.steps.proofs.header.read_header.Goals as goal
use Rattle.steps.proofs.header.read_header.Goals.{After-header_refusal}

-- The tests were those of the file's own kind
own : (t : After-header_refusal) →
    let file = t.args.file.now in
    tested (header_tests (kind_at file) 0 file) ≡ t.header_refusal.result
own t =
    let file = t.args.file.now in
    sym (t.header_refusal.ensures ∙ ap (λ (kind : ModuleKind). tested (header_tests kind 0 file)) t.of.ensures)

pub returns-in-Err : goal.returns-in-Err
returns-in-Err c =
    let file = c.args.file.now in
    ap Refused c.at.ensures
    ∙ sym (ap (step_by header_given) (header_fails (kind_at file) file (own (goal.at.returns-in-Err c).After-header_refusal ∙ c.in-Err.is)))

pub returns : goal.returns
returns c =
    let file = c.args.file.now in
    let held = tested_holds (header_tests (kind_at file) 0 file) (own (goal.at.returns c).After-header_refusal ∙ c.in_default.is) in
    ap Given c.header_part.ensures ∙ sym (ap (step_by header_given) (header_passes (kind_at file) file held))
