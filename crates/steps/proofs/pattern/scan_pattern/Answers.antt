-- `steps::pattern::scan_pattern` meets its contract: a test's refusal, that of the stored cells, or the next place. Assumes nothing.
use mathlib.Core.Path.{refl, sym, ap, ◌∙◌}
use native.Mathlib.Omega.{arith}
use Rattle.std.proofs.lemmas.Grind.{common_steps}
use Rattle.refusal.specs.Refusal.{place_step}
use Rattle.refusal.specs.declared.Step.TheVariants.{Refused}
use Rattle.refusal.proofs.Steps.{place_refused}
use Rattle.steps.proofs.PatternLaws.{pattern_fails, refusal_place, pattern_out, scan_in}
use Rattle.steps.proofs.pattern.scan_pattern.Goals as goal

pub returns-in-Err : goal.returns-in-Err
returns-in-Err c =
    let a = c.args in
    ap Refused c.at.ensures ∙ sym (ap (place_step a.at) (pattern_fails a.file.now a.at a.channels.count (sym c.in-Err.is ∙ c.tried_head.ensures)))

pub refusal_from-requires : goal.refusal_from-requires
refusal_from-requires c =
    let a = c.args in
    let out = place_refused 0 _ c.scan_stored-step.ensures c.in_default.is c.refusal.ensures in
    let near = refusal_place a.file.now a.at a.channels.count (sym c.in-Ok.is ∙ c.tried_head.ensures) (record { below = λ i. omega (arith, c.type_inv.file i) }) out in
    grind (arith, common_steps)

pub returns-in_default : goal.returns-in_default
returns-in_default c =
    let a = c.args in
    let out = place_refused 0 _ c.scan_stored-step.ensures c.in_default.is c.refusal.ensures in
    ap Refused c.refusal_from.ensures ∙ sym (ap (place_step a.at) (pattern_out a.file.now a.at a.channels.count (sym c.in-Ok.is ∙ c.tried_head.ensures) out))

pub returns : goal.returns
returns c =
    let a = c.args in
    scan_in a.file.now a.at a.channels.count (sym c.in-Ok.is ∙ c.tried_head.ensures) _ refl (sym c.in-Given.is ∙ c.scan_stored-step.ensures)
