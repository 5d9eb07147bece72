-- The law of each exit, at the width that was found. Assumes nothing.
use Rattle.std.proofs.Common.{sym, ◌∙◌, true≢false, refl, arith}
use Rattle.xm.proofs.Delta.{coding_width, coding_outside}
use Rattle.samples.proofs.Exits.{code_refused}
use Rattle.samples.proofs.code.Goals as goal

pub returns-in_default : goal.returns-in_default
returns-in_default c =
    let a = c.args in
    let both = code_refused a.width a.values.now a.bytes.now c.at-in_default.ensures (coding_width _ _ _ (λ e. absurd (omega arith)) (λ e. absurd (omega arith))) in
    record { answer = both.0; memory = both.1 }

pub returns-then-not-all_fit8 : goal.returns-then-not-all_fit8
returns-then-not-all_fit8 c =
    let a = c.args in
    rw c.in-8.is
    (let both = code_refused 8 a.values.now a.bytes.now c.at.ensures
    (coding_outside 8 a.values.now _ refl (λ covered. true≢false (sym (covered refl) ∙ sym c.all_fit8.ensures ∙ c.if-not-all_fit8.true))) in
    record { answer = both.0; memory = both.1 })
