-- `rewrite::rewrite_over` meets its contract: the fields behind the place of the lead byte or over it, and the lead byte last.
-- Assumes nothing.
use mathlib.Core.Path.{refl, ap, ◌∙◌}
use mathlib.Core.Bool.{Bool, cond}
use native.Mathlib.Omega.{arith}
use Rattle.xm.specs.Cell.{kepts}
use Rattle.cell.proofs.ReadLaws.{cell_fields_lem}
use Rattle.cell.proofs.OverLaws.{over_more}
use Rattle.rewrite.proofs.RewriteLaws.{stored_plain, lead_moved, left_over, over_lead}
use Rattle.rewrite.proofs.rewrite_over.Goals as goal

pub returns : goal.returns
returns c =
    let six = c.requires.over_most_in_bounds in
    let n₁ = c.fields_of-fields.ensures.instrument in
    let n₂ = c.fields_of-fields.ensures.volume in
    let n₃ = c.fields_of-fields.ensures.effect in
    let n₄ = c.fields_of-fields.ensures.parameter in
    let cell = cell_fields_lem c.args.place c.args.stored.now c.fields_of-fields.ensures.note n₁ n₂ n₃ n₄ in
    let plain = rw cell at (stored_plain c.args.place c.args.stored.now c.fields_of-fields.ensures.note) in
    let is_place = c.first_place-p0.ensures.value ∙ ap (λ (t : Bool). cond t 0 1) c.stored_plain.ensures in
    let lead = lead_moved _ _ _ _ _ c.first_place-p0.result c.put_field_over-p1.ensures.value c.put_field_over-p2.ensures.value
    c.put_field_over-p3.ensures.value c.put_field_over-p4.ensures.value c.put_field_over-p5.ensures.value c.lead_by.ensures in
    let s₀ = left_over c.args.out.now (kepts _) {place = c.first_place-p0.result} (omega arith) in
    let s₁ = over_more _ _ s₀ (omega arith) six (c.put_field_over-p1.ensures.value, (c.put_field_over-p1.ensures.upper_bound, c.put_field_over-p1.ensures.out_after)) in
    let s₂ = over_more _ _ s₁ (omega arith) six (c.put_field_over-p2.ensures.value, (c.put_field_over-p2.ensures.upper_bound, c.put_field_over-p2.ensures.out_after)) in
    let s₃ = over_more _ _ s₂ (omega arith) six (c.put_field_over-p3.ensures.value, (c.put_field_over-p3.ensures.upper_bound, c.put_field_over-p3.ensures.out_after)) in
    let s₄ = over_more _ _ s₃ (omega arith) six (c.put_field_over-p4.ensures.value, (c.put_field_over-p4.ensures.upper_bound, c.put_field_over-p4.ensures.out_after)) in
    rw cell
    (let both = over_lead _ refl _ lead c.args.out.now six _ plain is_place
    (over_more _ _ s₄ (omega arith) six (c.put_field_over-p5.ensures.value, (c.put_field_over-p5.ensures.upper_bound, c.put_field_over-p5.ensures.out_after))) in
    record { value = both.0; over = both.1 })
