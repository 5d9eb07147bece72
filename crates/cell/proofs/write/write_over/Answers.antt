-- `cell::write::write_over` meets its contract: the fields go over the lead byte, or behind it. Assumes nothing.
use Prim.Native.Nat.{ℕ, ◌+◌}
use mathlib.Core.Path.{◌≡◌, sym, ap, ◌∙◌}
use mathlib.Core.Bool.{Bool, cond}
use mathlib.Core.List.{List}
use native.Mathlib.Omega.{arith}
use Rattle.xm.specs.Cell.{five, marks}
use Rattle.xm.proofs.Cell.{five_same}
use Rattle.cell.proofs.WriteLaws.{lead_plain}
use Rattle.cell.proofs.OverLaws.{over_first, over_more, over_done}
use Rattle.cell.proofs.write.write_over.Goals as goal
use Rattle.cell.proofs.write.write_over.Goals.{After-lead_of-lead}

cell : (c : After-lead_of-lead) → five c.args.cell.now ≡ c.args.cell.now
cell c = five_same c.args.cell.now (omega arith)

lead : (c : After-lead_of-lead) → c.lead_of-lead.result ≡ 128 + marks (five c.args.cell.now)
lead c = c.lead_of-lead.ensures ∙ ap (λ (l : List ℕ). 128 + marks l) (sym (cell c))

pub returns : goal.returns
returns c =
    let six = c.requires in
    let s₀ = over_first c.args.out.now _ _ _ _ _ _ _ (lead (goal.at.returns c).After-lead_of-lead)
    (c.first_place-p0.ensures.value ∙ ap (λ (t : Bool). cond t 0 1) (c.goes_plain.ensures ∙ lead_plain _ _ _ _ _ _ (lead (goal.at.returns c).After-lead_of-lead))) six in
    let s₁ = over_more _ _ s₀ (omega arith) six (c.put_over-p1.ensures.value, (c.put_over-p1.ensures.upper_bound, c.put_over-p1.ensures.out_after)) in
    let s₂ = over_more _ _ s₁ (omega arith) six (c.put_over-p2.ensures.value, (c.put_over-p2.ensures.upper_bound, c.put_over-p2.ensures.out_after)) in
    let s₃ = over_more _ _ s₂ (omega arith) six (c.put_over-p3.ensures.value, (c.put_over-p3.ensures.upper_bound, c.put_over-p3.ensures.out_after)) in
    let s₄ = over_more _ _ s₃ (omega arith) six (c.put_over-p4.ensures.value, (c.put_over-p4.ensures.upper_bound, c.put_over-p4.ensures.out_after)) in
    rw (← cell (goal.at.returns c).After-lead_of-lead)
    (let both = over_done (over_more _ _ s₄ (omega arith) six (c.put_over.ensures.value, (c.put_over.ensures.upper_bound, c.put_over.ensures.out_after))) in
    record { value = both.0; over = both.1 })
