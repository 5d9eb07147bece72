-- `cell::write::write_cell` meets its contract: plain, or marked. Assumes nothing.
use Prim.Native.Nat.{ℕ, ◌+◌, ◌≤◌}
use mathlib.Core.Path.{◌≡◌, sym, ap, ◌∙◌}
use mathlib.Core.Bool.{false}
use mathlib.Core.List.{List}
use native.Mathlib.Omega.{arith}
use lib.ListN.{length, get_or, set, length-set}
use Rattle.xm.specs.Answer.{in_front}
use Rattle.xm.specs.Cell.{five, bit, marks, kepts, plain_by, write_cell}
use Rattle.xm.proofs.Cell.{five_same, kepts_sum}
use Rattle.cell.proofs.WriteLaws.{count_plain, written_marked, lead_plain, put_first, put_more, put_done}
use Rattle.cell.proofs.write.write_cell.Goals as goal
use Rattle.cell.proofs.write.write_cell.Goals.{After-lead_of-lead, Then-goes_plain, Else-goes_plain}

-- The cell by its bytes: its lead byte, and the room for it
same : (c : After-lead_of-lead) → five c.args.cell.now ≡ c.args.cell.now
same c = five_same c.args.cell.now (omega arith)

lead : (c : After-lead_of-lead) → c.lead_of-lead.result ≡ 128 + marks (five c.args.cell.now)
lead c = c.lead_of-lead.ensures ∙ ap (λ (l : List ℕ). 128 + marks l) (sym (same c))

-- A plain one is as it stands
plain : (c : Then-goes_plain) → write_cell (five c.args.cell.now) ≡ five c.args.cell.now
plain c =
    count_plain (five c.args.cell.now)
    (sym (lead_plain _ _ _ _ _ c.lead_of-lead.result (lead (goal.at.Then-goes_plain c).After-lead_of-lead)) ∙ sym c.goes_plain.ensures ∙ c.if-goes_plain.true)

-- and a marked one has its lead byte, and a byte for each field that is kept
marked : (c : Else-goes_plain) → (let a = c.args in let cell = five a.cell.now in
    (plain_by (get_or cell 0 0) (length (kepts cell)) ≡ false) × (1 + length (kepts cell) ≤ length a.out.now))
marked c =
    let a = c.args in
    let all = same (goal.at.Else-goes_plain c).After-lead_of-lead in
    let mark = sym (lead_plain _ _ _ _ _ c.lead_of-lead.result (lead (goal.at.Else-goes_plain c).After-lead_of-lead)) ∙ sym c.goes_plain.ensures ∙ c.if-goes_plain.false in
    (mark, omega (arith, written_marked (five a.cell.now) mark, ap (λ (l : List ℕ). length (write_cell l)) all, c.requires))

bits : (c : Else-goes_plain) → (let a = c.args in let s = a.cell.now in
    1 + (bit (get_or s 0 0) + (bit (get_or s 1 0) + (bit (get_or s 2 0) + (bit (get_or s 3 0) + bit (get_or s 4 0)))))
    ≤ length (set a.out.now 0 c.lead_of-lead.result))
bits c =
    let a = c.args in
    let s = a.cell.now in
    omega (
      arith,
      kepts_sum (get_or s 0 0) (get_or s 1 0) (get_or s 2 0) (get_or s 3 0) (get_or s 4 0),
      (marked c).1,
      length-set a.out.now 0 c.lead_of-lead.result,
    )

pub copy_plain-requires : goal.copy_plain-requires
copy_plain-requires c =
    let all = same (goal.at.copy_plain-requires c).After-lead_of-lead in
    omega (arith, ap length (plain (goal.at.copy_plain-requires c).Then-goes_plain), ap (λ (l : List ℕ). length (write_cell l)) all, c.requires)

pub returns-then-goes_plain : goal.returns-then-goes_plain
returns-then-goes_plain c =
    let a = c.args in
    let all = same (goal.at.returns-then-goes_plain c).After-lead_of-lead in
    let stands : write_cell a.cell.now ≡ a.cell.now = rw all at (plain (goal.at.returns-then-goes_plain c).Then-goes_plain) in
    record { value = omega (arith, ap length stands); out_after = c.copy_plain.ensures ∙ ap (λ (l : List ℕ). in_front l a.out.now) (sym stands) }

pub bounds-out-0 : goal.bounds-out-0
bounds-out-0 c = omega (arith, (marked c).1)

pub put-p1-requires : goal.put-p1-requires
put-p1-requires c = omega (arith, bits (goal.at.put-p1-requires c).Else-goes_plain)

pub put-p2-requires : goal.put-p2-requires
put-p2-requires c = omega (arith, bits (goal.at.put-p2-requires c).Else-goes_plain)

pub put-p3-requires : goal.put-p3-requires
put-p3-requires c = omega (arith, bits (goal.at.put-p3-requires c).Else-goes_plain)

pub put-p4-requires : goal.put-p4-requires
put-p4-requires c = omega (arith, bits (goal.at.put-p4-requires c).Else-goes_plain)

pub put-requires : goal.put-requires
put-requires c = omega (arith, bits (goal.at.put-requires c).Else-goes_plain)

pub returns : goal.returns
returns c =
    let a = c.args in
    let cell = five a.cell.now in
    let s₀ = put_first a.out.now cell _ (lead (goal.at.returns c).After-lead_of-lead) (marked (goal.at.returns c).Else-goes_plain).1 in
    let s₁ = put_more _ _ s₀ (c.put-p1.ensures.value, c.put-p1.ensures.out_after) in
    let s₂ = put_more _ _ s₁ (c.put-p2.ensures.value, c.put-p2.ensures.out_after) in
    let s₃ = put_more _ _ s₂ (c.put-p3.ensures.value, c.put-p3.ensures.out_after) in
    let s₄ = put_more _ _ s₃ (c.put-p4.ensures.value, c.put-p4.ensures.out_after) in
    rw (← same (goal.at.returns c).After-lead_of-lead)
    (let both = put_done cell (put_more _ _ s₄ (c.put.ensures.value, c.put.ensures.out_after)) (marked (goal.at.returns c).Else-goes_plain).0 in
    record { value = both.0; out_after = both.1 })
