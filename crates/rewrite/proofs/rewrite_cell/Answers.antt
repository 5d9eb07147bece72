-- `rewrite::rewrite_cell` meets its contract: as a lent cell if all five fields are stored, else marked, its lead byte last.
-- Assumes nothing.
use Prim.Native.Nat.{◌+◌, ◌≤◌, ◌<◌}
use mathlib.Core.Path.{◌≡◌, refl, sym, ◌∙◌}
use mathlib.Core.Bool.{false}
use native.Mathlib.Omega.{arith}
use lib.ListN.{length, get_or, drop}
use Rattle.xm.specs.Cell.{five, fields_by, cell_at, kepts, plain_by}
use Rattle.xm.proofs.Cell.{length_some, few_marked}
use Rattle.cell.proofs.ReadLaws.{Inside, first_inside, fields_inside, cell_first, cell_fields_lem}
use Rattle.cell.proofs.WriteLaws.{written_marked, put_more}
use Rattle.rewrite.proofs.RewriteLaws.{stored_five, stored_few, five_inside, lead_moved, kept_least, kept_next, left_first, laid_lead}
use Rattle.rewrite.proofs.rewrite_cell.Goals as goal
use Rattle.rewrite.proofs.rewrite_cell.Goals.{After-fields_of-fields, After-five_at, Then-fields-eq31, Else-fields-eq31}

-- All its fields lie inside
inside : (c : After-fields_of-fields) → Inside c.fields_of-fields.result (length c.args.stored.now)
inside c = fields_inside c.args.place c.args.stored.now c.fields_of-fields.ensures c.requires.place_in_bounds

-- With all five stored
same : (c : Then-fields-eq31) → (let a = c.args in
    cell_at (drop a.place a.stored.now) ≡ five (drop c.fields_of-fields.result.note.place a.stored.now))
same c =
    let a = c.args in
    stored_five a.place a.stored.now c.fields_of-fields.ensures.note (omega arith)

written : (c : After-five_at) → (let a = c.args in c.five_at.result.now ≡ cell_at (drop a.place a.stored.now))
written c = c.five_at.ensures ∙ sym (same (goal.at.After-five_at c).Then-fields-eq31)

-- and else
few : (c : Else-fields-eq31) → (let a = c.args in length (kepts (cell_at (drop a.place a.stored.now))) < 5)
few c =
    let a = c.args in
    stored_few a.place a.stored.now c.fields_of-fields.ensures.note (λ h. c.if-fields-eq31.false (omega arith))

mark : (c : Else-fields-eq31)
    → (let a = c.args in let cell = cell_at (drop a.place a.stored.now) in
    plain_by (get_or cell 0 0) (length (kepts cell)) ≡ false)
mark c = few_marked _ _ (omega (arith, few c))

room : (c : Else-fields-eq31) → (let a = c.args in
    1 + length (kepts (fields_by 5 c.fields_of-fields.result.note.bits (drop c.fields_of-fields.result.note.place a.stored.now))) ≤ length a.out.now)
room c =
    let cell = cell_at (drop c.args.place c.args.stored.now) in
    let fits : 1 + length (kepts cell) ≤ length c.args.out.now = omega (arith, written_marked cell (mark c), c.requires.stored_in_bounds) in
    rw (cell_first c.args.place c.args.stored.now c.fields_of-fields.ensures.note) at fits

pub bounds-stored-place : goal.bounds-stored-place
bounds-stored-place c = let a = c.args in omega (arith, length_some (get_or a.stored.now a.place 0))

pub five_at-requires : goal.five_at-requires
five_at-requires c =
    let a = c.args in
    five_inside (first_inside a.place (get_or a.stored.now a.place 0) _ c.fields_of-fields.ensures.note c.requires.place_in_bounds) (omega arith)

pub write_cell-requires : goal.write_cell-requires
write_cell-requires c = rw (written (goal.at.write_cell-requires c).After-five_at) c.requires.stored_in_bounds

pub returns-then-fields-eq31 : goal.returns-then-fields-eq31
returns-then-fields-eq31 c = rw (← written (goal.at.returns-then-fields-eq31 c).After-five_at) (record { value = c.write_cell.ensures.value; out_after = c.write_cell.ensures.out_after })

pub put_field-p1-requires : goal.put_field-p1-requires
put_field-p1-requires c =
    record { bits_in_bounds = (inside (goal.at.put_field-p1-requires c).After-fields_of-fields).note; stored_in_bounds = omega (arith, room (goal.at.put_field-p1-requires c).Else-fields-eq31, kept_least 4 c.args.stored.now c.fields_of-fields.result.note) }

pub put_field-p2-requires : goal.put_field-p2-requires
put_field-p2-requires c =
    let s = c.args.stored.now in
    record { bits_in_bounds = (inside (goal.at.put_field-p2-requires c).After-fields_of-fields).instrument; stored_in_bounds = omega (arith, room (goal.at.put_field-p2-requires c).Else-fields-eq31, kept_next 4 s c.fields_of-fields.ensures.instrument, kept_least 3 s c.fields_of-fields.result.instrument) }

pub put_field-p3-requires : goal.put_field-p3-requires
put_field-p3-requires c =
    let s = c.args.stored.now in record {
      bits_in_bounds = (inside (goal.at.put_field-p3-requires c).After-fields_of-fields).volume;
      stored_in_bounds = omega (
        arith,
        room (goal.at.put_field-p3-requires c).Else-fields-eq31,
        kept_next 4 s c.fields_of-fields.ensures.instrument,
        kept_next 3 s c.fields_of-fields.ensures.volume,
        kept_least 2 s c.fields_of-fields.result.volume,
      );
    }

pub put_field-p4-requires : goal.put_field-p4-requires
put_field-p4-requires c =
    let s = c.args.stored.now in record {
      bits_in_bounds = (inside (goal.at.put_field-p4-requires c).After-fields_of-fields).effect;
      stored_in_bounds = omega (
        arith,
        room (goal.at.put_field-p4-requires c).Else-fields-eq31,
        c.put_field-p1.auto.out,
        c.put_field-p2.auto.out,
        c.put_field-p3.auto.out,
        c.put_field-p1.ensures.value,
        c.put_field-p2.ensures.value,
        c.put_field-p3.ensures.value,
        kept_next 4 s c.fields_of-fields.ensures.instrument,
        kept_next 3 s c.fields_of-fields.ensures.volume,
        kept_next 2 s c.fields_of-fields.ensures.effect,
        kept_least 1 s c.fields_of-fields.result.effect,
      );
    }

pub put_field-p5-requires : goal.put_field-p5-requires
put_field-p5-requires c =
    let s = c.args.stored.now in record {
      bits_in_bounds = (inside (goal.at.put_field-p5-requires c).After-fields_of-fields).parameter;
      stored_in_bounds = omega (
        arith,
        room (goal.at.put_field-p5-requires c).Else-fields-eq31,
        c.put_field-p1.auto.out,
        c.put_field-p2.auto.out,
        c.put_field-p3.auto.out,
        c.put_field-p4.auto.out,
        c.put_field-p1.ensures.value,
        c.put_field-p2.ensures.value,
        c.put_field-p3.ensures.value,
        c.put_field-p4.ensures.value,
        kept_next 4 s c.fields_of-fields.ensures.instrument,
        kept_next 3 s c.fields_of-fields.ensures.volume,
        kept_next 2 s c.fields_of-fields.ensures.effect,
        kept_next 1 s c.fields_of-fields.ensures.parameter,
        kept_least 0 s c.fields_of-fields.result.parameter,
      );
    }

pub bounds-out-0 : goal.bounds-out-0
bounds-out-0 c =
    omega (
      arith,
      room (goal.at.bounds-out-0 c).Else-fields-eq31,
      c.put_field-p5.auto.out,
      c.put_field-p4.auto.out,
      c.put_field-p3.auto.out,
      c.put_field-p2.auto.out,
      c.put_field-p1.auto.out,
    )

pub returns : goal.returns
returns c =
    let a = c.args in
    let n₁ = c.fields_of-fields.ensures.instrument in
    let n₂ = c.fields_of-fields.ensures.volume in
    let n₃ = c.fields_of-fields.ensures.effect in
    let n₄ = c.fields_of-fields.ensures.parameter in
    let cell = cell_fields_lem a.place a.stored.now c.fields_of-fields.ensures.note n₁ n₂ n₃ n₄ in
    let lead = lead_moved _ _ _ _ _ 1 c.put_field-p1.ensures.value c.put_field-p2.ensures.value c.put_field-p3.ensures.value c.put_field-p4.ensures.value
    c.put_field-p5.ensures.value c.lead_by.ensures in
    let s₀ = left_first a.out.now (kepts _) (rw (sym (cell_first a.place a.stored.now c.fields_of-fields.ensures.note), cell) at (room (goal.at.returns c).Else-fields-eq31)) in
    let s₁ = put_more _ _ s₀ (c.put_field-p1.ensures.value, c.put_field-p1.ensures.out_after) in
    let s₂ = put_more _ _ s₁ (c.put_field-p2.ensures.value, c.put_field-p2.ensures.out_after) in
    let s₃ = put_more _ _ s₂ (c.put_field-p3.ensures.value, c.put_field-p3.ensures.out_after) in
    let s₄ = put_more _ _ s₃ (c.put_field-p4.ensures.value, c.put_field-p4.ensures.out_after) in
    rw cell
    (let both = laid_lead _ refl _ lead a.out.now (omega (arith, room (goal.at.returns c).Else-fields-eq31)) (rw cell at (mark (goal.at.returns c).Else-fields-eq31))
    (put_more _ _ s₄ (c.put_field-p5.ensures.value, c.put_field-p5.ensures.out_after)) in
    record { value = both.0; out_after = both.1 })
