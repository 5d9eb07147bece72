-- `cells::fill_cells` meets its contract: what is written so far and what is still to come make the whole, and the eight is the one that
-- stands here. Assumes nothing.
use Prim.Native.Nat.{ℕ, ◌+◌, ◌*◌, ◌-◌, ◌≤◌}
use mathlib.Core.List.{List}
use mathlib.Core.Path.{◌≡◌, refl}
use native.Mathlib.Omega.{arith}
use borrow.Author.Tests.{leb-true}
use borrow.Rule.Slice.PartMut.{put_mid}
use lib.ListN.{length, take, drop}
use Rattle.xm.specs.Format.{flat}
use Rattle.xm.specs.Answer.{in_front}
use Rattle.xm.specs.Run.{cells_in}
use Rattle.cell.specs.Read.{cell_fields}
use Rattle.cell.proofs.ReadLaws.{fields_of_lem}
use Rattle.ahead.proofs.AheadLaws.{lead_at}
use Rattle.cells.specs.Unpacked.{first_fields}
use Rattle.cells.proofs.Fill.{Filling, filling_none, filling_more, filling_front, filling_rest}
use Rattle.cells.proofs.fill_cells.Goals as goal
use Rattle.cells.proofs.fill_cells.Goals.{Then-stored-at-ge21, After-fill_first}

-- In a turn: 21 bytes stand from here on; and what is written once the first cells are
wide : (c : Then-stored-at-ge21) → c.loop-left.at + 21 ≤ length c.args.stored.now
wide c = omega (arith, leb-true)

front : (c : After-fill_first) {written : List ℕ} →
    let l = c.loop-left in
    let a = c.args in
    let s = a.stored.now in
    let seen = c.look_ahead-turn.result in
    written ≡ in_front (first_fields l.eight (drop l.at s)) (take (length l.out - l.to) (drop l.to l.out))
    → Filling s (flat (cells_in a.count s)) a.out.now (put_mid l.to (length l.out - l.to) l.out written)
    seen.last (l.to + seen.cells * 5) (l.left - seen.cells)
front c e =
    let l = c.loop-left in
    let right = l.invariant.1.right (omega (arith, wide (goal.at.After-fill_first c).Then-stored-at-ge21)) in
    filling_front l.invariant.0 (omega arith) l.eight c.look_ahead-turn.ensures
    (lead_at c.args.stored.now l.at l.eight
    (λ i. omega (arith, c.type_inv.stored i)) right) e

filled : goal.returns
filled c =
    let l = c.loop-left in
    let s = c.args.stored.now in
    filling_rest l.invariant.0 (flat (cells_in l.left (drop l.at s))) c.fill_each.ensures refl

pub loop-left-init : goal.loop-left-init
loop-left-init c =
    let a = c.args in
    (filling_none a.stored.now 0 a.count (omega arith) c.requires.stored_value c.requires.cell_size_in_bounds (omega arith), c.first_eight-eight.ensures)

pub loop-left-preserved : goal.loop-left-preserved
loop-left-preserved c =
    let few = c.look_ahead-turn.ensures.few in
    let f = front (goal.at.loop-left-preserved c).After-fill_first c.fill_first.ensures in (
      filling_more f (cell_fields c.take_over.result) c.put_plain.ensures (omega arith) (fields_of_lem _ c.take_over.ensures)
          c.look_ahead-turn.ensures.next (omega arith),
      record { right = λ h. c.eight_at-next.ensures },
    )

pub returns : goal.returns
returns c = filled c
