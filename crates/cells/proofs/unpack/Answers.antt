-- `cells::unpack` meets its contract: a law for each exit, in the order 16, the cells, 14. Assumes nothing.
use Prim.Native.Nat.{ℕ, ◌≤◌}
use mathlib.Core.Bool.{Bool, true, false}
use mathlib.Core.List.{List}
use mathlib.Core.Path.{◌≡◌, refl, sym, ap, ◌∙◌}
use native.Mathlib.Omega.{arith}
use borrow.Author.Tests.{eqb-true, eqb-false}
use native.Mathlib.Nat.{mul-le-mul}
use lib.Dec.{eqb}
use lib.ListN.{length}
use Rattle.xm.specs.Answer.{in_front}
use Rattle.xm.proofs.Packing.{UnpackRange, unpack_argument, unpack_cells, unpack_room, unpack_gives}
use Rattle.refusal.proofs.Steps.{place_refused}
use Rattle.cells.proofs.UnpackedLaws.{range_holds, range_fails, StoredFound, found_of, rows_found, bytes_none, fine_some, bytes_some, bytes_long}
use Rattle.cells.proofs.UnpackedLaws.{answers_refusal, answers_pattern}
use Rattle.cells.proofs.unpack.Goals as goal
use Rattle.cells.proofs.unpack.Goals.{Else-stored-gt65535, In-Given}
use Rattle.cells.proofs.unpack.Goals.{then-not-in_range-via-then-not-in_range, then-not-in_range-via-else-not-in_range+then-stored-gt65535}

-- Past the tests for 16; and what the first pass found
range : (c : Else-stored-gt65535) →
    let a = c.args in
    UnpackRange a.rows a.channels a.stored.now
range c =
    let a = c.args in
    range_holds a.rows a.channels a.stored.now (sym c.in_range.ensures ∙ c.if-not-in_range.false) (omega arith)

found : (c : In-Given) →
    let a = c.args in
    StoredFound a.channels a.rows a.stored.now
found c = found_of _ _ _ c.scan_stored-step.ensures c.in-Given.is

-- Data, or none
none : {n : ℕ} {empty : Bool} → empty ≡ eqb n 0 → empty ≡ true → n ≡ 0
none {n} e t = eqb-true n 0 (sym e ∙ t)

some : {n : ℕ} {empty : Bool} → empty ≡ eqb n 0 → empty ≡ false → 1 ≤ n
some {n} e t = let h = eqb-false n 0 (sym e ∙ t) in omega arith

pub returns-then-not-in_range : goal.returns-then-not-in_range
returns-then-not-in_range c =
    let a = c.args in
    let d = a.stored.now in
    let lent = a.cells.now in
    let both = answers_refusal a.rows a.channels d lent (unpack_argument a.rows a.channels d (length lent) (λ h.
    elim c.then-not-in_range.branch [
      | then-not-in_range-via-then-not-in_range w ↦ range_fails a.rows a.channels d (sym c.in_range.ensures ∙ w.if-not-in_range.true) h
      | then-not-in_range-via-else-not-in_range+then-stored-gt65535 w ↦ omega (arith, h.1.1.0, w.if-stored-gt65535.true)
    ])) c.at.ensures in
    record { value = both.0; cells_after = both.1 }

pub scan_stored-step-requires : goal.scan_stored-step-requires
scan_stored-step-requires c = let h = range c in (h.0, (h.1.0, tt))

pub returns-in_default : goal.returns-in_default
returns-in_default c =
    let a = c.args in
    let d = a.stored.now in
    let lent = a.cells.now in
    let both = answers_refusal a.rows a.channels d lent
    (unpack_cells a.rows a.channels d (length lent) (range (goal.at.returns-in_default c).Else-stored-gt65535)
    (place_refused 0 _ c.scan_stored-step.ensures c.in_default.is c.refusal.ensures)) refl in
    record { value = both.0; cells_after = both.1 }

pub overflow_mul-count : goal.overflow_mul-count
overflow_mul-count c = let h = range (goal.at.overflow_mul-count c).Else-stored-gt65535 in omega (arith, mul-le-mul h.0.1 h.1.0.1)

pub overflow_mul-count-2 : goal.overflow_mul-count-2
overflow_mul-count-2 c = let h = range (goal.at.overflow_mul-count-2 c).Else-stored-gt65535 in omega (arith, mul-le-mul h.0.1 h.1.0.1)

pub returns-then-cells-count : goal.returns-then-cells-count
returns-then-cells-count c =
    let a = c.args in
    let d = a.stored.now in
    let lent = a.cells.now in
    let f = found (goal.at.returns-then-cells-count c).In-Given in
    let both = answers_refusal a.rows a.channels d lent
    (unpack_room a.rows a.channels d (length lent) (range (goal.at.returns-then-cells-count c).Else-stored-gt65535) f.reads (omega (arith, bytes_long f, c.if-cells-count.true))) c.at-then-cells-count.ensures in
    record { value = both.0; cells_after = both.1 }

pub fill_cells-requires-clause-stored_value : goal.fill_cells-requires-clause-stored_value
fill_cells-requires-clause-stored_value c = fine_some (found (goal.at.fill_cells-requires-clause-stored_value c).In-Given) (some c.is_empty.ensures c.if-is_empty.false)

pub returns-then-is_empty : goal.returns-then-is_empty
returns-then-is_empty c =
    let a = c.args in
    let d = a.stored.now in
    let lent = a.cells.now in
    let f = found (goal.at.returns-then-is_empty c).In-Given in
    let both = answers_pattern a.rows a.channels d lent
    (unpack_gives a.rows a.channels d (length lent) (range (goal.at.returns-then-is_empty c).Else-stored-gt65535) f.reads (omega (arith, bytes_long f, c.if-cells-count.false))) (omega (arith, rows_found f))
    (c.clear.ensures ∙ ap (λ (x : List ℕ). in_front x lent) (sym (bytes_none f (none c.is_empty.ensures c.if-is_empty.true)))) in
    record { value = both.0; cells_after = both.1 }

pub returns-else-is_empty : goal.returns-else-is_empty
returns-else-is_empty c =
    let a = c.args in
    let d = a.stored.now in
    let lent = a.cells.now in
    let f = found (goal.at.returns-else-is_empty c).In-Given in
    let both = answers_pattern a.rows a.channels d lent
    (unpack_gives a.rows a.channels d (length lent) (range (goal.at.returns-else-is_empty c).Else-stored-gt65535) f.reads (omega (arith, bytes_long f, c.if-cells-count.false))) (omega (arith, rows_found f))
    (c.fill_cells.ensures ∙ ap (λ (x : List ℕ). in_front x lent) (sym (bytes_some f (some c.is_empty.ensures c.if-is_empty.false)))) in
    record { value = both.0; cells_after = both.1 }
