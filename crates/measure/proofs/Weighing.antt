-- Laws of a loop that weighs cells, block by block: what their weights come to is their shortest length. Assumes nothing.
use Prim.Native.Nat.{ℕ, ◌+◌, ◌-◌, ◌*◌, ◌/◌, ◌%◌, ◌≤◌, ◌<◌}
use mathlib.Core.Bool.{Bool, true, false, ◌&&◌, and-eq-true_iff}
use mathlib.Core.List.{List}
use mathlib.Core.Path.{◌≡◌, refl, sym, ap, ap₂, ◌∙◌}
use native.Mathlib.Omega.{arith}
use borrow.Author.Tests.{eq-eqb, eqb-true, eqb-false}
use lib.Dec.{eqb}
use lib.ListN.{length, get_or, take, drop}
use lib.Seq.{get_or-drop, length-take-le}
use Rattle.std.proofs.lemmas.List.{get_or-take}
use Rattle.xm.specs.Cell.{length_by, needed, cell_at, write_cell}
use Rattle.xm.specs.Short.{is_short}
use Rattle.xm.specs.Stored.{read_run}
use Rattle.xm.proofs.Cell.{write_short}
use Rattle.xm.proofs.Lay.{head_at_lem}
use Rattle.refusal.specs.declared.Step.{Step}
use Rattle.cell.proofs.ReadLaws.{read_got_at, empty_length}
use Rattle.ahead.specs.declared.Ahead.{Ahead}
use Rattle.ahead.specs.Ahead.{AheadOf, block_size, Follows, lengths_from}
use Rattle.ahead.proofs.Lengths.{length_six}
use Rattle.ahead.proofs.AheadLaws.{run_over}
use Rattle.ahead.proofs.Walk.{walked_some, walked_over}
use Rattle.measure.specs.declared.StoredSize.{StoredSize}
use Rattle.measure.specs.declared.Sums.{Sums}
use Rattle.measure.specs.declared.Weigh.{Weigh}
use Rattle.measure.specs.Measure.{no_cells, measured_on}
use Rattle.measure.specs.Weight.{some_of, weight_of, weights_from, added, weighed, weigh_of, long_lead, Skipped}
use Rattle.measure.proofs.WeightLaws.{some_add, some_most, some_all, weighs, weight_one}
use Rattle.measure.proofs.MeasureLaws.{bool_same, sized, Measuring, measuring_more}

-- An empty cell's lead byte
empty_lead : (lead note : ℕ) → lead ≡ 128 → long_lead lead note ≡ false
unfolding long_lead
empty_lead lead note e = rw e

-- None is odd, and the shortest forms are as long as the bytes: of all exactly if of those before and of the last one
module _ (odd more shortest least used long : ℕ) (h : shortest ≤ used) (k : least ≤ long) where
  abbrev both : Bool
  both = (eqb odd 0 && eqb shortest used) && (eqb more 0 && eqb least long)

  abbrev all : Bool
  all = eqb (odd + more) 0 && eqb (shortest + least) (used + long)

  and_both : (a b : Bool) → (a && b) ≡ true → (a ≡ true) × (b ≡ true)
  and_both a b e = (and-eq-true_iff a b).0 e

  both_and : {a b : Bool} → a ≡ true → b ≡ true → (a && b) ≡ true
  both_and {a} {b} p q = (and-eq-true_iff a b).1 (p, q)

  even_more : both ≡ all
  even_more =
      bool_same both all
      (λ e.
      let t = and_both (eqb odd 0 && eqb shortest used) (eqb more 0 && eqb least long) e in
      let x = and_both (eqb odd 0) (eqb shortest used) t.0 in
      let y = and_both (eqb more 0) (eqb least long) t.1 in
      let p = eqb-true odd 0 x.0 in
      let q = eqb-true shortest used x.1 in
      let u = eqb-true more 0 y.0 in
      let v = eqb-true least long y.1 in
      both_and (eq-eqb (odd + more) 0 (omega arith)) (eq-eqb (shortest + least) (used + long) (omega arith)))
      (λ e.
      let t = and_both (eqb (odd + more) 0) (eqb (shortest + least) (used + long)) e in
      let p = eqb-true (odd + more) 0 t.0 in
      let q = eqb-true (shortest + least) (used + long) t.1 in
      both_and (both_and (eq-eqb odd 0 (omega arith)) (eq-eqb shortest used (omega arith)))
      (both_and (eq-eqb more 0 (omega arith)) (eq-eqb least long (omega arith))))

-- Of `count` cells `left` are still to come, from `used` on, and the loop's answer is to be `answer`
pub record Weighing (s : List ℕ) (answer : Step StoredSize) (count used left : ℕ) (sums : Sums) : Type 0 where
  pub shortest : ℕ
  pub same : Bool
  pub measuring : Measuring s answer (sized used shortest same) left
  pub fewer : left ≤ count
  pub sum : some_of used s + sums.extra ≡ shortest + (count - left)
  pub even : same ≡ (eqb sums.odd 0 && eqb shortest used)
  pub small : (sums.extra ≤ 15 * (count - left)) × (sums.odd ≤ 15 * (count - left))

-- One for each cell, as of cells in their shortest form, and none of bytes that are 0
abbrev pub ones_of : (cells : ℕ) → Sums
ones_of cells = record { extra = cells; odd = 0 }

pub weighing_start : (s : List ℕ) (count : ℕ) → Weighing s (measured_on no_cells s (read_run count 0 s)) count 0 count (ones_of (count - count))
unfolding some_of
weighing_start s count = record {
  shortest = 0;
  same = true;
  measuring = record { inside = omega arith; small = omega arith; rest = refl };
  fewer = omega arith;
  sum = omega arith;
  even = refl;
  small = (omega arith, omega arith);
}

module _ {s : List ℕ} {answer : Step StoredSize} {count : ℕ} (bytes : (i : ℕ) → get_or s i 0 ≤ 255) where
  move : {used used' left left' : ℕ} {sums sums' : Sums} → Weighing s answer count used left sums → used' ≡ used → left' ≡ left → sums'.extra ≡ sums.extra
      → sums'.odd ≡ sums.odd
      → Weighing s answer count used' left' sums'
  move v p q r t = rw (p, q, r, t) v

  weighing_more : {used left : ℕ} {sums : Sums} → Weighing s answer count used left sums → 0 < left → used + length_by (get_or s used 0) ≤ length s
      → Weighing s answer count (used + length_by (get_or s used 0)) (left - 1)
      (record { extra = sums.extra + weight_of (drop used s) % 16; odd = sums.odd + weight_of (drop used s) / 16 })
  weighing_more {used} {left} {sums} v some fits =
      let d = drop used s in
      let least = length (write_cell (cell_at d)) in
      let long : needed d ≡ length_by (get_or s used 0) = ap length_by (head_at_lem used s 0) in
      let w = weighs d (rw (head_at_lem used s 0) (bytes used)) in
      let few = v.fewer in
      let m = v.measuring.small in
      let short = write_short d in
      record {
        shortest = v.shortest + least;
        same = v.same && is_short d;
        measuring = measuring_more v.measuring some (read_got_at used s fits) refl;
        fewer = omega arith;
        sum = omega (arith, some_add used (length_by (get_or s used 0)) s, v.sum, w.extra, ap (λ (n : ℕ). some_of n d) long);
        even = rw (v.even, w.short, long) (even_more sums.odd (weight_of d / 16) v.shortest least used (length_by (get_or s used 0)) m (omega arith));
        small = (omega (arith, v.small), omega (arith, v.small, w.most));
      }

  -- The cells of a block, as far as they stand inside what there is
  pub weighing_block : (place size : ℕ) {lengths weights : List ℕ} → Follows (lengths_from s place) size lengths → Follows (weights_from s place) size weights
      → size ≤ block_size → place + size ≤ length s → {left : ℕ} {sums : Sums} {walk : Weigh} → Weighing s answer count place left sums
      → walk ≡ weigh_of (weighed (take size lengths) (take size weights) (length (take size lengths)) left 0 sums)
      → place + walk.at ≤ length s → Weighing s answer count (place + walk.at) walk.left walk.sums
  weighing_block place size {lengths} {weights} long heavy most inside {left} {sums} {walk} v e h =
      let all : length (take size lengths) ≡ size = length-take-le size lengths (omega (arith, long.long)) in
      rw e (walked_over (added (take size weights)) (take size lengths) (length (take size lengths))
      (λ (at left : ℕ) (sums : Sums). Weighing s answer count (place + at) left sums)
      (length s - place)
      (λ at left sums below far w.
      let l = get_or-take size lengths at 0 (omega arith) ∙ long.right at (omega arith) in
      let g = get_or-take size weights at 0 (omega arith) ∙ heavy.right at (omega arith) in
      move (weighing_more w (omega arith) (omega arith)) (omega arith) (omega arith) (omega arith) (omega arith)) left 0 sums
      (move v (omega arith) refl refl refl)
      (omega (arith, ap Weigh.at e)))

  -- Cells in their shortest form, of bytes none of which is 0: each has the weight 1
  module _ (none : some_of (length s) s ≡ length s) where
    weighing_one : {used left : ℕ} → Weighing s answer count used left (ones_of (count - left)) → 0 < left → used + 6 ≤ length s
        → long_lead (get_or s used 0) (get_or s (used + 1) 0) ≡ false → Weighing s answer count (used + length_by (get_or s used 0)) (left - 1) (ones_of (count - (left - 1)))
    weighing_one {used} {left} v some wide e =
        let d = drop used s in
        let few = v.fewer in
        let one = weight_one d (λ i h z. some_all (length s) s none (used + i) (omega arith) (sym (get_or-drop used s i 0) ∙ z))
        (rw (head_at_lem used s 0, get_or-drop used s 1 0) e) in
        move (weighing_more v some (omega (arith, length_six (get_or s used 0)))) refl refl (omega (arith, one)) (omega (arith, one))

    -- A turn: empty cells, or one, and a last one
    pub weighing_turn : {used left : ℕ} {r : Ahead} → Weighing s answer count used left (ones_of (count - left)) → 9 ≤ left → used + 21 ≤ length s → AheadOf s used r
        → long_lead (get_or s used 0) (get_or s (used + 1) 0) ≡ false → long_lead (get_or s r.last 0) (get_or s (r.last + 1) 0) ≡ false
        → Weighing s answer count r.next (left - (r.cells + 1)) (ones_of (count - (left - (r.cells + 1))))
    weighing_turn {used} {left} {r} v many wide a first last =
        let near = a.near in
        let few = a.few in
        move (weighing_one (front (eqb (get_or s used 0) 128) refl) (omega arith) (omega arith) last) a.next (omega arith) (omega arith) refl
      where
        front : (t : Bool) → eqb (get_or s used 0) 128 ≡ t → Weighing s answer count r.last (left - r.cells) (ones_of (count - (left - r.cells)))
        front true p =
            let e = a.empties (eqb-true (get_or s used 0) 128 p) in
            let few = a.few in
            move (run_over (λ i. Weighing s answer count (used + i) (left - i) (ones_of (count - (left - i)))) s used r.cells e.0.all
            (move v (omega arith) (omega arith) (omega arith) refl)
            (λ i h empty w.
            move (weighing_one w (omega arith) (omega arith) (empty_lead (get_or s (used + i) 0) (get_or s (used + i + 1) 0) empty))
            (omega (arith, empty_length (used + i) s empty)) (omega arith) (omega arith) refl)) e.1 refl refl refl
        front false p =
            let e = a.one (eqb-false (get_or s used 0) 128 p) in
            move (weighing_one v (omega arith) (omega arith) first) e.1 (omega (arith, e.0)) (omega (arith, e.0)) refl

-- A block with some bytes has one cell or more
pub weighed_less : (lengths weights : List ℕ) (left : ℕ) (sums : Sums) {walk : Weigh} → 0 < length lengths → 0 < left
    → walk ≡ weigh_of (weighed lengths weights (length lengths) left 0 sums) → walk.left < left
weighed_less lengths weights left sums h k e = rw e (walked_some (added weights) lengths (length lengths) left sums h k)

-- What was skipped, by a weighing, or nothing
pub skip_end : (s : List ℕ) (count used left : ℕ) → some_of (length s) s ≡ length s
    → Weighing s (measured_on no_cells s (read_run count 0 s)) count used left (ones_of (count - left))
    → Skipped s count (record { used = used; left = left })
skip_end s count used left none v =
    let i = v.measuring.inside in
    let f = v.fewer in
    let rest : used + (length s - used) ≡ length s = omega arith in
    let all : some_of used s ≡ used =
    omega (arith, some_add used (length s - used) s, ap (λ (n : ℕ). some_of n s) rest, some_most used s, some_most (length s - used) (drop used s)) in
    let short : v.shortest ≡ used = omega (arith, v.sum) in
    let same : v.same ≡ true = v.even ∙ eq-eqb v.shortest used short in
    record {
      inside = i;
      fewer = f;
      some = all;
      rest = v.measuring.rest ∙ ap₂ (λ (n : ℕ) (b : Bool). measured_on (sized used n b) (drop used s) (read_run left used (drop used s))) short same;
    }

pub skip_none : (s : List ℕ) (count : ℕ) → Skipped s count (record { used = 0; left = count })
unfolding some_of
skip_none s count = record { inside = omega arith; fewer = omega arith; some = refl; rest = refl }
