-- Laws of a loop that tries cells: one cell, empty cells at once, what a turn has ahead, and a block; and each exit of a stored pattern.
-- Assumes nothing.
use Prim.Native.Nat.{ℕ, ◌+◌, ◌-◌, ◌*◌, ◌≤◌, ◌<◌}
use mathlib.Core.Bool.{Bool, true, false}
use mathlib.Core.List.{List}
use mathlib.Core.Path.{◌≡◌, refl, sym, ap, ◌∙◌}
use native.Mathlib.Nat.{add_assoc}
use native.Mathlib.Omega.{arith}
use borrow.Author.Tests.{eqb-true, eqb-false}
use lib.Dec.{eqb}
use lib.ListN.{length, get_or, take, drop, length-drop}
use lib.Seq.{length-take-le}
use Rattle.std.proofs.lemmas.List.{get_or-take}
use Rattle.xm.specs.Got.{Got, got, refused}
use Rattle.xm.specs.Cell.{read_cell}
use Rattle.xm.specs.Stored.{read_run, read_stored}
use Rattle.xm.proofs.Cell.{cell_read}
use Rattle.refusal.specs.declared.Refusal.{Refusal}
use Rattle.refusal.specs.declared.Step.{Step}
use Rattle.refusal.specs.declared.Step.TheVariants.{Given, Refused}
use Rattle.refusal.specs.Refusal.{step_refusal, place_step}
use Rattle.refusal.proofs.Steps.{next_got, place_refused}
use Rattle.cell.proofs.ReadLaws.{read_got_at}
use Rattle.cell.proofs.ReadRuns.{cell_onto, run_more, run_stop, stored_refused, stored_left, stored_whole}
use Rattle.ahead.specs.declared.Ahead.{Ahead}
use Rattle.ahead.specs.Ahead.{AheadOf, block_size, Follows, lengths_from}
use Rattle.ahead.proofs.AheadLaws.{read_empty, read_six, run_over}
use Rattle.ahead.proofs.Walk.{walked_some, walked_over}
use Rattle.scan.specs.declared.Walk.{Walk}
use Rattle.scan.specs.Block.{walk_of, block_passed}

-- `left` cells are still to come, from `used` on, and the loop's answer is to be `answer`
pub record Scanning (s : List ℕ) (answer : Step ℕ) (used left : ℕ) : Type 0 where
  pub inside : used ≤ length s
  pub rest : answer ≡ place_step used (read_run left used (drop used s))

onto_step : (used k : ℕ) (cell : List ℕ) (g : Got (List (List ℕ))) → place_step used (cell_onto cell k g) ≡ place_step (used + k) g
onto_step used k cell (got cells n) = ap Given (sym (add_assoc used k n))
onto_step used k cell (refused r) = refl

module _ {s : List ℕ} {answer : Step ℕ} where
  move : {used used' left left' : ℕ} → Scanning s answer used left → used' ≡ used → left' ≡ left → Scanning s answer used' left'
  move v p q = rw (p, q) v

  scanning_more : {used left : ℕ} → Scanning s answer used left → 0 < left → {cell : List ℕ} {k : ℕ} → read_cell used (drop used s) ≡ got cell k
      → Scanning s answer (used + k) (left - 1)
  scanning_more {used} {left} v some {cell} {k} e =
      let i = v.inside in
      let r = cell_read used (drop used s) cell k e in
      record {
        inside = omega (arith, r.long, r.fits, length-drop used s);
        rest = v.rest ∙ ap (place_step used) (run_more s used left some e) ∙ onto_step used k cell (read_run (left - 1) (used + k) (drop (used + k) s));
      }

  -- A cell that was tried
  module _ {used left : ℕ} (v : Scanning s answer used left) (some : 0 < left) {step : Step ℕ} (e : step ≡ place_step used (read_cell used (drop used s))) where
    pub scanning_next : {next left' : ℕ} → step ≡ Given next → left' ≡ left - 1 → Scanning s answer next left'
    scanning_next told q = next_got used (read_cell used (drop used s)) (sym told ∙ e) λ cell k ec en. move (scanning_more v some ec) en q

    pub scanning_stop : {f : Refusal} → step ≡ Refused f → step ≡ answer
    scanning_stop told =
        told ∙ sym (v.rest
        ∙ ap (place_step used) (run_stop s used left some (place_refused used (read_cell used (drop used s)) e told (sym (ap step_refusal told)))))

  pub scanning_done : {used left : ℕ} → Scanning s answer used left → left ≡ 0 → Given used ≡ answer
  scanning_done {used} v z =
      let u : used ≡ used + 0 = omega arith in
      ap Given u ∙ sym (v.rest ∙ ap (λ (n : ℕ). place_step used (read_run n used (drop used s))) z)

  -- A turn: empty cells, or one where six bytes stand, and a last one
  pub scanning_turn : {used left : ℕ} {r : Ahead} → Scanning s answer used left → 9 ≤ left → used + 21 ≤ length s → AheadOf s used r
      → Scanning s answer r.next (left - (r.cells + 1))
  scanning_turn {used} {left} {r} v many wide a =
      let near = a.near in
      let few = a.few in
      move (scanning_more (front (eqb (get_or s used 0) 128) refl) (omega arith) (read_six r.last s (omega arith))) a.next (omega arith)
    where
      front : (t : Bool) → eqb (get_or s used 0) 128 ≡ t → Scanning s answer r.last (left - r.cells)
      front true p =
          let e = a.empties (eqb-true (get_or s used 0) 128 p) in
          let few = a.few in
          move (run_over (λ i. Scanning s answer (used + i) (left - i)) s used r.cells e.0.all (move v (omega arith) (omega arith))
          (λ i h empty w. move (scanning_more w (omega arith) (read_empty (used + i) s empty (omega arith))) (omega arith) (omega arith))) e.1 refl
      front false p =
          let e = a.one (eqb-false (get_or s used 0) 128 p) in
          move (scanning_more v (omega arith) (read_six used s (omega arith))) e.1 (omega (arith, e.0))

  -- The cells of a block, as far as they stand inside what there is
  pub scanning_block : (place size : ℕ) {row : List ℕ} → Follows (lengths_from s place) size row → size ≤ block_size → place + size ≤ length s
      → {left : ℕ} {walk : Walk} → Scanning s answer place left → walk ≡ walk_of (block_passed (take size row) (length (take size row)) left 0)
      → place + walk.at ≤ length s → Scanning s answer (place + walk.at) walk.left
  scanning_block place size {row} full most inside {left} {walk} v e h =
      let long : length (take size row) ≡ size = length-take-le size row (omega (arith, full.long)) in
      rw e (walked_over (λ at u. u) (take size row) (length (take size row)) (λ (at left : ℕ) (u : Unit {0}). Scanning s answer (place + at) left)
      (length s - place)
      (λ at left u below far w.
      let one = get_or-take size row at 0 (omega arith) ∙ full.right at (omega arith) in
      move (scanning_more w (omega arith) (read_got_at (place + at) s (omega arith))) (omega arith) (omega arith)) left 0 tt (move v (omega arith) refl)
      (omega (arith, ap Walk.at e)))

-- A block with some bytes has one cell or more
pub block_less : (lengths : List ℕ) {left : ℕ} {walk : Walk} → 0 < length lengths → 0 < left
    → walk ≡ walk_of (block_passed lengths (length lengths) left 0) → walk.left < left
block_less lengths {left} h k e = rw e (walked_some (λ at u. u) lengths (length lengths) left tt h k)

-- A stored pattern with some data, by what its cells came to
module _ (channels rows : ℕ) (d : List ℕ) (some : 1 ≤ length d) {step : Step ℕ} (e : step ≡ place_step 0 (read_run (rows * channels) 0 d)) where
  pub scan_refused : {f : Refusal} → step ≡ Refused f → step ≡ place_step 0 (read_stored channels rows 0 d)
  scan_refused told =
      told ∙ sym (ap (place_step 0) (stored_refused channels rows d some (place_refused 0 (read_run (rows * channels) 0 d) e told (sym (ap step_refusal told)))))

  module _ {used : ℕ} (told : step ≡ Given used) where
    pub scan_left : used < length d → Refused (record { number = 8; place = used }) ≡ place_step 0 (read_stored channels rows 0 d)
    scan_left h =
        next_got 0 (read_run (rows * channels) 0 d) (sym told ∙ e) λ cells n ec en.
        let u : used ≡ n = omega arith in
        rw u (sym (ap (place_step 0) (stored_left channels rows d some ec (omega arith))))

    pub scan_whole : length d ≤ used → Given used ≡ place_step 0 (read_stored channels rows 0 d)
    scan_whole h =
        next_got 0 (read_run (rows * channels) 0 d) (sym told ∙ e) λ cells n ec en.
        ap Given en ∙ sym (ap (place_step 0) (stored_whole channels rows d some ec (omega arith)))
