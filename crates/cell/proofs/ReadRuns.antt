-- Laws of a run of stored cells: the first one, and the rest from behind it; and a stored pattern by its cells. Assumes nothing.
use Prim.Native.Nat.{ℕ, zero, suc, ◌+◌, ◌-◌, ◌*◌, ◌≤◌, ◌<◌}
use mathlib.Core.Bool.{true}
use mathlib.Core.List.{List, ◌∷◌}
use mathlib.Core.Path.{◌≡◌, refl, ap, ◌∙◌}
use native.Mathlib.Nat.{zero-add, mul-le-mul}
use native.Mathlib.Omega.{arith}
use lib.ListN.{length, get_or, drop, length-drop}
use lib.Seq.{drop-drop}
use Rattle.xm.specs.Got.{Refusal, Got, got, refused, ◌>>=◌, accepted, AllHold, ◌at◌}
use Rattle.xm.specs.Cell.{length_by, cell_at, read_cell}
use Rattle.xm.specs.Stored.{Pattern, read_run, read_cells, read_stored}
use Rattle.xm.specs.Run.{cells_in}
use Rattle.xm.specs.Packing.{argument_tests}
use Rattle.xm.proofs.Got.{test_fails, pass, step, step_refused, accepted-got, got-accepted, bind_got}
use Rattle.xm.proofs.Cell.{cell_read}
use Rattle.xm.proofs.Lay.{head_at_lem}
use Rattle.xm.proofs.Stored.{stored_some}

-- A cell in front of what the rest is read as
abbrev pub cell_onto : (cell : List ℕ) (used : ℕ) → Got (List (List ℕ)) → Got (List (List ℕ))
cell_onto cell used (got cells n) = got (cell ∷ cells) (used + n)
cell_onto cell used (refused r) = refused r

onto_bind : (cell : List ℕ) (used : ℕ) (g : Got (List (List ℕ))) → (g >>= λ q. got (cell ∷ q.0) (used + q.1)) ≡ cell_onto cell used g
unfolding ◌>>=◌
onto_bind cell used (got cells n) = refl
onto_bind cell used (refused r) = refl

module _ (s : List ℕ) (place : ℕ) where
  pub run_more : (left : ℕ) → 0 < left → {cell : List ℕ} {used : ℕ} → read_cell place (drop place s) ≡ got cell used
      → read_run left place (drop place s) ≡ cell_onto cell used (read_run (left - 1) (place + used) (drop (place + used) s))
  run_more zero some e = absurd (omega arith)
  run_more (suc left) some {cell} {used} e =
      let one : suc left - 1 ≡ left = omega arith in
      step _ e (onto_bind cell used (read_run left (place + used) (drop used (drop place s)))) ∙ rw (drop-drop, one)

  pub run_stop : (left : ℕ) → 0 < left → {r : Refusal} → read_cell place (drop place s) ≡ refused r → read_run left place (drop place s) ≡ refused r
  run_stop zero some e = absurd (omega arith)
  run_stop (suc left) some e = step_refused _ e

  -- What an accepted row says of its first cell and of the rest
  pub record First (left : ℕ) : Type 0 where
    pub fits : place + length_by (get_or s place 0) ≤ length s
    pub rest : accepted (read_run (left - 1) (place + length_by (get_or s place 0)) (drop (place + length_by (get_or s place 0)) s)) ≡ true

  pub run_first : (left : ℕ) → 0 < left → place ≤ length s → accepted (read_run left place (drop place s)) ≡ true → First left
  run_first zero some inside e = absurd (omega arith)
  run_first (suc left) some inside e =
      accepted-got (read_run (suc left) place (drop place s)) e λ cells used e. bind_got (read_cell place (drop place s)) _ e λ c k ec e.
      bind_got (read_run left (place + k) (drop k (drop place s))) _ e λ cs m es e.
      let one : suc left - 1 ≡ left = omega arith in
      let r = cell_read place (drop place s) c k ec in
      let long : k ≡ length_by (get_or s place 0) = r.long ∙ ap length_by (head_at_lem place s 0) in
      record {
        fits = omega (arith, long, r.long, r.fits, length-drop place s);
        rest = rw (one, ← long, ← drop-drop k place s) (got-accepted es);
      }

  -- The cells of a row, accepted or not, as the first and the rest
  pub cells_first : (left : ℕ) → 0 < left
      → cells_in left (drop place s) ≡ cell_at (drop place s) ∷ cells_in (left - 1) (drop (place + length_by (get_or s place 0)) s)
  unfolding cells_in
  cells_first zero some = absurd (omega arith)
  cells_first (suc left) some = let one : suc left - 1 ≡ left = omega arith in rw (one, drop-drop, head_at_lem place s 0)

-- A stored pattern with some data, by its cells
module _ (channels rows : ℕ) (d : List ℕ) (some : 1 ≤ length d) where
  pub stored_refused : {r : Refusal} → read_run (rows * channels) 0 d ≡ refused r → read_stored channels rows 0 d ≡ refused r
  unfolding read_cells
  stored_refused e = stored_some channels rows 0 d some ∙ step_refused _ e

  module _ {cells : List (List ℕ)} {used : ℕ} (e : read_run (rows * channels) 0 d ≡ got cells used) where
    pub stored_left : used < length d → read_stored channels rows 0 d ≡ refused (8 at used)
    unfolding read_cells
    stored_left h =
        stored_some channels rows 0 d some ∙ step _ e (test_fails _ _ _ (λ k. omega arith))
        ∙ ap {B = Got Pattern} (λ (n : ℕ). refused (8 at n)) (zero-add used)

    pub stored_whole : length d ≤ used → read_stored channels rows 0 d ≡ got (record { rows = rows; cells = cells }) used
    unfolding read_cells
    stored_whole h = stored_some channels rows 0 d some ∙ step _ e (pass _ (omega arith, tt) refl)

-- The count of cells in range
pub count_most : (rows channels : ℕ) → AllHold (argument_tests rows channels) → rows * channels ≤ 256 * 64
count_most rows channels h = mul-le-mul h.0.1 h.1.0.1
