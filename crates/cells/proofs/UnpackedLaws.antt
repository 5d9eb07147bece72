-- Laws of unpacking: what its tests and its reading say, and its answers and its memory at each exit; that both are fixed.
-- Assumes nothing.
use Prim.Native.Nat.{ℕ, zero, suc, ◌*◌, ◌≤◌}
use mathlib.Core.Bool.{true, false}
use mathlib.Core.List.{List, [], ◌∷◌}
use mathlib.Core.Path.{◌≡◌, refl, sym, ap, ◌∙◌}
use native.Mathlib.Omega.{arith}
use lib.ListN.{length, replicate, length-replicate}
use Rattle.std.specs.Prelude.{Result, Ok, Err}
use Rattle.xm.specs.Got.{got, accepted, all_pass}
use Rattle.xm.specs.Got as paper
use Rattle.xm.specs.Format.{flat}
use Rattle.xm.specs.Answer.{Answer, gives, refuses, numbers, in_front, after}
use Rattle.xm.specs.Stored.{Pattern, read_run, read_cells, read_stored}
use Rattle.xm.specs.Run.{cells_in}
use Rattle.xm.specs.PatternInFile.{data_most}
use Rattle.xm.specs.Packing.{argument_tests, cell_bytes, rows_read, unpacking, unpack_after}
use Rattle.xm.proofs.Got.{no_true, all_pass_lem, all_hold, passed, bind_got, got_carry, got-accepted}
use Rattle.xm.proofs.Stored.{empty_flat, stored_empty, stored_some, stored_rows}
use Rattle.xm.proofs.Run.{run_read}
use Rattle.xm.proofs.Packing.{UnpackRange}
use Rattle.refusal.specs.declared.Refusal.{Refusal}
use Rattle.refusal.specs.declared.Step.{Step}
use Rattle.refusal.specs.declared.Step.TheVariants.{Given}
use Rattle.refusal.specs.Refusal.{code_refusal, outcome, place_step}
use Rattle.refusal.proofs.Steps.{next_got}
use Rattle.cells.specs.Unpacked.{unpacked_numbers}
use Rattle.cells.proofs.Fill.{filled_length}

-- The tests for 16
module _ (rows channels : ℕ) (stored : List ℕ) where
  pub range_holds : all_pass (argument_tests rows channels) ≡ true → length stored ≤ data_most → UnpackRange rows channels stored
  range_holds e h = let a = all_hold (argument_tests rows channels) e in (a.0, (a.1.0, (h, tt)))

  pub range_fails : all_pass (argument_tests rows channels) ≡ false → UnpackRange rows channels stored → ⊥
  range_fails e h = no_true (sym e ∙ all_pass_lem (argument_tests rows channels) (h.0, (h.1.0, tt)))

-- What reading a stored pattern found
pub record StoredFound (channels rows : ℕ) (d : List ℕ) : Type 0 where
  pub pattern : Pattern
  pub used : ℕ
  pub reads : read_stored channels rows 0 d ≡ got pattern used

pub found_of : (channels rows : ℕ) (d : List ℕ) {step : Step ℕ} {next : ℕ} → step ≡ place_step 0 (read_stored channels rows 0 d) → step ≡ Given next
    → StoredFound channels rows d
found_of channels rows d e told = next_got 0 (read_stored channels rows 0 d) (sym told ∙ e) λ p n q en. record { pattern = p; used = n; reads = q }

-- With some data, the cells of the pattern are a run, which was accepted
record FromCells (channels rows : ℕ) (d : List ℕ) (p : Pattern) : Type 0 where
  pub cells : p.cells ≡ cells_in (rows * channels) d
  pub fine : accepted (read_run (rows * channels) 0 d) ≡ true

from_cells : (channels rows : ℕ) (d : List ℕ) (p : Pattern) (n : ℕ) → 1 ≤ length d → read_stored channels rows 0 d ≡ got p n → FromCells channels rows d p
unfolding read_cells
from_cells channels rows d p n some e =
    bind_got _ _ (sym (stored_some channels rows 0 d some) ∙ e) λ cells m ec e. passed _ _ e λ h e.
    got_carry (λ (q : Pattern) (u : ℕ). FromCells channels rows d q) e
    (record { cells = (run_read (rows * channels) 0 d cells m ec).same; fine = got-accepted ec })

-- Its rows, and what is to be filled: zeros, or the cells of a run; five bytes a cell
module _ {channels rows : ℕ} {d : List ℕ} (f : StoredFound channels rows d) where
  pub rows_found : f.pattern.rows ≡ rows
  rows_found = stored_rows channels rows 0 d f.pattern f.used f.reads

  pub bytes_none : length d ≡ 0 → cell_bytes f.pattern ≡ replicate (rows * channels * 5) 0
  bytes_none z = ap cell_bytes (stored_empty channels rows 0 d f.pattern f.used z f.reads) ∙ empty_flat (rows * channels)

  module _ (some : 1 ≤ length d) where
    from : FromCells channels rows d f.pattern
    from = from_cells channels rows d f.pattern f.used some f.reads

    pub fine_some : accepted (read_run (rows * channels) 0 d) ≡ true
    unfolding from
    fine_some = from.fine

    pub bytes_some : cell_bytes f.pattern ≡ flat (cells_in (rows * channels) d)
    unfolding from
    bytes_some = ap flat from.cells

  pub bytes_long : length (cell_bytes f.pattern) ≡ rows * channels * 5
  bytes_long = go (length d) refl
    where
      go : (n : ℕ) → length d ≡ n → length (cell_bytes f.pattern) ≡ rows * channels * 5
      go zero e = ap length (bytes_none e) ∙ length-replicate (rows * channels * 5) 0
      go (suc n) e = ap length (bytes_some (omega arith)) ∙ filled_length (rows * channels) d

-- An answer and the memory, from what unpacking comes to
module _ (rows channels : ℕ) (stored lent : List ℕ) where
  abbrev pub Answers : (answer : Result ℕ Refusal) (left : List ℕ) → Type 0
  Answers answer left = (answer ≡ outcome rows_read (unpacking rows channels stored (length lent))) × (left ≡ unpack_after rows channels stored lent)

  pub answers_refusal : {r : paper.Refusal} {refusal : Refusal} → unpacking rows channels stored (length lent) ≡ refuses r → refusal ≡ code_refusal r
      → Answers (Err refusal) lent
  answers_refusal e f = (rw e (ap Err f), rw e)

  pub answers_pattern : {p : Pattern} {reported : ℕ} {left : List ℕ} → unpacking rows channels stored (length lent) ≡ gives p → reported ≡ p.rows
      → left ≡ in_front (cell_bytes p) lent → Answers (Ok reported) left
  answers_pattern e r m = (rw e (ap Ok r), rw e m)

  -- Two answers and memories that both meet the contract are the same
  pub unpack_once : (one other : Result ℕ Refusal) (left kept : List ℕ) → Answers one left → Answers other kept → (one ≡ other) × (left ≡ kept)
  unpack_once one other left kept a b = (a.0 ∙ sym b.0, a.1 ∙ sym b.1)

-- A refusal leaves the memory as it was
refused-kept : (answer : Answer Pattern) (lent : List ℕ) {refusal : Refusal} → Err refusal ≡ outcome rows_read answer → after cell_bytes answer lent ≡ lent
refused-kept (gives p) lent e = absurd (let z : ◌≡◌ {A = ℕ} 0 1 = cc in omega arith)
refused-kept (refuses r) lent e = refl

pub unpack_unchanged : (rows channels : ℕ) (stored lent : List ℕ) {refusal : Refusal} {held : List ℕ}
    → Err refusal ≡ outcome rows_read (unpacking rows channels stored (length lent))
    → held ≡ unpack_after rows channels stored lent → held ≡ lent
unpack_unchanged rows channels stored lent told met = met ∙ refused-kept (unpacking rows channels stored (length lent)) lent told

-- and its numbers are the paper's
pub unpacked_numbers_lem : (answer : Answer Pattern) → unpacked_numbers (outcome rows_read answer) ≡ numbers (rows_read ∷ []) answer
unpacked_numbers_lem (gives p) = refl
unpacked_numbers_lem (refuses r) = refl
