-- Lent cells, five bytes each: cut out of the lent bytes, the first of those that are left, and how long they are.
-- Assumes nothing.
use Prim.Native.Nat.{ℕ, zero, suc, ◌+◌, ◌*◌, ◌≤◌, ◌<◌}
use mathlib.Core.Path.{◌≡◌, refl, ap, ◌∙◌}
use mathlib.Core.List.{List, [], ◌∷◌}
use native.Mathlib.Numerals.{add-one}
use native.Mathlib.Omega.{arith}
use lib.ListN.{length, get_or, take, drop, length-drop}
use lib.Seq.{drop-cons}
use Rattle.std.specs.Simd.{first_chunks}
use Rattle.xm.specs.Format.{joined}
use Rattle.xm.specs.Cell.{five, kepts, write_cell}
use Rattle.xm.specs.Short.{shortest_by}
use Rattle.xm.specs.Stored.{cells_of}
use Rattle.xm.proofs.Format.{cons_path}
use Rattle.xm.proofs.Short.{shortest_by_lem}
use Rattle.xm.proofs.Stored.{Fives}
use Rattle.cell.proofs.WriteRuns.{first_length}

-- Lent bytes in cells
five_taken : (s : List ℕ) → 5 ≤ length s → take 5 s ≡ five s
five_taken [] h = absurd (omega arith)
five_taken (a ∷ []) h = absurd (omega arith)
five_taken (a ∷ b ∷ []) h = absurd (omega arith)
five_taken (a ∷ b ∷ c ∷ []) h = absurd (omega arith)
five_taken (a ∷ b ∷ c ∷ d ∷ []) h = absurd (omega arith)
five_taken (a ∷ b ∷ c ∷ d ∷ e ∷ s) h = refl

pub chunks_cells : (n : ℕ) (s : List ℕ) → n * 5 ≤ length s → first_chunks 5 n s ≡ cells_of n s
unfolding cells_of
chunks_cells zero s h = refl
chunks_cells (suc n) s h = cons_path (five_taken s (omega arith)) (chunks_cells n (drop 5 s) (omega (arith, length-drop 5 s)))

-- All have five
pub fives : (cells : List (List ℕ)) → ((i : ℕ) → i < length cells → length (get_or cells i []) ≡ 5) → Fives cells
fives [] all = tt
fives (c ∷ cells) all = (all 0 (omega arith), fives cells (λ i h. all (suc i) (omega arith)))

pub fives_left : (n : ℕ) (cells : List (List ℕ)) → Fives cells → Fives (drop n cells)
fives_left zero cells all = all
fives_left (suc n) [] all = tt
fives_left (suc n) (c ∷ cells) all = fives_left n cells all.1

-- The first of those that are left
pub left_first : (cells : List (List ℕ)) (i : ℕ) → i < length cells → drop i cells ≡ get_or cells i [] ∷ drop (i + 1) cells
left_first cells i h = rw (add-one i) (drop-cons cells i [] h)

-- A cell adds its length to what is measured
pub measured : (cells : List (List ℕ)) (i : ℕ) → i < length cells → length (get_or cells i []) ≡ 5 → (shortest : ℕ) {kept used : ℕ}
    → shortest + length (joined write_cell (drop i cells)) ≡ length (joined write_cell cells) → kept ≡ length (kepts (get_or cells i []))
    → used ≡ shortest_by (get_or (get_or cells i []) 0 0) kept
    → shortest + used + length (joined write_cell (drop (i + 1) cells)) ≡ length (joined write_cell cells)
measured cells i h size shortest so_far is_kept is_used =
    let long = is_used ∙ ap (shortest_by (get_or (get_or cells i []) 0 0)) is_kept ∙ shortest_by_lem (get_or cells i []) size in
    omega (arith, first_length (left_first cells i h))
