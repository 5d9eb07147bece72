-- Laws of stored patterns: what is written reads back, what is read is kept and written in no more bytes; cells as lent bytes, and
-- how many bytes they take. Assumes nothing.
use Prim.Native.Nat.{ℕ, zero, suc, ◌*◌, ◌≤◌}
use mathlib.Core.Bool.{Bool, true, false, cond, ◌&&◌, and-eq-true_iff, and_assoc}
use mathlib.Core.List.{List, [], ◌∷◌, ◌++◌, map, append-nil}
use mathlib.Core.Path.{◌≡◌, refl, sym, ap, ◌∙◌}
use native.Mathlib.Nat.{mul-le-mul}
use native.Mathlib.Omega.{arith}
use borrow.Author.Tests.{eqb-true, ne_eqb}
use lib.Dec.{eqb}
use lib.ListN.{length, get_or, drop, replicate, length-append, length-drop, length-replicate}
use lib.Seq.{drop_at}
use Rattle.xm.specs.Number.{Bytes}
use Rattle.xm.specs.Got.{got}
use Rattle.xm.specs.Format.{EachGood, joined, flat, All}
use Rattle.xm.specs.Cell.{five, write_cell, cell_most, cell_format}
use Rattle.xm.specs.Stored.{Pattern, empty_rows, read_cells, read_stored, all_zero, needs_no_data, write_stored, GoodPattern, cells_of}
use Rattle.xm.proofs.Number.{bytes_nil, bytes_zeros}
use Rattle.xm.proofs.Got.{pass, passed, step, bind_got, got_both, got_value, got_carry}
use Rattle.xm.proofs.Format.{cons_path, each_length, each_replicate, many_back, many_keeps}
use Rattle.xm.proofs.Cell.{five_front, write_some, write_most, write_full, cell_back, cell_keeps}

pub pattern_path : {r s : ℕ} {x y : List (List ℕ)} → r ≡ s → x ≡ y → ◌≡◌ {A = Pattern} (record { rows = r; cells = x }) (record { rows = s; cells = y })
pattern_path p q = cc

-- Cells of five fields, and their bytes end to end
abbrev pub Fives : List (List ℕ) → Type 0
Fives cells = All (λ (c : List ℕ). length c ≡ 5) cells

pub flat-length : (cells : List (List ℕ)) → Fives cells → length (flat cells) ≡ length cells * 5
flat-length [] h = refl
flat-length (c ∷ cells) h = rw length-append (omega (arith, h.0, flat-length cells h.1))

five_rest : (s : List ℕ) → 5 ≤ length s → five s ++ drop 5 s ≡ s
five_rest [] h = absurd (omega arith)
five_rest (a ∷ []) h = absurd (omega arith)
five_rest (a ∷ b ∷ []) h = absurd (omega arith)
five_rest (a ∷ b ∷ c ∷ []) h = absurd (omega arith)
five_rest (a ∷ b ∷ c ∷ d ∷ []) h = absurd (omega arith)
five_rest (a ∷ b ∷ c ∷ d ∷ e ∷ s) h = refl

none_left : (s : List ℕ) → length s ≡ 0 → [] ≡ s
none_left [] h = refl
none_left (x ∷ s) h = absurd (omega arith)

pub cells_flat : (n : ℕ) (bytes : List ℕ) → length bytes ≡ n * 5 → flat (cells_of n bytes) ≡ bytes
unfolding cells_of
cells_flat zero bytes h = none_left bytes (omega arith)
cells_flat (suc n) bytes h = rw (cells_flat n (drop 5 bytes) (omega (arith, length-drop 5 bytes))) (five_rest bytes (omega arith))

pub flat_cells : (n : ℕ) (cells : List (List ℕ)) → length cells ≡ n → Fives cells → cells_of n (flat cells) ≡ cells
unfolding cells_of
flat_cells zero [] e h = refl
flat_cells zero (c ∷ cells) e h = absurd (omega arith)
flat_cells (suc n) [] e h = absurd (omega arith)
flat_cells (suc n) (c ∷ cells) e h =
    rw (drop_at c (flat cells) 5 h.0) (cons_path (five_front c (flat cells) h.0) (flat_cells n cells (omega arith) h.1))

pub cells_length : (n : ℕ) (bytes : List ℕ) → length (cells_of n bytes) ≡ n
unfolding cells_of
cells_length zero bytes = refl
cells_length (suc n) bytes = ap suc (cells_length n (drop 5 bytes))

pub cells_fives : (n : ℕ) (bytes : List ℕ) → Fives (cells_of n bytes)
unfolding cells_of
cells_fives zero bytes = tt
cells_fives (suc n) bytes = (refl, cells_fives n (drop 5 bytes))

-- Good cells: there are so many, of five fields
pub good_count : (n : ℕ) (cells : List (List ℕ)) → EachGood cell_format (replicate n tt) cells → length cells ≡ n
good_count n cells g = each_length cell_format (replicate n tt) cells g ∙ length-replicate n tt

pub good_fives : (n : ℕ) (cells : List (List ℕ)) → EachGood cell_format (replicate n tt) cells → Fives cells
good_fives zero [] g = tt
good_fives zero (c ∷ cells) g = absurd g
good_fives (suc n) [] g = absurd g
good_fives (suc n) (c ∷ cells) g = (g.0.size, good_fives n cells g.1)

-- How many bytes cells take: at most six each, and six each if no field is 0 and each note is 128 or more
abbrev pub Full : List ℕ → Type 0
Full cell = (128 ≤ get_or cell 0 0) × All (λ (x : ℕ). x ≡ 0 → ⊥) cell

pub cells_most_lem : (cells : List (List ℕ)) → Fives cells → length (joined write_cell cells) ≤ cell_most * length cells
cells_most_lem [] h = omega arith
cells_most_lem (c ∷ cells) h = rw length-append (omega (arith, write_most c h.0, cells_most_lem cells h.1))

pub cells_full : (cells : List (List ℕ)) → Fives cells → All Full cells → length (joined write_cell cells) ≡ cell_most * length cells
cells_full [] h f = refl
cells_full (c ∷ cells) h f = rw length-append (omega (arith, write_full c h.0 f.0.0 f.0.1, cells_full cells h.1 f.1))

cells_some : (n : ℕ) (cells : List (List ℕ)) → 1 ≤ n → EachGood cell_format (replicate n tt) cells → 1 ≤ length (joined write_cell cells)
cells_some zero cells h g = absurd (omega arith)
cells_some (suc n) [] h g = absurd g
cells_some (suc n) (c ∷ cells) h g = rw length-append (omega (arith, write_some c g.0.size))

-- Empty cells
pub zero-append : (xs ys : List ℕ) → all_zero (xs ++ ys) ≡ (all_zero xs && all_zero ys)
unfolding all_zero
zero-append [] ys = refl
zero-append (x ∷ xs) ys = ap (λ (t : Bool). eqb x 0 && t) (zero-append xs ys) ∙ sym (and_assoc (eqb x 0) (all_zero xs) (all_zero ys))

zero-replicate : (xs : List ℕ) → all_zero xs ≡ true → xs ≡ replicate (length xs) 0
unfolding all_zero
zero-replicate [] e = refl
zero-replicate (x ∷ xs) e =
    let t = (and-eq-true_iff (eqb x 0) (all_zero xs)).0 e in cons_path (eqb-true x 0 t.0) (zero-replicate xs t.1)

zero_cells : (n : ℕ) (cells : List (List ℕ)) → EachGood cell_format (replicate n tt) cells → all_zero (flat cells) ≡ true → cells ≡ replicate n (replicate 5 0)
zero_cells zero [] g e = refl
zero_cells zero (c ∷ cells) g e = absurd g
zero_cells (suc n) [] g e = absurd g
zero_cells (suc n) (c ∷ cells) g e =
    let t = (and-eq-true_iff (all_zero c) (all_zero (flat cells))).0 (sym (zero-append c (flat cells)) ∙ e) in
    cons_path (zero-replicate c t.0 ∙ ap (λ (k : ℕ). replicate k 0) g.0.size) (zero_cells n cells g.1 t.1)

empty_good : (n : ℕ) → EachGood cell_format (replicate n tt) (replicate n (replicate 5 0))
empty_good n = each_replicate cell_format tt (replicate 5 0) n (record { size = refl; plain = bytes_zeros 5 })

empty_zero : (n : ℕ) → all_zero (flat (replicate n (replicate 5 0))) ≡ true
unfolding all_zero
empty_zero zero = refl
empty_zero (suc n) = empty_zero n

pub empty_flat : (n : ℕ) → flat {A = ℕ} (replicate n (replicate 5 0)) ≡ replicate (n * 5) 0
empty_flat zero = refl
empty_flat (suc n) = let more : suc n * 5 ≡ suc (suc (suc (suc (suc (n * 5))))) = omega arith in rw (empty_flat n, more)

-- An empty pattern, and no other, needs no data
pub rows_good : (channels rows : ℕ) → 1 ≤ channels → 1 ≤ rows → rows ≤ 256 → GoodPattern channels (empty_rows channels rows)
rows_good channels rows some low high = record { some = some; low = low; high = high; good = empty_good (rows * channels) }

pub rows_none : (channels rows : ℕ) → needs_no_data (empty_rows channels rows) ≡ true
unfolding needs_no_data
rows_none channels rows = rw (empty_zero (rows * channels))

pub none_rows : (channels : ℕ) (p : Pattern) → GoodPattern channels p → needs_no_data p ≡ true → p ≡ empty_rows channels p.rows
unfolding needs_no_data
none_rows channels p g e = pattern_path refl (zero_cells (p.rows * channels) p.cells g.good e)

-- No bytes, or those of the cells
pub write_none : (p : Pattern) → needs_no_data p ≡ true → write_stored p ≡ []
unfolding write_stored
write_none p e = rw e

pub write_cells : (p : Pattern) → needs_no_data p ≡ false → write_stored p ≡ joined write_cell p.cells
unfolding write_stored
write_cells p e = rw e

-- Each property of no bytes and of the cells' bytes is one of what is written
write_case : (P : List ℕ → Type 0) (p : Pattern) → (needs_no_data p ≡ true → P []) → (needs_no_data p ≡ false → P (joined write_cell p.cells))
    → P (write_stored p)
unfolding write_stored
write_case P p none some = go (needs_no_data p) refl
  where
    go : (t : Bool) → needs_no_data p ≡ t → P (cond t [] (joined write_cell p.cells))
    go true e = none e
    go false e = some e

pub stored_plain : (channels : ℕ) (p : Pattern) → GoodPattern channels p → Bytes (write_stored p)
stored_plain channels p g =
    write_case Bytes p (λ e. bytes_nil) (λ e. (many_back cell_format (p.rows * channels) cell_back).plain p.cells g.good)

-- No data, and some
pub stored_none : (channels rows place : ℕ) (d : List ℕ) → length d ≡ 0 → read_stored channels rows place d ≡ got (empty_rows channels rows) 0
unfolding read_stored
stored_none channels rows place [] h = refl
stored_none channels rows place (b ∷ d) h = absurd (omega arith)

pub stored_some : (channels rows place : ℕ) (d : List ℕ) → 1 ≤ length d → read_stored channels rows place d ≡ read_cells channels rows place d
unfolding read_stored
stored_some channels rows place [] h = absurd (omega arith)
stored_some channels rows place (b ∷ d) h = refl

-- How many bytes a pattern takes: at most six a cell, and six a cell if all are full
pub stored_most : (p : Pattern) → Fives p.cells → length (write_stored p) ≤ cell_most * length p.cells
stored_most p h = write_case (λ (d : List ℕ). length d ≤ cell_most * length p.cells) p (λ e. omega arith) (λ e. cells_most_lem p.cells h)

full_some : (cells : List (List ℕ)) → 1 ≤ length cells → Fives cells → All Full cells → all_zero (flat cells) ≡ false
unfolding all_zero
full_some [] h l f = absurd (omega arith)
full_some ([] ∷ cells) h l f = absurd (omega (arith, l.0))
full_some ((x ∷ c) ∷ cells) h l f = rw (ne_eqb x 0 f.0.1.0)

pub stored_full : (p : Pattern) → 1 ≤ length p.cells → Fives p.cells → All Full p.cells → length (write_stored p) ≡ cell_most * length p.cells
unfolding needs_no_data
stored_full p h l f = rw (write_cells p (full_some p.cells h l f)) (cells_full p.cells l f)

-- What is written reads back
map_same : (cells : List (List ℕ)) → map (λ (c : List ℕ). c) cells ≡ cells
map_same [] = refl
map_same (c ∷ cells) = cons_path refl (map_same cells)

cells_back : (channels place : ℕ) (p : Pattern) → GoodPattern channels p
    → read_cells channels p.rows place (joined write_cell p.cells) ≡ got p (length (joined write_cell p.cells))
unfolding read_cells
cells_back channels place p g =
    let f = (many_back cell_format (p.rows * channels) cell_back).back place p.cells [] g.good in
    let same : f.found ≡ p.cells = sym (map_same f.found) ∙ f.same in
    step _ (rw (append-nil (joined write_cell p.cells)) at f.reads) (pass _ (omega arith, tt) (got_both (pattern_path refl same) refl))

pub product_some : (a b : ℕ) → 1 ≤ a → 1 ≤ b → 1 ≤ a * b
product_some a b h k = omega (arith, mul-le-mul h k)

pub stored_back : (channels place : ℕ) (p : Pattern) → GoodPattern channels p
    → read_stored channels p.rows place (write_stored p) ≡ got p (length (write_stored p))
stored_back channels place p g =
    write_case (λ (d : List ℕ). read_stored channels p.rows place d ≡ got p (length d)) p
    (λ e. stored_none channels p.rows place [] refl ∙ got_both (sym (none_rows channels p g e)) refl)
    (λ e. stored_some channels p.rows place _ (cells_some (p.rows * channels) p.cells (product_some p.rows channels g.low g.some) g.good)
    ∙ cells_back channels place p g)

-- What is read is kept: it is a good pattern, and is written in no more bytes
pub record StoredKept (channels : ℕ) (d : List ℕ) (p : Pattern) : Type 0 where
  pub good : GoodPattern channels p
  pub short : length (write_stored p) ≤ length d

cells_keep : (channels rows place : ℕ) (d : List ℕ) (p : Pattern) (n : ℕ) → Bytes d → 1 ≤ channels → 1 ≤ rows → rows ≤ 256
    → read_cells channels rows place d ≡ got p n → StoredKept channels d p
unfolding read_cells
cells_keep channels rows place d p n b some low high e =
    bind_got _ _ e λ cells m ec e. passed _ _ e λ h e.
    let w = (many_keeps cell_format (rows * channels) cell_keeps).keeps place d cells m b ec in
    let short : length (joined write_cell cells) ≤ length d = omega (arith, rw (map_same cells) at w.short, w.inside) in
    got_carry (λ (q : Pattern) (u : ℕ). StoredKept channels d q) e
    (record {
      good = record { some = some; low = low; high = high; good = rw (map_same cells) at w.good };
      short = write_case (λ (x : List ℕ). length x ≤ length d) (record { rows = rows; cells = cells }) (λ e. omega arith) (λ e. short);
    })

pub stored_keeps : (channels rows place : ℕ) (d : List ℕ) (p : Pattern) (n : ℕ) → Bytes d → 1 ≤ channels → 1 ≤ rows → rows ≤ 256
    → read_stored channels rows place d ≡ got p n → StoredKept channels d p
unfolding read_stored
stored_keeps channels rows place [] p n b some low high e =
    got_carry (λ (q : Pattern) (u : ℕ). StoredKept channels [] q) e
    (record {
      good = rows_good channels rows some low high;
      short = omega (arith, ap length (write_none (empty_rows channels rows) (rows_none channels rows)));
    })
stored_keeps channels rows place (x ∷ d) p n b some low high e = cells_keep channels rows place (x ∷ d) p n b some low high e

-- The rows are the row number
cells_rows : (channels rows place : ℕ) (d : List ℕ) (p : Pattern) (n : ℕ) → read_cells channels rows place d ≡ got p n → p.rows ≡ rows
unfolding read_cells
cells_rows channels rows place d p n e = bind_got _ _ e λ cells m ec e. passed _ _ e λ h e. ap Pattern.rows (sym (got_value e))

pub stored_rows : (channels rows place : ℕ) (d : List ℕ) (p : Pattern) (n : ℕ) → read_stored channels rows place d ≡ got p n → p.rows ≡ rows
unfolding read_stored
stored_rows channels rows place [] p n e = ap Pattern.rows (sym (got_value e))
stored_rows channels rows place (b ∷ d) p n e = cells_rows channels rows place (b ∷ d) p n e

pub stored_empty : (channels rows place : ℕ) (d : List ℕ) (p : Pattern) (n : ℕ) → length d ≡ 0 → read_stored channels rows place d ≡ got p n
    → p ≡ empty_rows channels rows
stored_empty channels rows place d p n h e = got_value (sym e ∙ stored_none channels rows place d h)
