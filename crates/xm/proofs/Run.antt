-- Laws of a run of stored cells: what an accepted run says, that its place does not matter, and that cells are all empty exactly if
-- they take a byte each. Assumes nothing.
use Prim.Native.Nat.{ℕ, zero, suc, ◌+◌, ◌-◌, ◌*◌, ◌≤◌}
use mathlib.Core.Bool.{Bool, true, false, cond, ◌&&◌}
use mathlib.Core.List.{List, [], ◌∷◌}
use mathlib.Core.Path.{◌≡◌, refl, sym, ap, ap₂, ◌∙◌}
use native.Mathlib.Nat.{add_assoc, add-zero, zero-add}
use native.Mathlib.Omega.{arith}
use borrow.Author.Tests.{eq-eqb, ne_eqb, eqb-true, eqb-false}
use lib.Dec.{leb, eqb}
use lib.ListN.{length, get_or, drop, length-append, length-drop}
use Rattle.xm.specs.Got.{Got, got, refused, ◌>>=◌, ◌>>◌, ensure, checked, at_most, ◌at◌}
use Rattle.xm.specs.Format.{joined, flat}
use Rattle.xm.specs.Cell.{needed, cell_at, read_cell, bit, kepts, goes_plain, write_cell}
use Rattle.xm.specs.Stored.{Pattern, read_run, read_cells, read_stored, all_zero, needs_no_data, write_stored}
use Rattle.xm.specs.Run.{cells_in, size_by}
use Rattle.xm.proofs.Got.{not_both, bind_got, got_value, got_used}
use Rattle.xm.proofs.Format.{cons_path}
use Rattle.xm.proofs.Cell.{bit_none, bit_some, kept-length, marked-length, length_some, cell_length}
use Rattle.xm.proofs.Cell.{cell_read, write_plain, write_marked, write_some, write_short, plain_many}
use Rattle.xm.proofs.Stored.{Fives, zero-append, write_none, write_cells}

-- What an accepted run says: which cells it has, that each takes a byte or more, and that they are written in no more bytes
pub record RunRead (count : ℕ) (s : List ℕ) (cells : List (List ℕ)) (used : ℕ) : Type 0 where
  pub same : cells ≡ cells_in count s
  pub least : count ≤ used
  pub inside : used ≤ length s
  pub short : length (joined write_cell cells) ≤ used

pub run_read : (count place : ℕ) (s : List ℕ) (cells : List (List ℕ)) (used : ℕ) → read_run count place s ≡ got cells used → RunRead count s cells used
unfolding cells_in
run_read zero place s cells used e = record {
  same = sym (got_value e);
  least = omega arith;
  inside = omega (arith, got_used e);
  short = rw (← got_value e) (omega arith);
}
run_read (suc count) place s cells used e =
    bind_got (read_cell place s) _ e λ c k ec e. bind_got (read_run count (place + k) (drop k s)) _ e λ cs m es e.
    let c = cell_read place s c k ec in
    let r = run_read count (place + k) (drop k s) cs m es in
    let same : cells ≡ cell_at s ∷ cs = sym (got_value e) ∙ cons_path c.same refl in
    record {
      same = same ∙ cons_path refl (r.same ∙ ap (λ (n : ℕ). cells_in count (drop n s)) c.long);
      least = omega (arith, got_used e, r.least, c.long, length_some (get_or s 0 0));
      inside = omega (arith, got_used e, r.inside, length-drop k s, c.fits, c.long);
      short = rw (same, length-append) (omega (arith, got_used e, r.short, c.long, write_short s));
    }

pub in_length : (count : ℕ) (s : List ℕ) → length (cells_in count s) ≡ count
unfolding cells_in
in_length zero s = refl
in_length (suc count) s = ap suc (in_length count (drop (needed s) s))

pub in_fives : (count : ℕ) (s : List ℕ) → Fives (cells_in count s)
unfolding cells_in
in_fives zero s = tt
in_fives (suc count) s = (cell_length s, in_fives count (drop (needed s) s))

-- A reading that begins so much later: a refusal stands so much later, and what is found is the same
unfoldable pub shifted : {A : Type 0} → (base : ℕ) → Got A → Got A
shifted base (got a n) = got a n
shifted base (refused r) = refused (r.number at (base + r.place))

pub shifted_got : {A : Type 0} (base : ℕ) (g : Got A) {a : A} {n : ℕ} → shifted base g ≡ got a n → g ≡ got a n
unfolding shifted
shifted_got base (got b m) e = e
shifted_got base (refused r) e = absurd (not_both e)

module _ (base : ℕ) where
  shifted_bind : {A B : Type 0} (g : Got A) (k later : A × ℕ → Got B) → ((a : A) (n : ℕ) → later (a, n) ≡ shifted base (k (a, n)))
      → (shifted base g >>= later) ≡ shifted base (g >>= k)
  unfolding shifted ◌>>=◌
  shifted_bind (got a n) k later h = h a n
  shifted_bind (refused r) k later h = refl

  pub cell_shifted : (place : ℕ) (s : List ℕ) → read_cell (base + place) s ≡ shifted base (read_cell place s)
  unfolding shifted read_cell checked ensure ◌>>◌
  cell_shifted place s = go (leb (needed s) (length s))
    where
      tried : (place : ℕ) → Bool → Got (List ℕ)
      tried place fits = (ensure fits (7 at place) >> got (tt {0}) 0) >> got (cell_at s) (needed s)

      go : (b : Bool) → tried (base + place) b ≡ shifted base (tried place b)
      go true = refl
      go false = refl

  pub run_shifted : (count place : ℕ) (s : List ℕ) → read_run count (base + place) s ≡ shifted base (read_run count place s)
  unfolding shifted
  run_shifted zero place s = refl
  run_shifted (suc count) place s =
      ap (λ (g : Got (List ℕ)). g >>= (λ (i, n). read_run count (base + place + n) (drop n s) >>= (λ (is, m). got (i ∷ is) (n + m)))) (cell_shifted place s)
      ∙ shifted_bind (read_cell place s) _ _ λ i n.
      ap (λ (p : ℕ). read_run count p (drop n s) >>= (λ (is, m). got (i ∷ is) (n + m))) (add_assoc base place n)
      ∙ ap (λ (g : Got (List (List ℕ))). g >>= (λ (is, m). got (i ∷ is) (n + m))) (run_shifted count (place + n) (drop n s))
      ∙ shifted_bind (read_run count (place + n) (drop n s)) _ _ (λ is m. refl)

  module _ (rows : ℕ) (d : List ℕ) where
    rest : (place : ℕ) → List (List ℕ) × ℕ → Got Pattern
    rest place (cells, used) = checked (at_most 0 (length d - used) (8 at (place + used)) ∷ []) >> got (record { rows = rows; cells = cells }) used

    rest_shifted : (cells : List (List ℕ)) (used : ℕ) → rest base (cells, used) ≡ shifted base (rest 0 (cells, used))
    unfolding rest shifted checked ensure ◌>>◌
    rest_shifted cells used = go (leb (length d - used) 0)
      where
        tried : (place : ℕ) → Bool → Got Pattern
        tried place fits = (ensure fits (8 at (place + used)) >> got (tt {0}) 0) >> got (record { rows = rows; cells = cells }) used

        go : (b : Bool) → tried base b ≡ shifted base (tried 0 b)
        go true = refl
        go false = ap {B = Got Pattern} (λ (n : ℕ). refused (8 at (base + n))) (sym (zero-add used))

    cells_shifted : (channels : ℕ) → read_cells channels rows base d ≡ shifted base (read_cells channels rows 0 d)
    unfolding read_cells rest
    cells_shifted channels =
        ap (λ (p : ℕ). read_run (rows * channels) p d >>= rest base) (sym (add-zero base))
        ∙ ap (λ (g : Got (List (List ℕ))). g >>= rest base) (run_shifted (rows * channels) 0 d)
        ∙ shifted_bind (read_run (rows * channels) 0 d) (rest 0) (rest base) (λ cells used. rest_shifted cells used)

  pub stored_shifted : (channels rows : ℕ) (d : List ℕ) → read_stored channels rows base d ≡ shifted base (read_stored channels rows 0 d)
  unfolding read_stored shifted
  stored_shifted channels rows [] = refl
  stored_shifted channels rows (b ∷ d) = cells_shifted rows (b ∷ d) channels

-- So an accepted reading is accepted anywhere
pub stored_anywhere : (channels rows place other : ℕ) (d : List ℕ) (p : Pattern) (used : ℕ) → read_stored channels rows place d ≡ got p used
    → read_stored channels rows other d ≡ got p used
unfolding shifted
stored_anywhere channels rows place other d p used e =
    stored_shifted other channels rows d
    ∙ ap (shifted other) (shifted_got place (read_stored channels rows 0 d) (sym (stored_shifted place channels rows d) ∙ e))

-- Two numbers that are no less than two others: their sums are equal exactly if both are
sum_least : (i j a b : ℕ) → i ≤ a → j ≤ b → eqb (a + b) (i + j) ≡ (eqb a i && eqb b j)
sum_least i j a b h k = go (eqb a i) refl (eqb b j) refl
  where
    go : (t : Bool) → eqb a i ≡ t → (u : Bool) → eqb b j ≡ u → eqb (a + b) (i + j) ≡ (t && u)
    go true e true f = eq-eqb (a + b) (i + j) (omega (arith, eqb-true a i e, eqb-true b j f))
    go true e false f = ne_eqb (a + b) (i + j) (λ z. eqb-false b j f (omega (arith, eqb-true a i e)))
    go false e u f = ne_eqb (a + b) (i + j) (λ z. eqb-false a i e (omega arith))

-- Nothing is kept exactly of an empty cell, which takes one byte, and no other does
bit-zero : (x : ℕ) → eqb (bit x) 0 ≡ eqb x 0
bit-zero x = go (eqb x 0) refl
  where
    go : (t : Bool) → eqb x 0 ≡ t → eqb (bit x) 0 ≡ t
    go true e = eq-eqb (bit x) 0 (bit_none x (eqb-true x 0 e))
    go false e = ne_eqb (bit x) 0 (λ z. omega (arith, bit_some x (eqb-false x 0 e)))

kepts-zero : (cell : List ℕ) → eqb (length (kepts cell)) 0 ≡ all_zero cell
unfolding kepts all_zero
kepts-zero [] = refl
kepts-zero (x ∷ xs) =
    rw (length-append, kept-length) (sum_least 0 0 (bit x) (length (kepts xs)) (omega arith) (omega arith) ∙ ap₂ ◌&&◌ (bit-zero x) (kepts-zero xs))

cell_zero : (cell : List ℕ) → length cell ≡ 5 → eqb (length (write_cell cell)) 1 ≡ all_zero cell
unfolding goes_plain
cell_zero cell h = go (goes_plain cell) refl
  where
    go : (t : Bool) → goes_plain cell ≡ t → eqb (length (write_cell cell)) 1 ≡ all_zero cell
    go true e =
        let many = plain_many (get_or cell 0 0) (length (kepts cell)) e in
        rw (write_plain cell e, h) (sym (ne_eqb (length (kepts cell)) 0 (λ z. omega (arith, many))) ∙ kepts-zero cell)
    go false e = rw (write_marked cell e, marked-length cell) (sum_least 1 0 1 (length (kepts cell)) (omega arith) (omega arith) ∙ kepts-zero cell)

-- Cells take a byte each at least, and are all empty exactly if they take no more
pub cells_least : (cells : List (List ℕ)) → Fives cells → length cells ≤ length (joined write_cell cells)
cells_least [] h = omega arith
cells_least (c ∷ cells) h = rw length-append (omega (arith, write_some c h.0, cells_least cells h.1))

pub cells_zero : (cells : List (List ℕ)) → Fives cells → eqb (length (joined write_cell cells)) (length cells) ≡ all_zero (flat cells)
unfolding all_zero
cells_zero [] h = refl
cells_zero (c ∷ cells) h =
    let one : suc (length cells) ≡ 1 + length cells = omega arith in
    rw (length-append, one, zero-append)
    (sum_least 1 (length cells) (length (write_cell c)) (length (joined write_cell cells)) (write_some c h.0) (cells_least cells h.1)
    ∙ ap₂ ◌&&◌ (cell_zero c h.0) (cells_zero cells h.1))

-- So the length of the cells tells the length of the stored form, and what it is
pub stored_nothing : (p : Pattern) → length (write_stored p) ≡ 0 → write_stored p ≡ []
stored_nothing p = go (write_stored p)
  where
    go : (l : List ℕ) → length l ≡ 0 → l ≡ []
    go [] h = refl
    go (x ∷ l) h = absurd (omega arith)

pub stored_cells : (p : Pattern) → 1 ≤ length (write_stored p) → write_stored p ≡ joined write_cell p.cells
stored_cells p h = go (needs_no_data p) refl
  where
    go : (t : Bool) → needs_no_data p ≡ t → write_stored p ≡ joined write_cell p.cells
    go true e = absurd (omega (arith, ap length (write_none p e)))
    go false e = write_cells p e

pub size_by_lem : (p : Pattern) → Fives p.cells → size_by (length p.cells) (length (joined write_cell p.cells)) ≡ length (write_stored p)
unfolding size_by needs_no_data
size_by_lem p fives = rw (cells_zero p.cells fives) (go (needs_no_data p) refl)
  where
    go : (t : Bool) → needs_no_data p ≡ t → cond t 0 (length (joined write_cell p.cells)) ≡ length (write_stored p)
    go true e = sym (ap length (write_none p e))
    go false e = sym (ap length (write_cells p e))
