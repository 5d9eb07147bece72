-- Laws of a loop that measures cells, one by one. Assumes nothing.
use Prim.Native.Nat.{ℕ, ◌+◌, ◌-◌, ◌≤◌, ◌<◌}
use mathlib.Core.Bool.{Bool, true, false, ◌&&◌, and-eq-true_iff, and_assoc, and-true}
use mathlib.Core.List.{List, [], ◌∷◌, ◌++◌}
use mathlib.Core.Path.{◌≡◌, refl, sym, ap, ◌∙◌}
use native.Mathlib.Nat.{add_assoc}
use native.Mathlib.Omega.{arith}
use borrow.Author.Tests.{eqb-true, eq-eqb}
use lib.Dec.{eqb}
use lib.ListN.{length, get_or, take, drop, length-append, length-drop}
use lib.Seq.{drop-drop, take_at, drop_at, take-add, length-take-le}
use Rattle.xm.specs.Got.{Refusal, Got, got, refused}
use Rattle.xm.specs.Format.{joined}
use Rattle.xm.specs.Cell.{length_by, needed, cell_at, read_cell, kepts, write_cell}
use Rattle.xm.specs.Short.{shortest_by, short_by, is_short}
use Rattle.xm.specs.Stored.{read_run}
use Rattle.xm.proofs.Got.{no_true}
use Rattle.xm.proofs.Format.{cons_path}
use Rattle.xm.proofs.Cell.{cell_length, CellRead, cell_read, write_short}
use Rattle.xm.proofs.Lay.{head_at_lem}
use Rattle.xm.proofs.Short.{shortest_by_lem, short_by_lem, short_exact}
use Rattle.xm.proofs.Run.{run_read}
use Rattle.refusal.specs.Refusal.{code_refusal}
use Rattle.refusal.specs.declared.Step.{Step}
use Rattle.refusal.specs.declared.Step.TheVariants.{Given, Refused}
use Rattle.cell.proofs.ReadRuns.{cell_onto, run_more, run_stop}
use Rattle.measure.specs.declared.StoredSize.{StoredSize}
use Rattle.measure.specs.Measure.{same_bytes, measured_on}

pub bool_same : (a b : Bool) → (a ≡ true → b ≡ true) → (b ≡ true → a ≡ true) → a ≡ b
bool_same true b f g = sym (f refl)
bool_same false true f g = g refl
bool_same false false f g = refl

-- Two rows of bytes are the same
same_equal : (xs ys : List ℕ) → same_bytes xs ys ≡ true → xs ≡ ys
unfolding same_bytes
same_equal [] [] e = refl
same_equal [] (y ∷ ys) e = absurd (no_true e)
same_equal (x ∷ xs) [] e = absurd (no_true e)
same_equal (x ∷ xs) (y ∷ ys) e =
    let b = (and-eq-true_iff (eqb x y) (same_bytes xs ys)).0 e in cons_path (eqb-true x y b.0) (same_equal xs ys b.1)

same_refl : (xs : List ℕ) → same_bytes xs xs ≡ true
unfolding same_bytes
same_refl [] = refl
same_refl (x ∷ xs) = rw (eq-eqb x x refl) (same_refl xs)

-- Pieces put together, none longer than what it is held against: all is the same exactly if each piece is
append_both : (x y w r : List ℕ) → length w ≤ length x → length r ≤ length y → x ++ y ≡ w ++ r → (x ≡ w) × (y ≡ r)
append_both x y w r h k e =
    let l : length w ≡ length x = omega (arith, length-append x y, length-append w r, ap length e) in (
      sym (take_at x y (length x) refl) ∙ ap (take (length x)) e ∙ take_at w r (length x) l,
      sym (drop_at x y (length x) refl) ∙ ap (drop (length x)) e ∙ drop_at w r (length x) l,
    )

same_append : (x y w r : List ℕ) (b : Bool) → length w ≤ length x → length r ≤ length y → (b ≡ true → w ≡ x) → (w ≡ x → b ≡ true)
    → same_bytes (x ++ y) (w ++ r) ≡ (b && same_bytes y r)
same_append x y w r b h k to from =
    bool_same (same_bytes (x ++ y) (w ++ r)) (b && same_bytes y r)
    (λ e.
    let p = append_both x y w r h k (same_equal (x ++ y) (w ++ r) e) in
    (and-eq-true_iff b (same_bytes y r)).1 (from (sym p.0), rw p.1 (same_refl r)))
    (λ e.
    let t = (and-eq-true_iff b (same_bytes y r)).0 e in
    rw (to t.0, same_equal y r t.1) (same_refl (x ++ r)))

abbrev pub sized : (used shortest : ℕ) (same : Bool) → StoredSize
sized used shortest same = record { used = used; shortest = shortest; same = same }

size_path : {used used' shortest shortest' : ℕ} {same same' : Bool} → used ≡ used' → shortest ≡ shortest' → same ≡ same'
    → sized used shortest same ≡ sized used' shortest' same'
size_path p q r = cc

-- One cell more
measured_more : (s : List ℕ) (left : ℕ) (before : StoredSize) → 0 < left → {cell : List ℕ} {k : ℕ} → read_cell before.used (drop before.used s) ≡ got cell k
    → measured_on before (drop before.used s) (read_run left before.used (drop before.used s))
    ≡ measured_on (sized (before.used + k) (before.shortest + length (write_cell cell)) (before.same && is_short (drop before.used s)))
    (drop (before.used + k) s) (read_run (left - 1) (before.used + k) (drop (before.used + k) s))
measured_more s left before some {cell} {k} e =
    ap (measured_on before d) (run_more s before.used left some e) ∙ go (read_run (left - 1) (before.used + k) (drop (before.used + k) s)) refl
  where
    d : List ℕ
    d = drop before.used s

    r : CellRead d cell k
    r = cell_read before.used d cell k e

    go : (g : Got (List (List ℕ))) → read_run (left - 1) (before.used + k) (drop (before.used + k) s) ≡ g
        → measured_on before d (cell_onto cell k g)
        ≡ measured_on (sized (before.used + k) (before.shortest + length (write_cell cell)) (before.same && is_short d)) (drop (before.used + k) s) g
    go (refused r) q = refl
    go (got js m) q =
        let w = write_cell cell in
        let rest = joined write_cell js in
        let row = run_read (left - 1) (before.used + k) (drop (before.used + k) s) js m q in
        let x = short_exact d r.fits in
        let written : w ≡ write_cell (cell_at d) = ap write_cell r.same in
        let stands : take k d ≡ take (needed d) d = ap (λ (n : ℕ). take n d) r.long in
        let front : length (take k d) ≡ k = length-take-le k d (omega (arith, r.long, r.fits)) in
        let back : length (take m (drop (before.used + k) s)) ≡ m = length-take-le m (drop (before.used + k) s) row.inside in
        ap Given (size_path (sym (add_assoc before.used k m))
        (ap (λ (n : ℕ). before.shortest + n) (length-append w rest) ∙ sym (add_assoc before.shortest (length w) (length rest)))
        (ap (λ (b : Bool). before.same && b)
        (ap (λ (l : List ℕ). same_bytes l (w ++ rest)) (take-add k m d ∙ ap (λ (l : List ℕ). take k d ++ take m l) (drop-drop k before.used s))
        ∙ same_append (take k d) (take m (drop (before.used + k) s)) w rest (is_short d) (omega (arith, ap length written, r.long, write_short d))
        (omega (arith, row.short))
        (λ t. written ∙ x.0 t ∙ sym stands) (λ t. x.1 (sym written ∙ t ∙ stands)))
        ∙ sym (and_assoc before.same (is_short d) (same_bytes (take m (drop (before.used + k) s)) rest))))

-- `left` cells are still to come, behind those that came to `size`, and the loop's answer is to be `answer`
pub record Measuring (s : List ℕ) (answer : Step StoredSize) (size : StoredSize) (left : ℕ) : Type 0 where
  pub inside : size.used ≤ length s
  pub small : size.shortest ≤ size.used
  pub rest : answer ≡ measured_on size (drop size.used s) (read_run left size.used (drop size.used s))

module _ {s : List ℕ} {answer : Step StoredSize} {size : StoredSize} {left : ℕ} (v : Measuring s answer size left) where
  pub measuring_more : 0 < left → {k cost : ℕ} → read_cell size.used (drop size.used s) ≡ got (cell_at (drop size.used s)) k
      → cost ≡ length (write_cell (cell_at (drop size.used s)))
      → Measuring s answer (sized (size.used + k) (size.shortest + cost) (size.same && is_short (drop size.used s))) (left - 1)
  measuring_more some {k} e ec =
      let i = v.inside in
      let m = v.small in
      let r = cell_read size.used (drop size.used s) (cell_at (drop size.used s)) k e in
      record {
        inside = omega (arith, r.long, r.fits, length-drop size.used s);
        small = omega (arith, ec, r.long, write_short (drop size.used s));
        rest = v.rest ∙ measured_more s left size some e ∙ rw ec;
      }

  pub measuring_stop : 0 < left → {r : Refusal} → read_cell size.used (drop size.used s) ≡ refused r → Refused (code_refusal r) ≡ answer
  measuring_stop some e = sym (v.rest ∙ ap (measured_on size (drop size.used s)) (run_stop s size.used left some e))

  pub measuring_done : left ≡ 0 → Given size ≡ answer
  unfolding same_bytes
  measuring_done z =
      ap Given (size_path (omega arith) (omega arith) (sym (and-true size.same)))
      ∙ sym (v.rest ∙ ap (λ (n : ℕ). measured_on size (drop size.used s) (read_run n size.used (drop size.used s))) z)

  -- A cell by the numbers that the code has: how many fields are kept, and the length of its shortest form
  pub measuring_cell : 0 < left → read_cell size.used (drop size.used s) ≡ got (cell_at (drop size.used s)) (length_by (get_or s size.used 0))
      → {next long kept least left' : ℕ} {same : Bool} → next ≡ size.used + length_by (get_or s size.used 0) → long ≡ length_by (get_or s size.used 0)
      → kept ≡ length (kepts (cell_at (drop size.used s))) → least ≡ shortest_by (get_or (cell_at (drop size.used s)) 0 0) kept
      → same ≡ (size.same && short_by (get_or s size.used 0) long kept least) → left' ≡ left - 1
      → Measuring s answer (sized next (size.shortest + least) same) left'
  measuring_cell some reads {kept = kept} en el ek eleast es eleft =
      let d = drop size.used s in
      let cost = eleast ∙ ap (shortest_by (get_or (cell_at d) 0 0)) ek ∙ shortest_by_lem (cell_at d) (cell_length d) in
      let same = es ∙ ap (λ (b : Bool). size.same && b)
      (short_by_lem d _ _ _ _ (sym (head_at_lem size.used s 0)) (el ∙ ap length_by (sym (head_at_lem size.used s 0))) ek cost) in
      rw (en, same, eleft) (measuring_more some reads cost)
