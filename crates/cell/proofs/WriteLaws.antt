-- Laws of one cell written: plain or marked by its note and by how many fields are kept, and these put one after the other. Assumes nothing.
use Prim.Native.Nat.{ℕ, zero, suc, ◌+◌, ◌*◌, ◌≤◌, ◌<◌}
use mathlib.Core.Path.{◌≡◌, refl, sym, ap, ◌∙◌}
use mathlib.Core.Bool.{Bool, true, false, ◌&&◌}
use mathlib.Core.List.{List, [], ◌∷◌, ◌++◌}
use native.Mathlib.Omega.{arith}
use borrow.Author.Tests.{ltb-true, ltb-false, eqb-true, eqb-false}
use lib.Dec.{ltb, eqb}
use lib.ListN.{length, get_or, take, set, replicate}
use lib.Seq.{drop-drop}
use Rattle.xm.specs.Answer.{in_front}
use Rattle.xm.specs.Lay.{lay}
use Rattle.xm.specs.Cell.{cell_size, bit, kept, marks, kepts, marked, stands_plain, plain_shorter, plain_by, goes_plain, write_cell}
use Rattle.xm.proofs.Cell.{bit_most, kept-length, kepts_sum, marks_sum, kepts_most, marked-length, write_plain, write_marked, plain_many, many_plain}
use Rattle.xm.proofs.Cell.{few_marked, marked_high}
use Rattle.xm.proofs.Lay.{Laid, laid_none, laid_more, laid_set, laid_done, laid_long}

-- Plain or marked, by the note and by how many fields are kept
pub count_plain : (cell : List ℕ) → plain_by (get_or cell 0 0) (length (kepts cell)) ≡ true → write_cell cell ≡ cell
unfolding goes_plain
count_plain cell h = write_plain cell h

pub count_marked : (cell : List ℕ) → plain_by (get_or cell 0 0) (length (kepts cell)) ≡ false → write_cell cell ≡ marked cell
unfolding goes_plain
count_marked cell h = write_marked cell h

pub written_marked : (cell : List ℕ) → plain_by (get_or cell 0 0) (length (kepts cell)) ≡ false → length (write_cell cell) ≡ 1 + length (kepts cell)
written_marked cell h = ap length (count_marked cell h) ∙ marked-length cell

-- A cell of which all is kept, as of one that goes plain
kepts_full : (cell : List ℕ) → length cell ≤ length (kepts cell) → kepts cell ≡ cell
unfolding kepts kept
kepts_full [] h = refl
kepts_full (zero ∷ xs) h = absurd (omega (arith, kepts_most xs))
kepts_full (suc x ∷ xs) h = ap (λ (l : List ℕ). suc x ∷ l) (kepts_full xs (omega arith))

pub plain_kept : (cell : List ℕ) → length cell ≡ 5 → plain_by (get_or cell 0 0) (length (kepts cell)) ≡ true → kepts cell ≡ cell
plain_kept cell size h = kepts_full cell (omega (arith, plain_many (get_or cell 0 0) (length (kepts cell)) h))

-- The lead byte's five bits are all set exactly if all fields are kept
module _ (a b c d e lead : ℕ) (is_lead : lead ≡ 128 + marks (a ∷ b ∷ c ∷ d ∷ e ∷ [])) where
  less : (p q r s t : ℕ) → p ≤ 1 → q ≤ 1 → r ≤ 1 → s ≤ 1 → t ≤ 1 → (p + 2 * q + 4 * r + 8 * s + 16 * t ≡ 31 → ⊥) → p + (q + (r + (s + t))) < 5
  less p q r s t hp hq hr hs ht h = omega arith

  lead_full : lead ≡ 159 → 5 ≤ length (kepts (a ∷ b ∷ c ∷ d ∷ e ∷ []))
  lead_full h = omega (arith, is_lead, marks_sum a b c d e, kepts_sum a b c d e, bit_most a, bit_most b, bit_most c, bit_most d, bit_most e)

  lead_less : (lead ≡ 159 → ⊥) → length (kepts (a ∷ b ∷ c ∷ d ∷ e ∷ [])) < 5
  lead_less h =
      rw (kepts_sum a b c d e)
      (less (bit a) (bit b) (bit c) (bit d) (bit e) (bit_most a) (bit_most b) (bit_most c) (bit_most d) (bit_most e)
      (λ z. h (omega (arith, is_lead, marks_sum a b c d e))))

  -- So it tells, with the note, whether the cell goes plain
  pub lead_plain : (eqb lead 159 && ltb a 128) ≡ plain_by a (length (kepts (a ∷ b ∷ c ∷ d ∷ e ∷ [])))
  lead_plain = go (eqb lead 159) refl (ltb a 128) refl
    where
      go : (t : Bool) → eqb lead 159 ≡ t → (u : Bool) → ltb a 128 ≡ u → (t && u) ≡ plain_by a (length (kepts (a ∷ b ∷ c ∷ d ∷ e ∷ [])))
      go true t true u = sym (many_plain a _ (ltb-true a 128 u) (lead_full (eqb-true lead 159 t)))
      go true t false u = sym (marked_high a _ (ltb-false a 128 u))
      go false t u q = sym (few_marked a _ (omega (arith, lead_less (eqb-false lead 159 t))))

-- An empty cell is its lead byte
pub empty_written : write_cell (replicate cell_size 0) ≡ 128 ∷ []
unfolding write_cell goes_plain plain_by stands_plain plain_shorter marked marks kepts kept
empty_written = refl

-- The lead byte, and behind it the fields that are kept, which are still to be laid
pub put_first : (lent cell : List ℕ) (lead : ℕ) → lead ≡ 128 + marks cell → 1 + length (kepts cell) ≤ length lent
    → Laid lent (marked cell) (set lent 0 lead) 1 (kepts cell)
unfolding marked
put_first lent cell lead e h =
    laid_set (laid_none lent (marked cell) (omega (arith, marked-length cell))) lead (kepts cell) (ap (λ (x : ℕ). x ∷ kepts cell) (sym e))

pub put_more : {lent goal out : List ℕ} {to : ℕ} (x : ℕ) (xs : List ℕ) → Laid lent goal out to (kepts (x ∷ xs)) → {new : List ℕ} {next : ℕ}
    → (next ≡ to + bit x) × (new ≡ lay out to (kept x)) → Laid lent goal new next (kepts xs)
unfolding kepts lay
put_more {out = out} {to} x xs l {new} {next} q =
    laid_more l (kept x) (kepts xs) new next refl (omega (arith, q.0, kept-length x))
    (q.1 ∙ ap (λ (left : List ℕ). take to out ++ (kept x ++ left)) (sym (drop-drop (length (kept x)) to out)))

pub put_done : {lent out : List ℕ} {to : ℕ} (cell : List ℕ) → Laid lent (marked cell) out to (kepts []) → plain_by (get_or cell 0 0) (length (kepts cell)) ≡ false
    → (to ≡ length (write_cell cell)) × (out ≡ in_front (write_cell cell) lent)
unfolding kepts
put_done cell l h = rw (count_marked cell h) (laid_long l refl, laid_done l refl)
