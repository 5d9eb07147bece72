-- A run of cells, of which the first is written next. Assumes nothing.
use Prim.Native.Nat.{ℕ, ◌+◌, ◌-◌, ◌≤◌}
use mathlib.Core.Path.{◌≡◌, refl, ap, ◌∙◌}
use mathlib.Core.List.{List, [], ◌∷◌, ◌++◌}
use native.Mathlib.Omega.{arith}
use lib.ListN.{length, take, drop, set, length-append}
use borrow.Rule.Slice.PartMut.{put_mid}
use Rattle.xm.specs.Format.{joined}
use Rattle.xm.specs.Answer.{in_front}
use Rattle.xm.specs.Cell.{write_cell}
use Rattle.xm.proofs.Lay.{Laid, laid_part, laid_set}
use Rattle.cell.specs.Over.{over_most, Over}
use Rattle.cell.proofs.OverLaws.{laid_over}

-- Its bytes, and those of the rest
pub first_length : {rest rest' : List (List ℕ)} {cell : List ℕ} → rest ≡ cell ∷ rest'
    → length (joined write_cell rest) ≡ length (write_cell cell) + length (joined write_cell rest')
first_length {rest' = rest'} {cell} e = ap (λ (r : List (List ℕ)). length (joined write_cell r)) e ∙ length-append (write_cell cell) (joined write_cell rest')

module _ {lent goal out : List ℕ} {to : ℕ} {rest rest' : List (List ℕ)} {cell : List ℕ} (l : Laid lent goal out to (joined write_cell rest))
    (first : rest ≡ cell ∷ rest') where
  pub writing_room : to + length (write_cell cell) ≤ length out
  writing_room = omega (arith, l.room, first_length first)

  -- by a writer of one cell that was lent `&mut out[to..]`
  module _ (ys : List ℕ) (used : ℕ) (is_used : used ≡ length (write_cell cell)) where
    pub writing_part : ys ≡ in_front (write_cell cell) (take (length out - to) (drop to out))
        → Laid lent goal (put_mid to (length out - to) out ys) (to + used) (joined write_cell rest')
    writing_part e = laid_part l (write_cell cell) (joined write_cell rest') (ap (joined write_cell) first) refl (ap (λ (n : ℕ). to + n) is_used) e

    -- and may write too much, while there is more to write than that
    pub writing_over : over_most ≤ length (joined write_cell rest) → Over (write_cell cell) (take (length out - to) (drop to out)) ys
        → length ys ≡ length (take (length out - to) (drop to out)) → Laid lent goal (put_mid to (length out - to) out ys) (to + used) (joined write_cell rest')
    writing_over more o long = laid_over l (write_cell cell) (joined write_cell rest') (ap (joined write_cell) first) (ap (λ (n : ℕ). to + n) is_used) more o long

  -- an empty cell, by one store
  pub writing_empty : write_cell cell ≡ 128 ∷ [] → Laid lent goal (set out to 128) (to + 1) (joined write_cell rest')
  writing_empty e = laid_set l 128 (joined write_cell rest') (ap (joined write_cell) first ∙ ap (λ (w : List ℕ). w ++ joined write_cell rest') e)
