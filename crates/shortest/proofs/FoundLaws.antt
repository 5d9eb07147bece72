-- Stored cells that were accepted: the state of the loop that writes them again. Assumes nothing.
use Prim.Native.Nat.{ℕ, ◌+◌, ◌*◌, ◌-◌, ◌≤◌, ◌<◌}
use mathlib.Core.Path.{◌≡◌, refl, sym, ap, ◌∙◌}
use mathlib.Core.Bool.{true}
use mathlib.Core.List.{List, [], ◌∷◌}
use native.Mathlib.Omega.{arith}
use borrow.Rule.Slice.PartMut.{put_mid}
use lib.ListN.{length, get_or, take, drop, set, length-drop}
use Rattle.xm.specs.Got.{accepted, list_in}
use Rattle.xm.specs.Format.{joined}
use Rattle.xm.specs.Answer.{in_front}
use Rattle.xm.specs.Cell.{length_by, cell_at, write_cell}
use Rattle.xm.specs.Stored.{Pattern, empty_rows, read_run, read_cells, read_stored, write_stored}
use Rattle.xm.specs.Run.{cells_in}
use Rattle.xm.proofs.Got.{accepted-got, got-accepted, passed, bind_got, got_value}
use Rattle.xm.proofs.Format.{cons_path}
use Rattle.xm.proofs.Cell.{length_some}
use Rattle.xm.proofs.Lay.{Laid, laid_none, laid_done, laid_long}
use Rattle.xm.proofs.Stored.{rows_none, write_none}
use Rattle.xm.proofs.Run.{run_read, in_length, in_fives, cells_least, stored_cells}
use Rattle.cell.specs.Over.{over_most, Over}
use Rattle.cell.proofs.ReadLaws.{empty_length, empty_cell}
use Rattle.cell.proofs.ReadRuns.{First, run_first, cells_first}
use Rattle.cell.proofs.WriteLaws.{empty_written}
use Rattle.cell.proofs.WriteRuns.{writing_room, writing_part, writing_over, writing_empty}
use Rattle.mark.specs.declared.Mark.{Mark}
use Rattle.mark.specs.declared.Mark.TheVariants.{Again, Nothing}
use Rattle.shortest.specs.Found.{stored_pressed, Known}

-- The state of the loop: `left` cells are still to be written again, from `place` on
pub record Rewriting (stored lent goal out : List ℕ) (place to left : ℕ) : Type 0 where
  pub inside : place ≤ length stored
  pub fine : accepted (read_run left place (drop place stored)) ≡ true
  pub writing : Laid lent goal out to (joined write_cell (cells_in left (drop place stored)))

pub rewriting_none : (stored lent : List ℕ) (from count : ℕ) {left : ℕ} → left ≡ count → from ≤ length stored → accepted (read_run count from (drop from stored)) ≡ true
    → length (joined write_cell (cells_in count (drop from stored))) ≤ length lent
    → Rewriting stored lent (joined write_cell (cells_in count (drop from stored))) lent from 0 left
rewriting_none stored lent from count all h g r = rw all (record { inside = h; fine = g; writing = laid_none lent (joined write_cell (cells_in count (drop from stored))) r })

module _ {stored lent goal out : List ℕ} {place to left : ℕ} (f : Rewriting stored lent goal out place to left) where
  pub rewriting_done : left ≡ 0 → (to ≡ length goal) × (out ≡ in_front goal lent)
  unfolding cells_in
  rewriting_done z =
      let none = ap (λ (n : ℕ). joined write_cell (cells_in n (drop place stored))) z in
      (laid_long f.writing none, laid_done f.writing none)

  -- as many bytes as cells are left to read, and to write
  pub rewriting_stored : place + left ≤ length stored
  rewriting_stored =
      accepted-got (read_run left place (drop place stored)) f.fine λ cells used e.
      let r = run_read left place (drop place stored) cells used e in
      omega (arith, r.least, r.inside, length-drop place stored, f.inside)

  rewriting_more : left ≤ length (joined write_cell (cells_in left (drop place stored)))
  rewriting_more = omega (arith, cells_least (cells_in left (drop place stored)) (in_fives left (drop place stored)), in_length left (drop place stored))

  pub rewriting_lent : left ≤ length (drop to out)
  rewriting_lent = omega (arith, rewriting_more, f.writing.room, length-drop to out)

  module _ (h : 0 < left) where
    first : First stored place left
    first = run_first stored place left h f.inside f.fine

    pub rewriting_fits : place + length_by (get_or stored place 0) ≤ length stored
    rewriting_fits = first.fits

    pub rewriting_here : place < length stored
    rewriting_here = omega (arith, first.fits, length_some (get_or stored place 0))

    -- the first cell is written, and the rest stands behind it
    module _ {cell : List ℕ} (is_cell : cell ≡ cell_at (drop place stored)) where
      cells : cells_in left (drop place stored) ≡ cell ∷ cells_in (left - 1) (drop (place + length_by (get_or stored place 0)) stored)
      cells = cells_first stored place left h ∙ cons_path (sym is_cell) refl

      pub rewriting_room : to + length (write_cell cell) ≤ length out
      rewriting_room = writing_room f.writing cells

      next : {new : List ℕ} {to' left' : ℕ} → (place' : ℕ) → place' ≡ place + length_by (get_or stored place 0) → left' ≡ left - 1
          → Laid lent goal new to' (joined write_cell (cells_in (left - 1) (drop (place + length_by (get_or stored place 0)) stored)))
          → Rewriting stored lent goal new place' to' left'
      next place' u less w = rw (u, less) (record { inside = first.fits; fine = first.rest; writing = w })

      module _ (place' : ℕ) (is_place : place' ≡ place + length_by (get_or stored place 0)) (ys : List ℕ) (size : ℕ)
          (is_size : size ≡ length (write_cell cell)) {left' : ℕ} (less : left' ≡ left - 1) where
        pub rewriting_part : ys ≡ in_front (write_cell cell) (take (length out - to) (drop to out))
            → Rewriting stored lent goal (put_mid to (length out - to) out ys) place' (to + size) left'
        rewriting_part e = next place' is_place less (writing_part f.writing cells ys size is_size e)

        pub rewriting_over : over_most ≤ left → Over (write_cell cell) (take (length out - to) (drop to out)) ys
            → length ys ≡ length (take (length out - to) (drop to out))
            → Rewriting stored lent goal (put_mid to (length out - to) out ys) place' (to + size) left'
        rewriting_over more o l = next place' is_place less (writing_over f.writing cells ys size is_size (omega (arith, rewriting_more)) o l)

    -- the lead byte 128 is an empty cell
    module _ (lead : get_or stored place 0 ≡ 128) where
      pub empty_room : to < length out
      empty_room = omega (arith, rewriting_room (sym (empty_cell place stored lead)), ap length empty_written)

      pub rewriting_empty : {left' : ℕ} → left' ≡ left - 1 → Rewriting stored lent goal (set out to 128) (place + 1) (to + 1) left'
      rewriting_empty less =
          let empty = sym (empty_cell place stored lead) in
          next empty (place + 1) (ap (λ (n : ℕ). place + n) (sym (empty_length place stored lead))) less (writing_empty f.writing (cells empty) empty_written)

-- A stored form that takes some bytes in its shortest form: its cells
pub record CellsOf (rows channels : ℕ) (stored : List ℕ) : Type 0 where
  pub fine : accepted (read_run (rows * channels) 0 stored) ≡ true
  pub same : stored_pressed rows channels stored ≡ joined write_cell (cells_in (rows * channels) stored)

pub stored_pressed_lem : (rows channels : ℕ) (stored : List ℕ) → accepted (read_stored channels rows 0 stored) ≡ true
    → 0 < length (stored_pressed rows channels stored)
    → CellsOf rows channels stored
unfolding read_stored read_cells
stored_pressed_lem rows channels [] g h = absurd (omega (arith, ap length (write_none (empty_rows channels rows) (rows_none channels rows))))
stored_pressed_lem rows channels (b ∷ d) g h =
    accepted-got (read_stored channels rows 0 (b ∷ d)) g λ p n e. bind_got (read_run (rows * channels) 0 (b ∷ d)) _ e λ cells m ec e'. passed _ _ e' λ t e'.
    let w = ap (list_in write_stored) e in
    record {
      fine = got-accepted ec;
      same =
          w ∙ stored_cells p (omega (arith, ap length w)) ∙ ap (λ (q : Pattern). joined write_cell q.cells) (sym (got_value e'))
          ∙ ap (joined write_cell) (run_read (rows * channels) 0 (b ∷ d) cells m ec).same;
    }

-- What is known of one that is to be written again
module _ {rows channels : ℕ} {stored : List ℕ} {mark : Mark} (k : Known rows channels stored mark) (again : mark ≡ Again) where
  some : 0 < length (stored_pressed rows channels stored)
  some = k.some (λ e. absurd (let z : ◌≡◌ {A = Mark} Again Nothing = sym again ∙ e in cc))

  pub again_fine : accepted (read_run (rows * channels) 0 stored) ≡ true
  again_fine = (stored_pressed_lem rows channels stored k.fine some).fine

  pub again_same : stored_pressed rows channels stored ≡ joined write_cell (cells_in (rows * channels) stored)
  again_same = (stored_pressed_lem rows channels stored k.fine some).same
