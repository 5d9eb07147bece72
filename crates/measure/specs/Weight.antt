-- For the loop that measures cells: how long a cell's shortest form is, next to those of its stored bytes that aren't 0.
use Rattle.std.specs.Prelude.{ℕ, zero, suc, ◌+◌, ◌*◌, ◌/◌, ◌%◌, ◌≤◌, Bool, true, cond, List, ◌≡◌, ltb, eqb, length, get_or, drop}
use Rattle.xm.specs.Cell.{cell_size, marked_from, bit}
use Rattle.xm.specs.Stored.{rows_most, channels_most, read_run}
use Rattle.ahead.specs.Ahead.{Walked, walked}
use Rattle.measure.specs.declared.Sums.{Sums}
use Rattle.measure.specs.declared.Weigh.{Weigh}
use Rattle.measure.specs.declared.Skip.{Skip}
use Rattle.measure.specs.Measure.{no_cells, measured_on}

-- The cells of the largest pattern.
abbrev pub cells_most : ℕ
cells_most = rows_most * channels_most

-- How many of the first so many bytes aren't 0.
unfoldable pub some_of : (count : ℕ) → List ℕ → ℕ
some_of zero s = 0
some_of (suc count) s = bit (get_or s 0 0) + some_of count (drop 1 s)

-- A cell's weight: one more than the bytes by which its shortest form is longer than its stored bytes that aren't 0, and 16 if it does not
-- stand in that form, whatever its length. A plain cell that lacks a field gets a lead byte.
abbrev pub plain_weight : (note others : ℕ) → ℕ
plain_weight note others = cond (eqb (bit note + others) cell_size) 1 18

-- A marked cell that lacks none loses it, if its note can stand plain; bits 5 and 6 aren't in the shortest form.
abbrev pub marked_weight : (lead note fields : ℕ) → ℕ
marked_weight lead note fields = cond (eqb (lead % 32 + fields) 36) (cond (ltb note marked_from) 0 1) 1 + cond (ltb lead 160) 0 16

-- The weight of the cell at the head of s, and of the cells that the bytes from a place on would lead.
unfoldable pub weight_of : List ℕ → ℕ
weight_of s =
    cond (ltb (get_or s 0 0) marked_from)
    (plain_weight (get_or s 0 0) (bit (get_or s 1 0) + bit (get_or s 2 0) + bit (get_or s 3 0) + bit (get_or s 4 0)))
    (marked_weight (get_or s 0 0) (get_or s 1 0) (bit (get_or s 1 0) + bit (get_or s 2 0) + bit (get_or s 3 0) + bit (get_or s 4 0) + bit (get_or s 5 0)))

abbrev pub weights_from : List ℕ → (place : ℕ) → ℕ → ℕ
weights_from s place i = weight_of (drop (place + i) s)

-- What the weights of cells come to, from one cell to the next in a block.
abbrev pub added : (weights : List ℕ) (at : ℕ) → Sums → Sums
added weights at sums = record { extra = sums.extra + get_or weights at 0 % 16; odd = sums.odd + get_or weights at 0 / 16 }

abbrev pub weighed : (lengths weights : List ℕ) (size left at : ℕ) → Sums → Walked Sums
weighed lengths weights size left at before = walked (added weights) lengths size left at before

abbrev pub weigh_of : Walked Sums → Weigh
weigh_of w = record { at = w.at; left = w.left; sums = w.state }

-- A lead byte that is not in the shortest form of a cell none of whose fields is 0: of all five fields it stands in front of a note that can
-- stand plain.
unfoldable pub long_lead : (lead note : ℕ) → Bool
long_lead lead note = cond (eqb lead 159) (ltb note marked_from) (ltb 159 lead)

-- So many cells stand in their shortest form, and measuring goes on from there.
pub record Skipped (s : List ℕ) (count : ℕ) (r : Skip) : Type 0 where
  pub inside : r.used ≤ length s
  pub fewer : r.left ≤ count
  pub some : some_of r.used s ≡ r.used
  pub rest : measured_on no_cells s (read_run count 0 s)
      ≡ measured_on (record { used = r.used; shortest = r.used; same = true }) (drop r.used s) (read_run r.left r.used (drop r.used s))
