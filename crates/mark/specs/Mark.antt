-- What the walk leaves for a second pass over the patterns: a mark for each.
use Rattle.std.specs.Prelude.{ℕ, suc, ◌+◌, ◌-◌, ◌*◌, ◌/◌, ◌%◌, ◌^◌, Bool, cond, Result, Ok, Err, List, [], ◌∷◌, ◌≡◌, eqb, length, get_or}
use Rattle.xm.specs.Number.{part}
use Rattle.xm.specs.Stored.{write_stored}
use Rattle.xm.specs.PatternInFile.{PatternFound}
use Rattle.measure.specs.Measure.{same_bytes}
use Rattle.mark.specs.declared.Mark.{Mark}
use Rattle.mark.specs.declared.Mark.TheVariants.{Again, Copied, Nothing}
use Rattle.mark.specs.declared.UnknownMark.{UnknownMark}

-- The numbers of the three marks: the cells are written again; they stand in their shortest form already and are copied; all are empty, and
-- nothing is written.
abbrev pub number_of : Mark → ℕ
number_of Again = 0
number_of Copied = 1
number_of Nothing = 2

-- A number's mark; the others have none.
abbrev pub mark_from : ℕ → Result Mark UnknownMark
mark_from number =
    cond (eqb number 0) (Ok Again) (
    cond (eqb number 1) (Ok Copied) (
    cond (eqb number 2) (Ok Nothing) (Err (record { 0 = number }))))

-- By the length of the shortest stored form, and by whether the bytes are that form.
abbrev pub mark_by : (shortest : ℕ) (same : Bool) → Mark
mark_by shortest same = cond (eqb shortest 0) Nothing (cond same Copied Again)

abbrev pub mark_in : (file : List ℕ) → PatternFound → Mark
mark_in file i = mark_by (length (write_stored i.content)) (same_bytes (part i.data_place i.data_size file) (write_stored i.content))

pub record Marked (file : List ℕ) (i : PatternFound) (mark : Mark) : Type 0 where
  pub is : mark ≡ mark_in file i

-- An eight is a number of eight bytes. Two bits of it, by the bits that stand below them; and an eight whose two bits there are others.
abbrev pub two_at : (eight bits : ℕ) → ℕ
two_at eight bits = eight / 2 ^ bits % 4

abbrev pub with_two : (eight bits two : ℕ) → ℕ
with_two eight bits two = eight - two_at eight bits * 2 ^ bits + two * 2 ^ bits

-- A mark takes two bits: 32 of them an eight, the first in its low bits, and 256, the most patterns of a file, 8 eights.
abbrev pub bits_of : (number : ℕ) → ℕ
bits_of number = number % 32 * 2

abbrev pub pattern_mark : (marks : List ℕ) (number : ℕ) → ℕ
pattern_mark marks number = two_at (get_or marks (number / 32) 0) (bits_of number)

-- The mark put is the mark found there, and the others stay.
pub record Put (marks : List ℕ) (number mark : ℕ) (after : List ℕ) : Type 0 where
  pub size : length after ≡ length marks
  pub put : pattern_mark after number ≡ mark
  pub kept : (other : ℕ) → (other ≡ number → ⊥) → pattern_mark after other ≡ pattern_mark marks other

-- The patterns from a number on are marked, in their order.
abbrev pub Marks : (file : List ℕ) (first : ℕ) → List PatternFound → (marks : List ℕ) → Type 0
Marks file first [] marks = Unit {0}
Marks file first (i ∷ is) marks = (pattern_mark marks first ≡ number_of (mark_in file i)) × Marks file (suc first) is marks
