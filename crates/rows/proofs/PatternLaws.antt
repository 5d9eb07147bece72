-- What an accepted pattern says of the bytes at its place. Assumes nothing.
use Prim.Native.Nat.{ℕ, ◌+◌, ◌≤◌}
use mathlib.Core.List.{List, [], ◌∷◌}
use mathlib.Core.Path.{◌≡◌, refl, ap}
use native.Mathlib.Omega.{arith}
use lib.ListN.{length, drop, length-drop}
use Rattle.xm.specs.Got.{got}
use Rattle.xm.specs.Stored.{rows_most}
use Rattle.xm.specs.PatternInFile.{least_pattern, pattern_head_size_at, rows_at, data_size_at, PatternFound, read_pattern}
use Rattle.xm.specs.Table.{pattern_row, pattern_numbers}
use Rattle.xm.proofs.Got.{passed, bind_got, got_carry}
use Rattle.xm.proofs.Stored.{stored_rows}
use Rattle.steps.specs.Step.{pattern_head}

-- Its numbers in the table, its bytes, and that they lie in the file
pub record PatternStands (file : List ℕ) (place : ℕ) (i : PatternFound) (n : ℕ) : Type 0 where
  pub starts : i.place ≡ place
  pub numbers : pattern_numbers (pattern_row i)
      ≡ (pattern_head place (drop place file)).place ∷ (pattern_head place (drop place file)).size
      ∷ (pattern_head place (drop place file)).rows ∷ []
  pub used : n ≡ pattern_head_size_at (drop place file) + data_size_at (drop place file)
  pub least : least_pattern ≤ pattern_head_size_at (drop place file)
  pub inside : place + n ≤ length file
  pub few : (pattern_head place (drop place file)).rows ≤ rows_most

pub pattern_stands : (channels : ℕ) (file : List ℕ) (place : ℕ) (i : PatternFound) (n : ℕ) → read_pattern channels place (drop place file) ≡ got i n
    → PatternStands file place i n
unfolding read_pattern
pattern_stands channels file place i n e =
    passed _ _ e λ h e. bind_got _ _ e λ p m ep e.
    let s = drop place file in
    got_carry (λ (r : PatternFound) (t : ℕ). PatternStands file place r t) e
    (record {
      starts = refl;
      numbers = ap (λ (r : ℕ). (place + pattern_head_size_at s) ∷ data_size_at s ∷ r ∷ []) (stored_rows channels (rows_at s) _ _ p m ep);
      used = refl;
      least = h.1.0;
      inside = omega (arith, h.1.0, h.1.1.1.0, length-drop place file);
      few = h.1.1.0.1;
    })
