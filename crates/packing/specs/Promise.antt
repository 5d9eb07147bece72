-- What a caller may build on: of a stored form that was written, by the length and the rows that were reported.
use Rattle.std.specs.Prelude.{ℕ, ◌≤◌, List, ◌≡◌, length, take, drop}
use Rattle.xm.specs.Stored.{Pattern}
use Rattle.xm.specs.Demands.{StoredFormOf, Accepts, result_in}

-- It is a stored form of the pattern, none is shorter, and what lies beyond stays.
pub record PackWritten (channels : ℕ) (p : Pattern) (lent reported held : List ℕ) : Type 0 where
  pub accepted : Accepts reported
  pub reads : StoredFormOf channels p (result_in reported 1) (take (result_in reported 0) held)
  pub shortest : (row : ℕ) (bytes : List ℕ) → StoredFormOf channels p row bytes → result_in reported 0 ≤ length bytes
  pub beyond : drop (result_in reported 0) held ≡ drop (result_in reported 0) lent
