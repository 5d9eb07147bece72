-- For the loop over dense cells: how far those go that begin in a block of bytes, and how many are left.
use Rattle.std.specs.Prelude.{ℕ, List}
use Rattle.ahead.specs.Ahead.{Walked, walked}
use Rattle.scan.specs.declared.Walk.{Walk}

abbrev pub walk_of : Walked (Unit {0}) → Walk
walk_of w = record { at = w.at; left = w.left }

-- They are only passed.
abbrev pub block_passed : (lengths : List ℕ) (size left at : ℕ) → Walked (Unit {0})
block_passed lengths size left at = walked (λ at u. u) lengths size left at tt
