-- For contracts inside the library: a writer that may write more than it is to leave, where all of that is written again later.
use Rattle.std.specs.Prelude.{ℕ, ◌≡◌, List, length, take, drop}

-- How many bytes at the front may change: a lead byte and five fields.
abbrev pub over_most : ℕ
over_most = 6

-- The piece stands at the front, and beyond those bytes all is as it was.
pub record Over (piece lent out : List ℕ) : Type 0 where
  pub front : take (length piece) out ≡ piece
  pub beyond : drop over_most out ≡ drop over_most lent
