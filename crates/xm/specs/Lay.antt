-- For contracts inside the library: what a writer leaves, a piece laid over a list from a place on.
use Rattle.std.specs.Prelude.{ℕ, ◌+◌, List, ◌++◌, length, take, drop}

unfoldable pub lay : {A : Type 0} → (out : List A) (to : ℕ) (piece : List A) → List A
lay out to piece = take to out ++ (piece ++ drop (to + length piece) out)
