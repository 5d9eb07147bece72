-- A pattern that is written, by the numbers in its header.
use Rattle.std.specs.Prelude.{ℕ, List, [], ◌∷◌}
use Rattle.xm.specs.Number.{byte, word, long}
use Rattle.xm.specs.Format.{flat}
use Rattle.xm.specs.PatternInFile.{least_pattern}

abbrev pub written_head : (rows size : ℕ) → List ℕ
written_head rows size = flat (long least_pattern ∷ byte 0 ∷ word rows ∷ word size ∷ [])
