-- What the two calls answer, as the rules' numbers.
use Rattle.std.specs.Prelude.{ℕ, List, [], ◌∷◌, Result, Ok, Err}
use Rattle.refusal.specs.declared.Refusal.{Refusal}

-- Number, place, and how many values or bytes were written: "A refusal returns its number and a place, with all other result numbers 0."
abbrev pub written_numbers : Result ℕ Refusal → List ℕ
written_numbers (Ok count) = 0 ∷ 0 ∷ count ∷ []
written_numbers (Err refusal) = refusal.number ∷ refusal.place ∷ 0 ∷ []
