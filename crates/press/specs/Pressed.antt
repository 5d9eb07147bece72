-- The rules' numbers of what pressing answers.
use Rattle.std.specs.Prelude.{ℕ, List, [], ◌∷◌, Result, Ok, Err}
use Rattle.refusal.specs.declared.Refusal.{Refusal}

-- Number, place, and the length: "A refusal returns its number and a place, with all other result numbers 0."
abbrev pub pressed_numbers : Result ℕ Refusal → List ℕ
pressed_numbers (Ok count) = 0 ∷ 0 ∷ count ∷ []
pressed_numbers (Err refusal) = refusal.number ∷ refusal.place ∷ 0 ∷ []
