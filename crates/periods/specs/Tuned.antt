-- What the call answers: the two numbers of the definitions as the code's, and the rules' numbers for each answer.
use Rattle.std.specs.Prelude.{ℕ, List, [], ◌∷◌, Result, Ok, Err}
use Rattle.refusal.specs.declared.Refusal.{Refusal}
use Rattle.periods.specs.Period.{Period}
use Rattle.periods.specs.declared.Quotient.{Quotient}

abbrev pub quotient_of : Period → Quotient
quotient_of period = record { dividend = period.dividend; divisor = period.divisor }

-- Number, place, and the two whole numbers: "A refusal returns its number and a place, with all other result numbers 0."
abbrev pub tuned_numbers : Result Quotient Refusal → List ℕ
tuned_numbers (Ok quotient) = 0 ∷ 0 ∷ quotient.dividend ∷ quotient.divisor ∷ []
tuned_numbers (Err refusal) = refusal.number ∷ refusal.place ∷ 0 ∷ 0 ∷ []
