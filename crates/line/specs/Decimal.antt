-- A number in decimal digits, as ASCII text, with no zero in front.
use Rattle.std.specs.Prelude.{ℕ, zero, suc, ◌+◌, ◌-◌, ◌*◌, ◌/◌, ◌%◌, cond, List, [], ◌∷◌, ◌++◌, ◌≡◌, ltb, get_or}

abbrev pub last_digit : ℕ → ℕ
last_digit n = 48 + n % 10

-- The last digit stands behind those of the tenth, if there are others. `most` bounds how many others there are.
abbrev pub decimal_within : (most n : ℕ) → List ℕ
decimal_within zero n = last_digit n ∷ []
decimal_within (suc most) n = cond (ltb n 10) (last_digit n ∷ []) (decimal_within most (n / 10) ++ (last_digit n ∷ []))

unfoldable pub decimal : ℕ → List ℕ
decimal n = decimal_within n n

-- The number that digits stand for, read from the front behind those that made `so`.
abbrev pub value_from : (so : ℕ) → List ℕ → ℕ
value_from so [] = so
value_from so (digit ∷ digits) = value_from (so * 10 + (digit - 48)) digits

-- The digits stand for the number, and a zero in front is the number 0.
pub record DecimalTells (n : ℕ) : Type 0 where
  pub value : value_from 0 (decimal n) ≡ n
  pub front : get_or (decimal n) 0 0 ≡ 48 → n ≡ 0
