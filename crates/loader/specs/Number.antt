-- The loader's number of a call's answer: that of the answer by the definitions which it stands for.
use Rattle.std.specs.Prelude.{ℕ, ◌+◌, ◌*◌, Result, Ok, Err}
use Rattle.xm.specs.Answer.{refuses, loader_number}
use Rattle.refusal.specs.Refusal.{paper_refusal}
use Rattle.refusal.specs.declared.Refusal.{Refusal}
use Rattle.packing.specs.declared.Form.{Form}
use Rattle.periods.specs.declared.Quotient.{Quotient}

-- "length + 65,536 × rows"
abbrev pub form_number : Form → ℕ
form_number form = form.length + 65536 * form.rows

-- E + 65,536 × 2^(octave + 1)
abbrev pub quotient_number : Quotient → ℕ
quotient_number period = period.dividend + 65536 * period.divisor

-- "refusal number × 2^32 + place"
abbrev pub refusal_number : Refusal → ℕ
refusal_number refusal = loader_number (λ (n : ℕ). n) (refuses (paper_refusal refusal))

-- "or else" the number that the value is told as: the end, the rows, the length, how many values or bytes, or one of the two above.
abbrev pub answer_number : {T : Type 0} → (T → ℕ) → Result T Refusal → ℕ
answer_number told (Ok value) = told value
answer_number told (Err refusal) = refusal_number refusal
