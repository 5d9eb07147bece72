-- The code's refusal as the definitions' one, and back; and what calls and steps answer, of a reading that gives any A, of which the code
-- takes a T.
use Rattle.std.specs.Prelude.{ℕ, ◌+◌, Result, Ok, Err}
use Rattle.xm.specs.Got.{Got, got, refused}
use Rattle.xm.specs.Got as paper
use Rattle.xm.specs.Answer.{Answer, gives, refuses}
use Rattle.refusal.specs.Test.{number_of}
use Rattle.refusal.specs.declared.Cause.{Cause}
use Rattle.refusal.specs.declared.Refusal.{Refusal}
use Rattle.refusal.specs.declared.Step.{Step}
use Rattle.refusal.specs.declared.Step.TheVariants.{Given, Refused}

abbrev pub code_refusal : paper.Refusal → Refusal
code_refusal r = record { number = r.number; place = r.place }

abbrev pub paper_refusal : Refusal → paper.Refusal
paper_refusal f = record { number = f.number; place = f.place }

abbrev pub refusal_at : Cause → (place : ℕ) → Refusal
refusal_at cause place = record { number = number_of cause; place = place }

-- Accepted, number and place are 0.
abbrev pub no_refusal : Refusal
no_refusal = record { number = 0; place = 0 }

-- A call's answer.
abbrev pub outcome : {A T : Type 0} → (A → T) → Answer A → Result T Refusal
outcome f (gives a) = Ok (f a)
outcome f (refuses r) = Err (code_refusal r)

-- A step's answer: of the value and the count of bytes used.
abbrev pub step_by : {A T : Type 0} → (A → ℕ → T) → Got A → Step T
step_by f (got a used) = Given (f a used)
step_by f (refused r) = Refused (code_refusal r)

-- No more than the next place, of a reading from a place on.
abbrev pub place_step : {A : Type 0} → (place : ℕ) → Got A → Step ℕ
place_step place = step_by (λ a used. place + used)

abbrev pub step_refusal : {T : Type 0} → Step T → Refusal
step_refusal (Given x) = no_refusal
step_refusal (Refused refusal) = refusal
