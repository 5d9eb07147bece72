-- What a step's answer says of its reading. Assumes nothing.
use Prim.Native.Nat.{ℕ, ◌+◌}
use mathlib.Core.Path.{◌≡◌, refl}
use Rattle.xm.specs.Got.{Got, got, refused}
use Rattle.xm.proofs.Got.{no_true}
use Rattle.refusal.specs.Refusal.{paper_refusal, step_by, step_refusal, place_step}
use Rattle.refusal.specs.declared.Refusal.{Refusal}
use Rattle.refusal.specs.declared.Step.{Step}
use Rattle.refusal.specs.declared.Step.TheVariants.{Given, Refused}

-- A value comes of a reading that was accepted
pub given_got : {A T R : Type 0} (f : A → ℕ → T) (g : Got A) {x : T} → Given x ≡ step_by f g → ((a : A) (n : ℕ) → g ≡ got a n → x ≡ f a n → R) → R
given_got f (got a n) e k = k a n refl (cc)
given_got f (refused r) e k = absurd (no_true (cc))

-- so does a next place
pub next_got : {A R : Type 0} (place : ℕ) (g : Got A) {next : ℕ} → Given next ≡ place_step place g → ((a : A) (n : ℕ) → g ≡ got a n → next ≡ place + n → R) → R
next_got place g e k = given_got (λ a used. place + used) g e k

-- and a refusal, passed on, of one that was refused so
pub step_refused : {A T : Type 0} (f : A → ℕ → T) (g : Got A) {step : Step T} {q r : Refusal} → step ≡ step_by f g → step ≡ Refused q → r ≡ step_refusal step
    → g ≡ refused (paper_refusal r)
step_refused f (got a n) e told passed = cc
step_refused f (refused q) e told passed = cc

pub place_refused : {A : Type 0} (place : ℕ) (g : Got A) {step : Step ℕ} {f r : Refusal} → step ≡ place_step place g → step ≡ Refused f → r ≡ step_refusal step
    → g ≡ refused (paper_refusal r)
place_refused place g e told passed = step_refused (λ a used. place + used) g e told passed
