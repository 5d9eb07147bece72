-- What a caller may build on: no second answer meets the contract, the answer's numbers are the paper's, and the loader's number tells them.
-- Assumes nothing.
use Prim.Native.Nat.{ℕ, ◌+◌, ◌*◌, ◌/◌, ◌%◌, ◌≤◌, ◌<◌}
use mathlib.Core.List.{[], ◌∷◌}
use mathlib.Core.Path.{◌≡◌, refl, sym, ap, ◌∙◌, subst}
use native.Mathlib.Omega.{arith}
use lib.IntN.{ℤ, nat_abs}
use lib.Pow.{pow_mono}
use Rattle.std.specs.Prelude.{Result}
use Rattle.refusal.specs.Refusal.{outcome}
use Rattle.refusal.specs.declared.Refusal as code
use Rattle.xm.specs.Got.{Refusal, ◌at◌, got, ◌>>◌, checked, ensure}
use Rattle.xm.specs.Answer.{Answer, gives, refuses, numbers}
use Rattle.xm.specs.Demands.{LoaderTells}
use Rattle.xm.proofs.Got.{refused_tests, got_never}
use Rattle.xm.proofs.Answer.{gives_passed, gives_same, refuses-refused, loader_tells}
use Rattle.periods.specs.Period.{period_tab, doubled, sum_at, entry_e, remaining, position, Period, period_at, tuning_tests, tuning, period_numbers}
use Rattle.periods.specs.Period.{both_numbers, period_loader}
use Rattle.periods.specs.Tuned.{quotient_of, tuned_numbers}
use Rattle.periods.specs.Promise.{WorkedPeriods, PeriodTells}
use Rattle.periods.specs.declared.Quotient.{Quotient}
use Rattle.periods.proofs.Entries.{entry_most}
use Rattle.periods.proofs.Round.{minus_one, remaining_below}
use Rattle.periods.proofs.Tuning.{position_most}

module _ (note : ℕ) (finetune : ℤ) where
  pub period_once : {answer other : Result Quotient code.Refusal} → answer ≡ outcome quotient_of (tuning note finetune) → other ≡ outcome quotient_of (tuning note finetune) → answer ≡ other
  period_once met e = met ∙ sym e

  pub period_numbers_lem : {answer : Result Quotient code.Refusal} → answer ≡ outcome quotient_of (tuning note finetune) → tuned_numbers answer ≡ period_numbers note finetune
  period_numbers_lem met = ap tuned_numbers met ∙ cases (tuning note finetune)
    where
      cases : (answer : Answer Period) → tuned_numbers (outcome quotient_of answer) ≡ numbers (Period.dividend ∷ Period.divisor ∷ []) answer
      cases (gives period) = refl
      cases (refuses refusal) = refl

-- The paper's own examples
pub worked_periods : WorkedPeriods
unfolding tuning checked ensure ◌>>◌ position period_at entry_e sum_at doubled period_tab
worked_periods = record { first = refl; rounded = minus_one; below = refl }

-- How large the two numbers are
abbrev Small : Period → Type 0
Small period = (period.dividend ≤ 29024) × (period.divisor ≤ 1024)

small_at : (q f : ℕ) → q < 960 → f < 16 → Small (period_at q f)
unfolding period_at
small_at q f h k = (entry_most (16 * (q % 96) + f) (omega arith), pow_mono {i = q / 96 + 1} {j = 10} (omega arith))

module _ (note : ℕ) (finetune : ℤ) where
  small : (period : Period) → tuning note finetune ≡ gives period → Small period
  unfolding tuning
  small period e =
      gives_passed (λ (period : Period) (used : ℕ). period) (tuning_tests note finetune)
      (got (period_at (nat_abs (position note finetune)) (remaining finetune 16)) 0) e λ h d.
      subst Small (gives_same d)
      (small_at (nat_abs (position note finetune)) (remaining finetune 16) (position_most note finetune h.0 h.1.0 h.1.1.0)
      (remaining_below finetune))

  refused : (r : Refusal) → tuning note finetune ≡ refuses r → r ≡ 16 at 0
  unfolding tuning
  refused r e =
      refused_tests (λ (q : Refusal). q ≡ 16 at 0) (tuning_tests note finetune) _ (refuses-refused _ _ e) (refl, (refl, (refl, tt)))
      (λ h d. absurd (got_never d))

  loads : LoaderTells both_numbers (tuning note finetune) (period_loader note finetune)
  loads =
      loader_tells both_numbers (tuning note finetune) (period_loader note finetune) refl
      (λ period e. let s = small period e in omega (arith, s.0, s.1))
      (λ r e. rw (refused r e) (omega arith, omega arith))

  pub period_tells : PeriodTells note finetune
  period_tells =
      record {
        small = small;
        refused = refused;
        loads = loads;
        apart = λ period e. let s = small period e in let d = s.0 in rw (loads.accepted period e).0 (omega arith, omega arith);
      }
