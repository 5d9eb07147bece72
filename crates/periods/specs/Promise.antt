-- What is claimed of E and of the call.
use Rattle.std.specs.Prelude.{ℕ, ◌+◌, ◌-◌, ◌*◌, ◌/◌, ◌%◌, ◌≤◌, ◌<◌, ◌≡◌, ℤ, pos, negsuc, ◌+ℤ◌, ◌*ℤ◌, get_or}
use Rattle.xm.specs.Got.{Refusal, ◌at◌}
use Rattle.xm.specs.Answer.{gives, refuses}
use Rattle.xm.specs.Demands.{LoaderTells}
use Rattle.periods.specs.Period.{period_tab, table_size, entry_e, rounded_down, remaining, Period, tuning, both_numbers, period_loader}

abbrev pub tab_entry : (p : ℕ) → ℕ
tab_entry p = get_or period_tab p 0

-- "Show that each entry follows that rule": of the document's own numbers; and at p = 95, where entry p + 1 is half the first one, twice that half
-- is the first one.
pub record FollowsRule : Type 0 where
  pub within : (p f : ℕ) → p < 95 → f < 16 → entry_e (16 * p + f) ≡ 2 * (tab_entry p * (16 - f) + tab_entry (p + 1) * f)
  pub last : (f : ℕ) → f < 16 → entry_e (16 * 95 + f) ≡ 2 * (tab_entry 95 * (16 - f)) + tab_entry 0 * f

-- "and that they fall strictly"
abbrev pub FallsStrictly : Type 0
FallsStrictly = (place later : ℕ) → place < later → later < table_size → entry_e later < entry_e place

-- "rounded down": the quotient, since what remains is 0 or more and below the divisor.
pub record RoundsDown (number : ℤ) (divisor : ℕ) : Type 0 where
  pub adds_up : pos divisor *ℤ rounded_down number divisor +ℤ pos (remaining number divisor) ≡ number
  pub below : remaining number divisor < divisor

-- "Note 0, finetune 0 gives 29,024 over 2. Finetune -1 rounds to -1, not 0."
pub record WorkedPeriods : Type 0 where
  pub first : tuning 0 (pos 0) ≡ gives (record { dividend = 29024; divisor = 2 })
  pub rounded : rounded_down (negsuc 0) 16 ≡ negsuc 0
  pub below : tuning 0 (negsuc 0) ≡ refuses (16 at 0)

-- The two numbers are small, every refusal is 16 with place 0, and the loader's number tells all of it.
pub record PeriodTells (note : ℕ) (finetune : ℤ) : Type 0 where
  pub small : (period : Period) → tuning note finetune ≡ gives period → (period.dividend ≤ 29024) × (period.divisor ≤ 1024)
  pub refused : (r : Refusal) → tuning note finetune ≡ refuses r → r ≡ 16 at 0
  pub loads : LoaderTells both_numbers (tuning note finetune) (period_loader note finetune)
  pub apart : (period : Period) → tuning note finetune ≡ gives period
      → (period_loader note finetune % 65536 ≡ period.dividend) × (period_loader note finetune / 65536 ≡ period.divisor)
