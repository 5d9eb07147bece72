-- `periods::period_at` meets its contract. Assumes nothing.
use Rattle.std.proofs.Common.{ℕ, ◌+◌, ◌/◌, ap₂, ◌∙◌, arith}
use Rattle.periods.specs.Period.{period_at}
use Rattle.periods.proofs.Entries.{power_held}
use Rattle.periods.proofs.period_at.Goals as goal

pub returns : goal.returns
unfolding period_at
returns c =
    ap₂ (λ (dividend divisor : ℕ). record { dividend = dividend; divisor = divisor }) (c.from.ensures ∙ c.entry.ensures)
    (power_held (c.args.q / 96 + 1) (omega arith))
