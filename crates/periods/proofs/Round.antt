-- Division that rounds down. Assumes nothing.
use Prim.Native.Nat.{ℕ, suc, ◌+◌, ◌-◌, ◌*◌, ◌/◌, ◌%◌, ◌<◌}
use mathlib.Core.Path.{◌≡◌, refl, ap, ◌∙◌}
use native.Mathlib.Omega.{arith}
use lib.IntN.{ℤ, pos, negsuc, neg_ℤ, ◌+ℤ◌}
use borrow.Author.Tests.{lt-ltb}
use Rattle.periods.specs.Period.{rounded_down, remaining}
use Rattle.periods.specs.Promise.{RoundsDown}

-- "Finetune -1 rounds to -1, not 0."
pub minus_one : rounded_down (negsuc 0) 16 ≡ negsuc 0
minus_one = refl

pub remaining_below : (z : ℤ) → remaining z 16 < 16
remaining_below (pos n) = omega arith
remaining_below (negsuc n) = omega arith

pub rounds_down : (z : ℤ) → RoundsDown z 16
rounds_down (pos n) = record { adds_up = ap pos (omega arith); below = remaining_below (pos n) }
rounds_down (negsuc n) =
    let more : 16 * suc (n / 16) ≡ suc (15 + 16 * (n / 16)) = omega arith in
    record {
      adds_up =
          ap (λ (k : ℕ). neg_ℤ (pos k) +ℤ pos (16 - suc (n % 16))) more
          ∙ rw (lt-ltb (16 - suc (n % 16)) (suc (15 + 16 * (n / 16))) (omega arith)) (ap negsuc (omega arith));
      below = remaining_below (negsuc n);
    }
