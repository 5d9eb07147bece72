-- Laws of E: its rule at each place, that it falls strictly, and how large it is. Assumes nothing.
use Prim.Native.Nat.{ℕ, zero, suc, ◌+◌, ◌-◌, ◌*◌, ◌%◌, ◌^◌, ◌≤◌, ◌<◌}
use mathlib.Core.Bool.{Bool, true}
use mathlib.Core.Path.{◌≡◌, refl, ap, ap₂, ◌∙◌, subst}
use native.Mathlib.Nat.{zero-add, one-mul, mul-add, mul_assoc, mod-eq_of_lt}
use native.Mathlib.Omega.{arith}
use lib.Dec.{ltb, eqb}
use lib.ListN.{get_or}
use lib.Pow.{pow_mono}
use borrow.Author.Tests.{ltb-true, eqb-true}
use Rattle.periods.specs.Period.{period_tab, doubled, sum_at, entry_e, table_size}
use Rattle.periods.specs.Promise.{tab_entry, FollowsRule, FallsStrictly}
use Rattle.periods.proofs.Tabulate.{each_from}

-- One after the other: a test that is computed at all of them
lower : ℕ → Bool
lower place = ltb (entry_e (suc place)) (entry_e place)

falls_once : (place : ℕ) → place < 1535 → entry_e (suc place) < entry_e place
unfolding lower entry_e sum_at doubled period_tab
falls_once place h = ltb-true (entry_e (suc place)) (entry_e place) (subst (λ (k : ℕ). lower k ≡ true) (zero-add place) (each_from lower 0 1535 place refl h))

-- And so all those after it
falls_by : (place more : ℕ) → place + suc more < table_size → entry_e (place + suc more) < entry_e place
falls_by place zero h = let e : place + 1 ≡ suc place = omega arith in rw e (falls_once place (omega arith))
falls_by place (suc more) h =
    let e : place + suc (suc more) ≡ suc (place + suc more) = omega arith in
    rw e (omega (arith, falls_by place more (omega arith), falls_once (place + suc more) (omega arith)))

pub falls_strictly : FallsStrictly
falls_strictly place later before inside =
    let e : place + suc (later - suc place) ≡ later = omega arith in
    rw e at (falls_by place (later - suc place) (omega arith))

-- The first is the largest, so that E fits 16 bits
pub entry_most : (place : ℕ) → place < table_size → entry_e place ≤ 29024
unfolding entry_e sum_at doubled period_tab
entry_most zero h = omega arith
entry_most (suc place) h = omega (arith, falls_strictly 0 (suc place) (omega arith) h)

-- Its p and its f, out of the place
entry_at : (p f : ℕ) → f < 16 → entry_e (16 * p + f) ≡ sum_at p f
unfolding entry_e
entry_at p f h = ap₂ sum_at (omega arith) (omega arith)

-- Twice the document's number at each of its 96 places: computed
whole : ℕ → Bool
whole p = eqb (get_or doubled p 0) (2 * tab_entry p)

doubled_whole : (p : ℕ) → p < 96 → get_or doubled p 0 ≡ 2 * tab_entry p
unfolding whole doubled period_tab
doubled_whole p h = eqb-true (get_or doubled p 0) (2 * tab_entry p) (subst (λ (k : ℕ). whole k ≡ true) (zero-add p) (each_from whole 0 96 p refl h))

twice_sum : (a b m n : ℕ) → 2 * a * m + 2 * b * n ≡ 2 * (a * m + b * n)
twice_sum a b m n = rw (mul_assoc 2 a m, mul_assoc 2 b n, mul-add 2 (a * m) (b * n))

pub follows_rule : FollowsRule
unfolding sum_at doubled period_tab
follows_rule =
    record {
      within = λ p f h k. entry_at p f k ∙ ap₂ (λ (a b : ℕ). a * (16 - f) + b * f) (doubled_whole p (omega arith)) (doubled_whole (p + 1) (omega arith))
          ∙ twice_sum (tab_entry p) (tab_entry (p + 1)) (16 - f) f;
      last = λ f k. entry_at 95 f k ∙ ap (λ (n : ℕ). n + 907 * f) (mul_assoc 2 457 (16 - f));
    }

-- The power of two of an octave, as a shift gives it
pub power_held : (k : ℕ) → k ≤ 10 → 1 * 2 ^ k % 4294967296 ≡ 2 ^ k
power_held k h = rw (one-mul (2 ^ k)) (mod-eq_of_lt (omega (arith, pow_mono h)))
