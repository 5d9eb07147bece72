-- Laws of q and of what the call answers, an exit of the code each. Assumes nothing.
use Prim.Native.Nat.{ℕ, suc, ◌*◌, ◌/◌, ◌≤◌, ◌<◌}
use mathlib.Core.Bool.{Bool, true, false, true≢false}
use mathlib.Core.Path.{◌≡◌, refl, sym, ap, ap₂, ◌∙◌}
use native.Mathlib.Nat.{not-suc-le-zero}
use native.Mathlib.Omega.{arith}
use lib.Dec.{ltb}
use lib.IntN.{ℤ, pos, negsuc, nat_abs, ◌+ℤ◌}
use lib.Signed.{lt_z, non_neg}
use borrow.Author.Tests.{ltb-true}
use mir.Syntax.{w64}
use mir.Val.{SFits, to_z, of_z}
use mir.Facts.{to_z-of_z}
use Rattle.std.specs.Prelude.{Ok, Err}
use Rattle.xm.specs.Got.{◌at◌}
use Rattle.xm.specs.Answer.{gives, refuses, answered}
use Rattle.xm.specs.Delta.{fits}
use Rattle.xm.proofs.Got.{test_holds, test_fails, pass}
use Rattle.refusal.specs.Refusal.{code_refusal, outcome}
use Rattle.refusal.specs.declared.Refusal.{Refusal}
use Rattle.periods.specs.Tuned.{quotient_of}
use Rattle.periods.specs.declared.Quotient.{Quotient}
use Rattle.periods.specs.Period.{note_most, remaining, position, Period, period_at, tuning_tests, tuning}

-- q fits, and is below 960 where it is not below 0
pub position-fits : (note : ℕ) (z : ℤ) → note ≤ note_most → SFits w64 z → SFits w64 (position note z)
unfolding position
position-fits note (pos n) h fit = record { sfits = omega arith }
position-fits note (negsuc n) h fit = go (ltb (8 * note) (suc (n / 16))) refl
  where
    go : (b : Bool) → ltb (8 * note) (suc (n / 16)) ≡ b → SFits w64 (pos (8 * note) +ℤ negsuc (n / 16))
    go true e = rw e (record { sfits = omega arith })
    go false e = rw e (record { sfits = omega arith })

-- The sign of q, and its size
pub below : (q : ℤ) → lt_z q (pos 0) ≡ true → non_neg q ≡ false
below (pos n) e = absurd (not-suc-le-zero (ltb-true n 0 e))
below (negsuc n) e = refl

pub from_zero : (q : ℤ) → lt_z q (pos 0) ≡ false → non_neg q ≡ true
from_zero (pos n) e = refl
from_zero (negsuc n) e = absurd (true≢false e)

pub position_most : (note : ℕ) (z : ℤ) → note ≤ note_most → fits 8 z ≡ true → non_neg (position note z) ≡ true → nat_abs (position note z) < 960
unfolding position
position_most note (pos n) h inside e = omega (arith, ltb-true n 128 inside)
position_most note (negsuc n) h inside e = go (ltb (8 * note) (suc (n / 16))) refl
  where
    go : (b : Bool) → ltb (8 * note) (suc (n / 16)) ≡ b → nat_abs (pos (8 * note) +ℤ negsuc (n / 16)) < 960
    go true t = rw t (omega (arith, ltb-true n 128 inside))
    go false t = rw t (omega arith)

-- The answer at each exit
module _ (note : ℕ) (z : ℤ) where
  abbrev answers : Period
  answers = period_at (nat_abs (position note z)) (remaining z 16)

  pub note_refused : note_most < note → tuning note z ≡ refuses (16 at 0)
  unfolding tuning
  note_refused h = ap (answered (λ (period : Period) (used : ℕ). period)) (test_fails _ _ _ (λ k. omega arith))

  module _ (h : note ≤ note_most) where
    pub finetune-refused : fits 8 z ≡ false → tuning note z ≡ refuses (16 at 0)
    unfolding tuning
    finetune-refused e =
        ap (answered (λ (period : Period) (used : ℕ). period)) (test_holds _ _ _ h ∙ test_fails _ _ _ (λ k. true≢false (sym k ∙ e)))

    module _ (inside : fits 8 z ≡ true) where
      pub position-refused : non_neg (position note z) ≡ false → tuning note z ≡ refuses (16 at 0)
      unfolding tuning
      position-refused e =
          ap (answered (λ (period : Period) (used : ℕ). period))
          (test_holds _ _ _ h ∙ test_holds _ _ _ inside ∙ test_fails _ _ _ (λ k. true≢false (sym k ∙ e)))

      pub tuning_given : non_neg (position note z) ≡ true → tuning note z ≡ gives answers
      unfolding tuning
      tuning_given e = ap (answered (λ (period : Period) (used : ℕ). period)) (pass (tuning_tests note z) (h, (inside, (e, tt))) refl)

-- An exit that refuses
pub refused : (note : ℕ) (z : ℤ) {refusal : Refusal} → refusal ≡ code_refusal (16 at 0) → tuning note z ≡ refuses (16 at 0)
    → Err refusal ≡ outcome quotient_of (tuning note z)
refused note z f e = rw (e, f)

-- A number of the code's, as its signed operations read it
abbrev held : ℤ → ℤ
held z = to_z w64 (of_z w64 z)

pub exit_finetune : (note : ℕ) (z : ℤ) → SFits w64 z → note ≤ note_most → fits 8 (held z) ≡ false → tuning note z ≡ refuses (16 at 0)
exit_finetune note z fit h e = finetune-refused note z h (rw (to_z-of_z fit) at e)

-- and those behind the two tests, by the sign of q as the code has it
module _ (note : ℕ) (z : ℤ) (fit : SFits w64 z) (h : note ≤ note_most) (told : fits 8 (held z) ≡ true) {q : ℤ} (is_q : q ≡ position note (held z)) where
  inside : fits 8 z ≡ true
  inside = rw (to_z-of_z fit) at told

  q_held : held q ≡ position note z
  q_held =
      let e : q ≡ position note z = is_q ∙ ap (position note) (to_z-of_z fit) in
      ap held e ∙ to_z-of_z (position-fits note z h fit)

  pub exit_below : {refusal : Refusal} → refusal ≡ code_refusal (16 at 0) → lt_z (held q) (pos 0) ≡ true → Err refusal ≡ outcome quotient_of (tuning note z)
  exit_below f t = refused note z f (position-refused note z h inside (below (position note z) (rw q_held at t)))

  module _ (not_below : lt_z (held q) (pos 0) ≡ false) where
    whole : non_neg (position note z) ≡ true
    whole = from_zero (position note z) (rw q_held at not_below)

    pub q_most : nat_abs (held q) < 960
    q_most = rw q_held (position_most note z h inside whole)

    pub exit_given : {f : ℕ} {quotient : Quotient} → f ≡ remaining (held z) 16 → quotient ≡ quotient_of (period_at (nat_abs (held q)) f)
        → Ok quotient ≡ outcome quotient_of (tuning note z)
    exit_given {f} is_f e =
        rw (tuning_given note z h inside whole)
        (ap Ok (e ∙ ap₂ (λ (q f : ℕ). quotient_of (period_at q f)) (ap nat_abs q_held) (is_f ∙ ap (λ (y : ℤ). remaining y 16) (to_z-of_z fit))))
