-- A number read as signed, as the code makes it: its lower and its upper half, over the width that it is read at. Assumes nothing.
use Prim.Native.Nat.{ℕ, suc, ◌+◌, ◌-◌, ◌/◌, ◌^◌, ◌≤◌, ◌<◌}
use mathlib.Core.Path.{◌≡◌, sym, ap, ◌∙◌, subst}
use native.Mathlib.Omega.{arith}
use lib.IntN.{ℤ, negsuc, ◌+ℤ◌}
use borrow.Author.Tests.{lt-ltb, le-ltb}
use mir.Syntax.{Width}
use mir.Val.{hbits, SFits, to_z, of_z}
use mir.Facts.{to_z_pos, to_z-of_z}
use Rattle.xm.specs.Number.{signed}

-- A number of some bits, read as signed in a type that holds it
module _ (w : Width) (width half x : ℕ) (whole : 2 ^ width ≡ half + half) (room : half ≤ 2 ^ hbits w) where
  pub lower_half : x < half → to_z w x ≡ signed width x
  unfolding signed
  lower_half h = to_z_pos w {n = x} (omega arith) ∙ sym (rw (lt-ltb x (2 ^ width / 2) (omega arith)))

  module _ (low : half ≤ x) (high : x < 2 ^ width) where
    upper_sum : to_z w (x - half) +ℤ negsuc (half - 1) ≡ negsuc (2 ^ width - suc x)
    upper_sum =
        ap (λ (z : ℤ). z +ℤ negsuc (half - 1)) (to_z_pos w {n = x - half} (omega arith))
        ∙ rw (lt-ltb (x - half) (suc (half - 1)) (omega arith)) (ap negsuc (omega arith))

    pub upper_fits : SFits w (to_z w (x - half) +ℤ negsuc (half - 1))
    upper_fits = subst (SFits w) (sym upper_sum) (record { sfits = omega arith })

    pub upper_half : to_z w (of_z w (to_z w (x - half) +ℤ negsuc (half - 1))) ≡ signed width x
    unfolding signed
    upper_half = to_z-of_z upper_fits ∙ upper_sum ∙ sym (rw (le-ltb x (2 ^ width / 2) (omega arith)))
