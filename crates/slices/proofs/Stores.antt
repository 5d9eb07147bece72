-- Numbers stored one after the other are laid as one piece, and a writer goes on behind it. Assumes nothing.
use Prim.Native.Nat.{ℕ, suc, ◌+◌, ◌≤◌}
use mathlib.Core.List.{List, [], ◌∷◌, ◌++◌, append_assoc}
use mathlib.Core.Path.{◌≡◌, sym, ap, ◌∙◌}
use native.Mathlib.Omega.{arith}
use lib.ListN.{length, take, drop, set}
use lib.Seq.{drop-drop, sets-eq}
use Rattle.xm.specs.Lay.{lay}
use Rattle.xm.proofs.Lay.{Laid, laid_more}

module _ {A : Type 0} (out : List A) (to : ℕ) where
  one : to + 1 ≡ suc to
  one = omega arith

  two : to + 2 ≡ suc (suc to)
  two = omega arith

  three : to + 3 ≡ suc (suc (suc to))
  three = omega arith

  four : to + 4 ≡ suc (suc (suc (suc to)))
  four = omega arith

  five : to + 5 ≡ suc (suc (suc (suc (suc to))))
  five = omega arith

  six : to + 6 ≡ suc (suc (suc (suc (suc (suc to)))))
  six = omega arith

  seven : to + 7 ≡ suc (suc (suc (suc (suc (suc (suc to))))))
  seven = omega arith

  pub stored_two : (a b : A) → to + 2 ≤ length out → set (set out to a) (to + 1) b ≡ lay out to (a ∷ b ∷ [])
  unfolding lay
  stored_two a b h = rw one (sets-eq (a ∷ b ∷ []) out to h ∙ append_assoc (take to out) (a ∷ b ∷ []) (drop (to + 2) out))

  pub stored_three : (a b c : A) → to + 3 ≤ length out → set (set (set out to a) (to + 1) b) (to + 2) c ≡ lay out to (a ∷ b ∷ c ∷ [])
  unfolding lay
  stored_three a b c h = rw (one, two) (sets-eq (a ∷ b ∷ c ∷ []) out to h ∙ append_assoc (take to out) (a ∷ b ∷ c ∷ []) (drop (to + 3) out))

  pub stored_seven : (a b c d e f g : A) → to + 7 ≤ length out
      → set (set (set (set (set (set (set out to a) (to + 1) b) (to + 2) c) (to + 3) d) (to + 4) e) (to + 5) f) (to + 6) g
      ≡ lay out to (a ∷ b ∷ c ∷ d ∷ e ∷ f ∷ g ∷ [])
  unfolding lay
  stored_seven a b c d e f g h =
      let all = a ∷ b ∷ c ∷ d ∷ e ∷ f ∷ g ∷ [] in
      rw (one, two, three, four, five, six) (sets-eq all out to h ∙ append_assoc (take to out) all (drop (to + 7) out))

-- A piece is laid, where the writer stands
pub laid_lay : {A : Type 0} {lent goal out : List A} {to : ℕ} {rest : List A} → Laid lent goal out to rest → (w rest' : List A) → rest ≡ w ++ rest'
    → {new : List A} {next : ℕ} → new ≡ lay out to w → next ≡ to + length w → Laid lent goal new next rest'
unfolding lay
laid_lay {out = out} {to} l w rest' e {new} {next} n q =
    laid_more l w rest' new next e q (n ∙ ap (λ (left : List _). take to out ++ (w ++ left)) (sym (drop-drop (length w) to out)))
