-- Laws of a walk from cell to cell through a block. Assumes nothing.
use Prim.Native.Nat.{ℕ, zero, suc, ◌+◌, ◌-◌, ◌≤◌, ◌<◌}
use mathlib.Core.Bool.{Bool, true, false, cond}
use mathlib.Core.List.{List}
use mathlib.Core.Path.{◌≡◌, refl}
use native.Mathlib.Omega.{arith}
use borrow.Author.Tests.{lt-ltb, le-ltb, ltb-true}
use lib.Dec.{ltb}
use lib.ListN.{get_or}
use Rattle.ahead.specs.Ahead.{Walked, walked}

module _ {S : Type 0} (pass : ℕ → S → S) (lengths : List ℕ) (size : ℕ) where
  -- One cell more, and both ends
  pub walked_more : (left at : ℕ) (state : S) → at < size → 0 < left
      → walked pass lengths size (left - 1) (at + get_or lengths at 0) (pass at state) ≡ walked pass lengths size left at state
  unfolding walked
  walked_more zero at state h some = absurd (omega arith)
  walked_more (suc left) at state h some = let one : suc left - 1 ≡ left = omega arith in rw (one, lt-ltb at size h)

  pub walked_past : (left at : ℕ) (state : S) → size ≤ at → walked pass lengths size left at state ≡ record { at = at; left = left; state = state }
  unfolding walked
  walked_past zero at state h = refl
  walked_past (suc left) at state h = rw (le-ltb at size h)

  pub walked_none : (left at : ℕ) (state : S) → left ≡ 0 → walked pass lengths size left at state ≡ record { at = at; left = left; state = state }
  unfolding walked
  walked_none left at state h = rw h

  -- It goes on, and a block with some bytes has one cell or more
  walked_on : (left at : ℕ) (state : S) → at ≤ (walked pass lengths size left at state).at
  unfolding walked
  walked_on zero at state = omega arith
  walked_on (suc left) at state = go (walked_on left (at + get_or lengths at 0) (pass at state)) (ltb at size)
    where
      go : at + get_or lengths at 0 ≤ (walked pass lengths size left (at + get_or lengths at 0) (pass at state)).at → (t : Bool)
          → at ≤ (cond t (walked pass lengths size left (at + get_or lengths at 0) (pass at state)) (record { at = at; left = suc left; state = state })).at
      go h true = omega arith
      go h false = omega arith

  walked_less : (left at : ℕ) (state : S) → (walked pass lengths size left at state).left ≤ left
  unfolding walked
  walked_less zero at state = omega arith
  walked_less (suc left) at state = go (walked_less left (at + get_or lengths at 0) (pass at state)) (ltb at size)
    where
      go : (walked pass lengths size left (at + get_or lengths at 0) (pass at state)).left ≤ left → (t : Bool)
          → (cond t (walked pass lengths size left (at + get_or lengths at 0) (pass at state)) (record { at = at; left = suc left; state = state })).left
          ≤ suc left
      go h true = omega arith
      go h false = omega arith

  pub walked_some : (left : ℕ) (state : S) → 0 < size → 0 < left → (walked pass lengths size left 0 state).left < left
  unfolding walked
  walked_some zero state h k = absurd (omega arith)
  walked_some (suc left) state h k = rw (lt-ltb 0 size h) (omega (arith, walked_less left (0 + get_or lengths 0 0) (pass 0 state)))

  -- What holds in front of the first cell, and then behind each that ends in time, holds behind all
  module _ (P : (at left : ℕ) → S → Type 0) (end : ℕ)
      (next : (at left : ℕ) (state : S) → at < size → at + get_or lengths at 0 ≤ end → P at (suc left) state → P (at + get_or lengths at 0) left (pass at state))
    where
      pub walked_over : (left at : ℕ) (state : S) → P at left state
          → (let w = walked pass lengths size left at state in w.at ≤ end → P w.at w.left w.state)
      unfolding walked
      walked_over zero at state p h = p
      walked_over (suc left) at state p h = go (walked_over left (at + get_or lengths at 0) (pass at state)) (ltb at size) refl h
        where
          more : Walked S
          more = walked pass lengths size left (at + get_or lengths at 0) (pass at state)

          walk : Bool → Walked S
          walk t = cond t more (record { at = at; left = suc left; state = state })

          go : (P (at + get_or lengths at 0) left (pass at state) → more.at ≤ end → P more.at more.left more.state)
              → (t : Bool) → ltb at size ≡ t → (walk t).at ≤ end → P (walk t).at (walk t).left (walk t).state
          go on true e k = on (next at left state (ltb-true at size e) (omega (arith, walked_on left (at + get_or lengths at 0) (pass at state))) p) k
          go on false e k = p
