-- Laws of five bits, one by one: they are all set exactly if five of them count. Assumes nothing.
use Prim.Native.Nat.{ℕ, zero, suc, ◌+◌, ◌/◌, ◌%◌, ◌≤◌}
use mathlib.Core.Path.{◌≡◌, refl}
use native.Mathlib.Omega.{arith}
use lib.Count.{ones_in}

-- All set, one by one
pub odd₃₂ : (b : ℕ) → b % 32 ≡ 31 → (b % 2 ≡ 1) × (b / 2 % 16 ≡ 15)
odd₃₂ b h = (omega arith, omega arith)

pub odd₁₆ : (b : ℕ) → b % 16 ≡ 15 → (b % 2 ≡ 1) × (b / 2 % 8 ≡ 7)
odd₁₆ b h = (omega arith, omega arith)

pub odd₈ : (b : ℕ) → b % 8 ≡ 7 → (b % 2 ≡ 1) × (b / 2 % 4 ≡ 3)
odd₈ b h = (omega arith, omega arith)

pub odd₄ : (b : ℕ) → b % 4 ≡ 3 → (b % 2 ≡ 1) × (b / 2 % 2 ≡ 1)
odd₄ b h = (omega arith, omega arith)

-- All five count, so all are set
pub ones_most : (count b : ℕ) → ones_in count b ≤ count
unfolding ones_in
ones_most zero b = omega arith
ones_most (suc count) b = omega (arith, ones_most count (b / 2))

ones_more : (count b : ℕ) → suc count ≤ ones_in (suc count) b → (b % 2 ≡ 1) × (count ≤ ones_in count (b / 2))
unfolding ones_in
ones_more count b h = let m = ones_most count (b / 2) in (omega arith, omega arith)

pub ones_all : (b : ℕ) → 5 ≤ ones_in 5 b → b % 32 ≡ 31
ones_all b h =
    let q₁ = ones_more 4 b h in
    let q₂ = ones_more 3 (b / 2) q₁.1 in
    let q₃ = ones_more 2 (b / 2 / 2) q₂.1 in
    let q₄ = ones_more 1 (b / 2 / 2 / 2) q₃.1 in
    let q₅ = ones_more 0 (b / 2 / 2 / 2 / 2) q₄.1 in
    let h₂ : b / 2 / 2 / 2 % 4 ≡ 3 = up₂ (b / 2 / 2 / 2) q₄.0 q₅.0 in
    let h₃ : b / 2 / 2 % 8 ≡ 7 = up₃ (b / 2 / 2) q₃.0 h₂ in
    let h₄ : b / 2 % 16 ≡ 15 = up₄ (b / 2) q₂.0 h₃ in
    up₅ b q₁.0 h₄
  where
    up₂ : (b : ℕ) → b % 2 ≡ 1 → b / 2 % 2 ≡ 1 → b % 4 ≡ 3
    up₂ b p q = omega arith

    up₃ : (b : ℕ) → b % 2 ≡ 1 → b / 2 % 4 ≡ 3 → b % 8 ≡ 7
    up₃ b p q = omega arith

    up₄ : (b : ℕ) → b % 2 ≡ 1 → b / 2 % 8 ≡ 7 → b % 16 ≡ 15
    up₄ b p q = omega arith

    up₅ : (b : ℕ) → b % 2 ≡ 1 → b / 2 % 16 ≡ 15 → b % 32 ≡ 31
    up₅ b p q = omega arith

-- and the other way round
ones_next : (count b : ℕ) → b % 2 ≡ 1 → ones_in (suc count) b ≡ 1 + ones_in count (b / 2)
unfolding ones_in
ones_next count b h = omega arith

ones_none : (b : ℕ) → ones_in 0 b ≡ 0
unfolding ones_in
ones_none b = refl

pub all_ones : (b : ℕ) → b % 32 ≡ 31 → ones_in 5 b ≡ 5
all_ones b h =
    let q₁ = odd₃₂ b h in
    let q₂ = odd₁₆ (b / 2) q₁.1 in
    let q₃ = odd₈ (b / 2 / 2) q₂.1 in
    let q₄ = odd₄ (b / 2 / 2 / 2) q₃.1 in
    rw (
      ones_next 4 b q₁.0,
      ones_next 3 (b / 2) q₂.0,
      ones_next 2 (b / 2 / 2) q₃.0,
      ones_next 1 (b / 2 / 2 / 2) q₄.0,
      ones_next 0 (b / 2 / 2 / 2 / 2) q₄.1,
      ones_none,
    ) (omega arith)
