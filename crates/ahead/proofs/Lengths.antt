-- Laws of a cell's length by sixteen lengths in one number. Assumes nothing.
use Prim.Native.Nat.{ℕ, ◌+◌, ◌*◌, ◌/◌, ◌%◌, ◌^◌, ◌≤◌, ◌<◌}
use mathlib.Core.Bool.{Bool, true, false, cond}
use mathlib.Core.List.{List, map}
use mathlib.Core.Path.{◌≡◌, refl, sym, ap, ◌∙◌}
use native.Mathlib.Nat.{zero-add}
use native.Mathlib.Omega.{arith}
use borrow.Author.Tests.{eqb-true, eqb-false}
use lib.Bits.{bit_and, and_mask}
use lib.Count.{ones, ones_in, ones-le}
use lib.Dec.{ltb, eqb}
use lib.ListN.{get_or}
use Rattle.std.specs.List.{range_with_len}
use Rattle.std.proofs.lemmas.List.FromFn.{get_or-map-range_with_len}
use Rattle.xm.specs.Cell.{length_by}
use Rattle.ahead.specs.Ahead.{lengths_by}

-- Two rules with the same first values
table : (count : ℕ) → (ℕ → ℕ) → List ℕ
table count f = map f (range_with_len 0 count)

same_table : (f g : ℕ → ℕ) (count k : ℕ) → table count f ≡ table count g → k < count → f k ≡ g k
unfolding table
same_table f g count k e h =
    sym (get_or-map-range_with_len f 0 count k k 0 h (zero-add k)) ∙ ap (λ (l : List ℕ). get_or l k 0) e
    ∙ get_or-map-range_with_len g 0 count k k 0 h (zero-add k)

-- A cell's length
plain_lengths : (k : ℕ) → k < 16 → 0x5555555555555555 / 2 ^ (k * 4) % 16 ≡ 5
unfolding table
plain_lengths k h = same_table (λ k. 0x5555555555555555 / 2 ^ (k * 4) % 16) (λ k. 5) 16 k refl h

low_lengths : (k : ℕ) → k < 16 → 0x5443433243323221 / 2 ^ (k * 4) % 16 ≡ 1 + ones k
unfolding table ones ones_in
low_lengths k h = same_table (λ k. 0x5443433243323221 / 2 ^ (k * 4) % 16) (λ k. 1 + ones k) 16 k refl h

high_lengths : (k : ℕ) → k < 16 → 0x6554544354434332 / 2 ^ (k * 4) % 16 ≡ 1 + ones (16 + k)
unfolding table ones ones_in
high_lengths k h = same_table (λ k. 0x6554544354434332 / 2 ^ (k * 4) % 16) (λ k. 1 + ones (16 + k)) 16 k refl h

pub lengths_at : (eight : ℕ) → lengths_by eight / 2 ^ (eight % 16 * 4) % 16 ≡ length_by (eight % 256)
unfolding lengths_by length_by
lengths_at eight = go (ltb (eight % 256) 128) refl (eqb (eight / 16 % 2) 0) refl
  where
    go : (t : Bool) → ltb (eight % 256) 128 ≡ t → (u : Bool) → eqb (eight / 16 % 2) 0 ≡ u
        → cond t 0x5555555555555555 (cond u 0x5443433243323221 0x6554544354434332) / 2 ^ (eight % 16 * 4) % 16 ≡ cond t 5 (1 + ones (eight % 256 % 32))
    go true p u q = plain_lengths (eight % 16) (omega arith)
    go false p true q =
        let z = eqb-true (eight / 16 % 2) 0 q in
        let k : eight % 16 ≡ eight % 256 % 32 = omega arith in
        low_lengths (eight % 16) (omega arith) ∙ ap (λ (n : ℕ). 1 + ones n) k
    go false p false q =
        let z = eqb-false (eight / 16 % 2) 0 q in
        let k : 16 + eight % 16 ≡ eight % 256 % 32 = omega (arith, z) in
        high_lengths (eight % 16) (omega arith) ∙ ap (λ (n : ℕ). 1 + ones n) k

-- by the ones of its lead byte's low five bits
pub length_masked : (lead : ℕ) → cond (ltb lead 128) 5 (1 + ones (bit_and lead 31)) ≡ length_by lead
unfolding length_by
length_masked lead = ap (λ (n : ℕ). cond (ltb lead 128) 5 (1 + ones n)) (and_mask lead 5)

pub length_six : (lead : ℕ) → length_by lead ≤ 6
unfolding length_by
length_six lead = go (ltb lead 128)
  where
    go : (t : Bool) → cond t 5 (1 + ones (lead % 32)) ≤ 6
    go true = omega arith
    go false = omega (arith, ones-le 5 (lead % 32) (omega arith))
