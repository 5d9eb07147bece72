-- Laws of what an eight has ahead: its bytes, a run of empty cells, and the cell behind them. Assumes nothing.
use Prim.Native.Nat.{ℕ, zero, suc, ◌+◌, ◌*◌, ◌/◌, ◌%◌, ◌^◌, ◌≤◌, ◌<◌}
use mathlib.Core.Bool.{Bool, true, false}
use mathlib.Core.List.{List}
use mathlib.Core.Path.{◌≡◌, refl, sym, ap, ◌∙◌}
use native.Mathlib.Nat.{add-zero, mul_assoc, pow-succ'}
use native.Mathlib.Omega.{arith}
use borrow.Author.Tests.{ltb-true, ltb-false}
use lib.Count.{under, count_trailing_zeros}
use lib.Dec.{ltb}
use lib.ListN.{length, get_or, drop}
use Rattle.xm.specs.Got.{got}
use Rattle.xm.specs.Cell.{length_by, cell_at, read_cell}
use Rattle.cell.proofs.ReadLaws.{read_got_at, empty_length}
use Rattle.ahead.specs.Ahead.{eight_at, byte_in, Empties, EmptyRun, cell_behind, AheadOf}
use Rattle.ahead.proofs.Lengths.{length_six}

-- A number whose lowest binary digits are 0
trailing_times : (j k n : ℕ) → j ≤ count_trailing_zeros k n → (q : ℕ) × (n ≡ 2 ^ j * q)
unfolding count_trailing_zeros
trailing_times zero k n h = (n, omega arith)
trailing_times (suc j) zero n h = absurd (omega arith)
trailing_times (suc j) (suc k) n h = go (trailing_times j k (n / 2)) (n % 2) refl h
  where
    go : (j ≤ count_trailing_zeros k (n / 2) → (q : ℕ) × (n / 2 ≡ 2 ^ j * q)) → (d : ℕ) → n % 2 ≡ d → suc j ≤ under d (count_trailing_zeros k (n / 2))
        → (q : ℕ) × (n ≡ 2 ^ suc j * q)
    go ih zero e p =
        let r = ih (omega arith) in
        let a : n ≡ 2 * (n / 2) = omega arith in
        (r.0, a ∙ ap (λ (x : ℕ). 2 * x) r.1 ∙ sym (mul_assoc 2 (2 ^ j) r.0) ∙ ap (λ (x : ℕ). x * r.0) (sym (pow-succ' 2 j)))
    go ih (suc d) e p = absurd (omega arith)

-- Those of a number, less seven times 128, below its lowest digit that is set
pub run_of : (eight x : ℕ) → x ≡ eight % 72057594037927936 + 9187201950435737472 → Empties eight (count_trailing_zeros 64 x / 8)
run_of eight x e = record { few = few (ltb (count_trailing_zeros 64 x) 64) refl; all = byte }
  where
    few : (t : Bool) → ltb (count_trailing_zeros 64 x) 64 ≡ t → count_trailing_zeros 64 x / 8 ≤ 7
    few true p = let l = ltb-true (count_trailing_zeros 64 x) 64 p in omega arith
    few false p =
        let q = trailing_times 64 64 x (ltb-false (count_trailing_zeros 64 x) 64 p) in
        let p : x ≡ 18446744073709551616 * q.0 = q.1 in
        absurd (omega arith)

    byte : (i : ℕ) → i < count_trailing_zeros 64 x / 8 → byte_in eight i ≡ 128
    byte zero h = omega (arith, (trailing_times 8 64 x (omega arith)).1)
    byte (suc zero) h = omega (arith, (trailing_times 16 64 x (omega arith)).1)
    byte (suc (suc zero)) h = omega (arith, (trailing_times 24 64 x (omega arith)).1)
    byte (suc (suc (suc zero))) h = omega (arith, (trailing_times 32 64 x (omega arith)).1)
    byte (suc (suc (suc (suc zero)))) h = omega (arith, (trailing_times 40 64 x (omega arith)).1)
    byte (suc (suc (suc (suc (suc zero))))) h = omega (arith, (trailing_times 48 64 x (omega arith)).1)
    byte (suc (suc (suc (suc (suc (suc zero)))))) h = omega (arith, (trailing_times 56 64 x (omega arith)).1)
    byte (suc (suc (suc (suc (suc (suc (suc i))))))) h = absurd (omega (arith, few (ltb (count_trailing_zeros 64 x) 64) refl))

-- What an eight has ahead, by its bytes
module _ (s : List ℕ) (place eight : ℕ) (small : (i : ℕ) → get_or s i 0 ≤ 255) (e : eight ≡ eight_at s place) where
  smalls : (get_or s place 0 ≤ 255) × (get_or s (place + 1) 0 ≤ 255) × (get_or s (place + 2) 0 ≤ 255) × (get_or s (place + 3) 0 ≤ 255)
      × (get_or s (place + 4) 0 ≤ 255) × (get_or s (place + 5) 0 ≤ 255) × (get_or s (place + 6) 0 ≤ 255) × (get_or s (place + 7) 0 ≤ 255)
  smalls =
      (small place, small (place + 1), small (place + 2), small (place + 3), small (place + 4), small (place + 5), small (place + 6), small (place + 7))

  pub byte_at : (i : ℕ) → i ≤ 7 → byte_in eight i ≡ get_or s (place + i) 0
  byte_at zero h = rw add-zero (omega (arith, smalls))
  byte_at (suc zero) h = omega (arith, smalls)
  byte_at (suc (suc zero)) h = omega (arith, smalls)
  byte_at (suc (suc (suc zero))) h = omega (arith, smalls)
  byte_at (suc (suc (suc (suc zero)))) h = omega (arith, smalls)
  byte_at (suc (suc (suc (suc (suc zero))))) h = omega (arith, smalls)
  byte_at (suc (suc (suc (suc (suc (suc zero)))))) h = omega (arith, smalls)
  byte_at (suc (suc (suc (suc (suc (suc (suc zero))))))) h = omega (arith, smalls)
  byte_at (suc (suc (suc (suc (suc (suc (suc (suc i)))))))) h = absurd (omega arith)

  pub lead_at : eight % 256 ≡ get_or s place 0
  lead_at = omega (arith, smalls)

  run_at : (count : ℕ) → Empties eight count → EmptyRun s place count
  run_at count r =
      let few = r.few in
      record { few = few; all = λ i h. sym (byte_at i (omega arith)) ∙ r.all i h }

  last_at : (k bits : ℕ) → k ≤ 7 → bits ≡ 8 * k
      → place + bits / 8 + length_by (eight / 2 ^ bits % 256) ≡ place + bits / 8 + length_by (get_or s (place + bits / 8) 0)
  last_at k bits h b =
      let p : place + k ≡ place + bits / 8 = omega arith in
      ap (λ (x : ℕ). place + bits / 8 + length_by x) (ap (λ (x : ℕ). eight / 2 ^ x % 256) b ∙ byte_at k h ∙ ap (λ (x : ℕ). get_or s x 0) p)

  pub ahead_run : (k bits : ℕ) → eight % 256 ≡ 128 → Empties eight k → bits ≡ 8 * k → AheadOf s place (cell_behind eight place k bits)
  ahead_run k bits l r b =
      let few = r.few in
      record {
        empties = λ h. (run_at k r, omega arith);
        one = λ h. absurd (h (sym lead_at ∙ l));
        few = few;
        near = omega arith;
        next = last_at k bits few b;
        reach = omega (arith, length_six (eight / 2 ^ bits % 256));
      }

  pub ahead_one : (bits : ℕ) → (eight % 256 ≡ 128 → ⊥) → bits ≡ 8 * length_by (eight % 256) → AheadOf s place (cell_behind eight place 1 bits)
  ahead_one bits l b =
      let six = length_six (eight % 256) in
      record {
        empties = λ h. absurd (l (lead_at ∙ h));
        one = λ h. (refl, omega (arith, ap length_by lead_at));
        few = omega arith;
        near = omega arith;
        next = last_at (length_by (eight % 256)) bits (omega arith) b;
        reach = omega (arith, length_six (eight / 2 ^ bits % 256));
      }

-- An empty cell is accepted
pub read_empty : (place : ℕ) (s : List ℕ) → get_or s place 0 ≡ 128 → place < length s → read_cell place (drop place s) ≡ got (cell_at (drop place s)) 1
read_empty place s e h =
    let one = empty_length place s e in
    read_got_at place s (omega arith) ∙ ap (got (cell_at (drop place s))) one

-- A cell where six bytes stand
pub read_six : (place : ℕ) (s : List ℕ) → place + 6 ≤ length s → read_cell place (drop place s) ≡ got (cell_at (drop place s)) (length_by (get_or s place 0))
read_six place s wide = read_got_at place s (omega (arith, length_six (get_or s place 0)))

-- What holds in front of empty cells, and then behind each of them, holds behind all
pub run_over : (P : ℕ → Type 0) (s : List ℕ) (place k : ℕ) → ((i : ℕ) → i < k → get_or s (place + i) 0 ≡ 128) → P 0
    → ((i : ℕ) → i < k → get_or s (place + i) 0 ≡ 128 → P i → P (suc i)) → P k
run_over P s place zero all front next = front
run_over P s place (suc k) all front next =
    next k (omega arith) (all k (omega arith)) (run_over P s place k (λ i h. all i (omega arith)) front (λ i h. next i (omega arith)))
