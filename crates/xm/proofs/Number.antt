-- Laws of bytes, of numbers in bytes, and of parts of lists. Assumes nothing.
use Prim.Native.Nat.{ℕ, zero, suc, ◌+◌, ◌*◌, ◌≤◌, ◌<◌}
use mathlib.Core.Bool.{Bool, true, ◌&&◌, and-eq-true_iff}
use mathlib.Core.List.{List, [], ◌∷◌, ◌++◌}
use mathlib.Core.Path.{◌≡◌, sym, ap, ◌∙◌}
use native.Mathlib.Omega.{arith}
use native.Mathlib.Nat.{add_assoc, zero-add}
use lib.Dec.{ltb}
use borrow.Author.Tests.{ltb-true}
use lib.ListN.{length, get_or, take, drop, replicate, length-drop}
use lib.Seq.{get_or-drop, get_or-take, drop-drop, take-take, take-nil}
use Rattle.xm.specs.Number.{Bytes, byte_at, word_at, long_at, part}

-- Bytes
pub bytes_drop : (n : ℕ) {s : List ℕ} → Bytes s → Bytes (drop n s)
bytes_drop n {s} h = record { below = λ i. rw get_or-drop (h.below (n + i)) }

pub bytes_nil : Bytes []
bytes_nil = record { below = λ i. omega arith }

pub bytes_cons : {b : ℕ} {s : List ℕ} → b < 256 → Bytes s → Bytes (b ∷ s)
bytes_cons {b} {s} h t = record { below = go }
  where
    go : (i : ℕ) → get_or (b ∷ s) i 0 < 256
    go zero = h
    go (suc i) = t.below i

pub bytes_tail : {b : ℕ} {s : List ℕ} → Bytes (b ∷ s) → Bytes s
bytes_tail h = record { below = λ i. h.below (suc i) }

pub bytes_append : {s t : List ℕ} → Bytes s → Bytes t → Bytes (s ++ t)
bytes_append {s = []} g h = h
bytes_append {s = b ∷ s} g h = bytes_cons (g.below 0) (bytes_append (bytes_tail g) h)

pub bytes_take : (n : ℕ) {s : List ℕ} → Bytes s → Bytes (take n s)
bytes_take zero h = bytes_nil
bytes_take (suc n) {s = []} h = bytes_nil
bytes_take (suc n) {s = b ∷ s} h = bytes_cons (h.below 0) (bytes_take n (bytes_tail h))

pub bytes_zeros : (n : ℕ) → Bytes (replicate n 0)
bytes_zeros zero = bytes_nil
bytes_zeros (suc n) = bytes_cons (omega arith) (bytes_zeros n)

-- by a test that computes
abbrev pub are_bytes : List ℕ → Bool
are_bytes [] = true
are_bytes (b ∷ s) = ltb b 256 && are_bytes s

pub bytes_by : (s : List ℕ) → are_bytes s ≡ true → Bytes s
bytes_by [] e = bytes_nil
bytes_by (b ∷ s) e = let h = (and-eq-true_iff (ltb b 256) (are_bytes s)).0 e in bytes_cons (ltb-true b 256 h.0) (bytes_by s h.1)

-- Numbers of bytes are small
pub word_small : (offset : ℕ) {s : List ℕ} → Bytes s → word_at offset s < 65536
unfolding word_at
word_small offset b = omega (arith, b.below offset, b.below (offset + 1))

pub long-small : (offset : ℕ) {s : List ℕ} → Bytes s → long_at offset s < 4294967296
unfolding long_at
long-small offset b = omega (arith, b.below offset, b.below (offset + 1), b.below (offset + 2), b.below (offset + 3))

-- The number at an offset of what is left from a place is the number at their sum
pub word-drop : (place offset : ℕ) (s : List ℕ) → word_at offset (drop place s) ≡ word_at (place + offset) s
unfolding word_at
word-drop place offset s = simp get_or-drop (ap (λ (i : ℕ). get_or s (place + offset) 0 + 256 * get_or s i 0) (sym (add_assoc place offset 1)))

pub long-drop : (place offset : ℕ) (s : List ℕ) → long_at offset (drop place s) ≡ long_at (place + offset) s
unfolding long_at
long-drop place offset s = simp get_or-drop (rw (add_assoc place offset 1, add_assoc place offset 2, add_assoc place offset 3))

pub part-drop : (place offset size : ℕ) (s : List ℕ) → part offset size (drop place s) ≡ part (place + offset) size s
part-drop place offset size s = rw drop-drop

-- Two lists that agree on their first n elements
pub record Agree (n : ℕ) (s t : List ℕ) : Type 0 where
  pub long : n ≤ length t
  pub same : take n s ≡ take n t

module _ {n : ℕ} {s t : List ℕ} (a : Agree n s t) where
  pub agree_byte : (i : ℕ) → i < n → byte_at i s ≡ byte_at i t
  agree_byte i h = sym (get_or-take n s i 0 h) ∙ ap (λ (l : List ℕ). get_or l i 0) a.same ∙ get_or-take n t i 0 h

  pub agree_word : (i : ℕ) → i + 2 ≤ n → word_at i s ≡ word_at i t
  unfolding word_at
  agree_word i h = rw (agree_byte i (omega arith), agree_byte (i + 1) (omega arith))

  pub agree_long : (i : ℕ) → i + 4 ≤ n → long_at i s ≡ long_at i t
  unfolding long_at
  agree_long i h = rw (agree_byte i (omega arith), agree_byte (i + 1) (omega arith), agree_byte (i + 2) (omega arith), agree_byte (i + 3) (omega arith))

  pub agree_take : (k : ℕ) → k ≤ n → take k s ≡ take k t
  agree_take k h = sym (take-take k n s h) ∙ ap (take k) a.same ∙ take-take k n t h

  pub agree_fewer : (k : ℕ) → k ≤ n → Agree k s t
  agree_fewer k h = record { long = omega (arith, a.long); same = agree_take k h }

-- A part of the front, and the front of what is left
pub take-drop : (m k : ℕ) (l : List ℕ) → take m (drop k l) ≡ drop k (take (k + m) l)
take-drop m zero l = ap (λ (n : ℕ). take n l) (sym (zero-add m))
take-drop m (suc k) [] = take-nil m ∙ sym (ap {B = List ℕ} (drop (suc k)) (take-nil (suc k + m)))
take-drop m (suc k) (x ∷ l) = take-drop m k l ∙ ap (λ (n : ℕ). drop (suc k) (take n (x ∷ l))) suc_plus
  where
    suc_plus : suc (k + m) ≡ suc k + m
    suc_plus = omega arith

module _ {n : ℕ} {s t : List ℕ} (a : Agree n s t) where
  pub agree_part : (offset size : ℕ) → offset + size ≤ n → part offset size s ≡ part offset size t
  agree_part offset size h = take-drop size offset s ∙ ap (drop offset) (agree_take a (offset + size) h) ∙ sym (take-drop size offset t)

  pub agree_drop : (k m : ℕ) → k + m ≤ n → Agree m (drop k s) (drop k t)
  agree_drop k m h = record { long = omega (arith, a.long, length-drop k t); same = agree_part k m h }
