-- Bytes that are content are copied as they stand: they are the numbers that they read as. Assumes nothing.
use Prim.Native.Nat.{ℕ, ◌+◌, ◌-◌, ◌≤◌, ◌<◌}
use mathlib.Core.List.{List, ◌++◌}
use mathlib.Core.Path.{◌≡◌, refl, ap, ap₂, ◌∙◌}
use native.Mathlib.Omega.{arith}
use lib.ListN.{length, take, drop, length-drop}
use lib.Seq.{take-add, drop-drop, drop-cons, length-take-le}
use Rattle.xm.specs.Number.{Bytes, byte_at, word_at, part, byte, word}
use Rattle.xm.proofs.Format.{cons_path}
use Rattle.xm.proofs.Lay.{part_all}

-- As many bytes as there are
pub part_length : (offset size : ℕ) (s : List ℕ) → offset + size ≤ length s → length (part offset size s) ≡ size
part_length offset size s h = length-take-le size (drop offset s) (omega (arith, length-drop offset s))

-- and the front of what stands from a place on
pub front_part : (place size : ℕ) (s : List ℕ) → take size (take (length s - place) (drop place s)) ≡ part place size s
front_part place size s = ap (take size) (part_all place s)

-- A part in two parts
pub part_split : (offset n m : ℕ) (s : List ℕ) → part offset (n + m) s ≡ part offset n s ++ part (offset + n) m s
part_split offset n m s = take-add n m (drop offset s) ∙ ap (λ (l : List ℕ). take n (drop offset s) ++ take m l) (drop-drop n offset s)

pub byte-kept : (offset : ℕ) (s : List ℕ) → offset < length s → part offset 1 s ≡ byte (byte_at offset s)
byte-kept offset s h = ap (take 1) (drop-cons s offset 0 h)

pub word_kept : (offset : ℕ) {s : List ℕ} → Bytes s → offset + 2 ≤ length s → part offset 2 s ≡ word (word_at offset s)
unfolding word_at
word_kept offset {s} b h =
    part_split offset 1 1 s
    ∙ ap₂ (λ (x y : List ℕ). x ++ y) (byte-kept offset s (omega arith)) (byte-kept (offset + 1) s (omega arith))
    ∙ cons_path (omega (arith, b.below offset)) (cons_path (omega (arith, b.below offset)) refl)
