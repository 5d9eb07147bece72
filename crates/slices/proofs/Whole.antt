-- A number of a structure that is cut off, where the cut leaves it whole. Assumes nothing.
use Prim.Native.Nat.{ℕ, ◌+◌, ◌≤◌}
use mathlib.Core.List.{List}
use mathlib.Core.Path.{◌≡◌, sym}
use native.Mathlib.Omega.{arith}
use lib.ListN.{length, take}
use lib.Seq.{take-take, length-take-le}
use Rattle.xm.specs.Number.{word_at, long_at}
use Rattle.xm.proofs.Number.{Agree, agree_word, agree_long}

module _ (size : ℕ) (s : List ℕ) (h : size ≤ length s) where
  left : Agree size s (take size s)
  left = record { long = omega (arith, length-take-le size s h); same = sym (take-take size size s (omega arith)) }

  pub word_whole : (offset : ℕ) → offset + 2 ≤ size → word_at offset (take size s) ≡ word_at offset s
  word_whole offset f = sym (agree_word left offset f)

  pub long_whole : (offset : ℕ) → offset + 4 ≤ size → long_at offset (take size s) ≡ long_at offset s
  long_whole offset f = sym (agree_long left offset f)
