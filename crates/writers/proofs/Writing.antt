-- Laws of pieces written one after the other, each into what remains of the output. Assumes nothing.
use Prim.Native.Nat.{ℕ, ◌+◌, ◌-◌, ◌≤◌}
use mathlib.Core.List.{List, ◌++◌, append_assoc}
use mathlib.Core.Path.{◌≡◌, sym, ap, ◌∙◌}
use native.Mathlib.Omega.{arith}
use lib.ListN.{length, take, drop, length-append}
use lib.Seq.{drop-drop, drop-append-add, length-take-le}
use borrow.Rule.Slice.PartMut.{put_mid}
use Rattle.xm.specs.Answer.{in_front}
use Rattle.xm.proofs.Lay.{part_back, part_all}

-- The first piece is written last, in front of one that stands behind it
pub first_last : (lent first piece : List ℕ) (to : ℕ) {left : List ℕ} → to ≡ length first → to ≤ length lent
    → left ≡ in_front piece (take (length lent - to) (drop to lent)) → in_front first (put_mid to (length lent - to) lent left) ≡ in_front (first ++ piece) lent
first_last lent first piece to {left} n h w =
    let t : length first ≡ length (take to lent) + 0 = omega (arith, length-take-le to lent h) in
    let e : to + length piece ≡ length (first ++ piece) = omega (arith, length-append first piece) in
    ap (λ (l : List ℕ). first ++ drop (length first) l) (part_back lent left to h)
    ∙ ap (λ (k : ℕ). first ++ drop k (take to lent ++ left)) t
    ∙ ap (λ (l : List ℕ). first ++ l) (drop-append-add (take to lent) left 0 ∙ w ∙ ap (in_front piece) (part_all to lent))
    ∙ ap (λ (l : List ℕ). first ++ (piece ++ l)) (drop-drop (length piece) to lent ∙ ap (λ (k : ℕ). drop k lent) e)
    ∙ sym (append_assoc first piece (drop (length (first ++ piece)) lent))
