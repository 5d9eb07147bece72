-- Laws of bytes that are written through a cut. Assumes nothing.
use Prim.Native.Nat.{ℕ, zero, suc, ◌+◌, ◌-◌, ◌≤◌, min}
use mathlib.Core.List.{List, [], ◌∷◌, ◌++◌}
use mathlib.Core.Path.{◌≡◌, refl, sym, ap, ◌∙◌}
use native.Mathlib.Nat.{add-sub_cancel_left}
use native.Mathlib.Omega.{arith}
use lib.ListN.{length, take, drop, replicate}
use lib.Seq.{drop-nil}
use Rattle.xm.specs.ModuleKind.{padded}
use Rattle.xm.specs.Answer.{in_front}
use Rattle.xm.proofs.Format.{cons_path}
use Rattle.xm.proofs.Cut.{padded-length, padded-append, padded-long, take-padded, padded_none}

-- What was written, under another name
pub named : (lent : List ℕ) {written piece left : List ℕ} → left ≡ in_front written lent → written ≡ piece → left ≡ in_front piece lent
named lent w e = w ∙ ap (λ (l : List ℕ). in_front l lent) e

-- Filled up: of fewer bytes, of more; and twice
pub padded_short : (n : ℕ) (s : List ℕ) → length s ≤ n → padded n s ≡ s ++ replicate (n - length s) 0
unfolding padded
padded_short n [] h = let z : n ≡ n - 0 = omega arith in padded_none n ∙ ap (λ (k : ℕ). replicate k 0) z
padded_short zero (b ∷ s) h = absurd (omega arith)
padded_short (suc n) (b ∷ s) h =
    let z : n - length s ≡ suc n - suc (length s) = omega arith in
    cons_path refl (padded_short n s (omega arith) ∙ ap (λ (k : ℕ). s ++ replicate k 0) z)

pub padded_front : (n : ℕ) (a b : List ℕ) → n ≤ length a → padded n (a ++ b) ≡ padded n a
unfolding padded
padded_front zero a b h = refl
padded_front (suc n) [] b h = absurd (omega arith)
padded_front (suc n) (x ∷ a) b h = cons_path refl (padded_front n a b (omega arith))

pub padded-padded : (n width : ℕ) (s : List ℕ) → n ≤ width → padded n (padded width s) ≡ padded n s
padded-padded n width s h = padded-long n (padded width s) (omega (arith, padded-length width s)) ∙ take-padded n width s h

pub padded_more : (n width : ℕ) (s : List ℕ) → width ≤ n → padded n (padded width s) ≡ padded width s ++ replicate (n - width) 0
padded_more n width s h =
    padded_short n (padded width s) (omega (arith, padded-length width s)) ∙ ap (λ (k : ℕ). padded width s ++ replicate (n - k) 0) (padded-length width s)

-- behind bytes that are all there
pub padded-behind : (n : ℕ) (a b : List ℕ) → length a ≤ n → padded n (a ++ b) ≡ a ++ padded (n - length a) b
padded-behind n a b h = let z : n ≡ length a + (n - length a) = omega arith in ap (λ (k : ℕ). padded k (a ++ b)) z ∙ padded-append (n - length a) a b

-- The bytes that are there of n, and zeros behind them
pub padded_there : (n : ℕ) (s : List ℕ) {t : ℕ} → t ≡ min n (length s) → padded n s ≡ take t s ++ replicate (n - t) 0
unfolding padded
padded_there n [] e = let z : _ ≡ 0 = e ∙ omega arith in let p : n ≡ n - 0 = omega arith in rw z (padded_none n ∙ ap (λ (k : ℕ). replicate k 0) p)
padded_there zero (b ∷ s) e = let z : _ ≡ 0 = e ∙ omega arith in rw z refl
padded_there (suc n) (b ∷ s) e =
    let m = min n (length s) in
    let p : _ ≡ suc m = e ∙ omega arith in
    let z : n - m ≡ suc n - suc m = omega arith in
    rw p (cons_path refl (padded_there n s refl ∙ ap (λ (k : ℕ). take m s ++ replicate k 0) z))

-- From an offset on, or from the end
pub cut_from : (n : ℕ) (s : List ℕ) {m : ℕ} → m ≡ min n (length s) → drop m s ≡ drop n s
cut_from n [] {m} e = drop-nil m ∙ sym (drop-nil n)
cut_from zero (b ∷ s) e = let z : _ ≡ 0 = e ∙ omega arith in rw z refl
cut_from (suc n) (b ∷ s) e = let p : _ ≡ suc (min n (length s)) = e ∙ omega arith in rw p (cut_from n s refl)

-- A structure's own bytes
pub own_bytes : (at size : ℕ) (file : List ℕ) → take (at + size - at) (drop at file) ≡ take size (drop at file)
own_bytes at size file = ap (λ (n : ℕ). take n (drop at file)) (add-sub_cancel_left at size)
