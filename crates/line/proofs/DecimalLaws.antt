-- Laws of decimal digits: one by one, how many, and that they tell the number. Assumes nothing.
use Prim.Native.Nat.{ℕ, zero, suc, ◌+◌, ◌*◌, ◌-◌, ◌/◌, ◌^◌, ◌≤◌, ◌<◌}
use mathlib.Core.Bool.{Bool, true, false}
use mathlib.Core.List.{List, [], ◌∷◌, ◌++◌}
use mathlib.Core.Path.{◌≡◌, refl, sym, ap, ◌∙◌}
use native.Mathlib.Omega.{arith}
use borrow.Author.Tests.{ltb-true, ltb-false, lt-ltb, le-ltb}
use lib.Dec.{ltb}
use lib.ListN.{length, get_or, length-append}
use Rattle.std.proofs.lemmas.List.{get_or_append_left}
use Rattle.line.specs.Decimal.{last_digit, decimal_within, decimal, value_from, DecimalTells}

-- A larger bound changes nothing
within_same : (most more n : ℕ) → n ≤ most → n ≤ more → decimal_within most n ≡ decimal_within more n
within_same zero zero n h k = refl
within_same zero (suc more) n h k = rw (lt-ltb n 10 (omega arith))
within_same (suc most) zero n h k = rw (lt-ltb n 10 (omega arith))
within_same (suc most) (suc more) n h k = go (λ a b. within_same most more (n / 10) a b) (ltb n 10) refl
  where
    go : (n / 10 ≤ most → n / 10 ≤ more → decimal_within most (n / 10) ≡ decimal_within more (n / 10)) → (b : Bool) → ltb n 10 ≡ b
        → decimal_within (suc most) n ≡ decimal_within (suc more) n
    go same true e = rw e
    go same false e =
        let large = ltb-false n 10 e in
        rw e (ap (λ (text : List ℕ). text ++ (last_digit n ∷ [])) (same (omega arith) (omega arith)))

pub decimal_short : (n : ℕ) → n < 10 → decimal n ≡ last_digit n ∷ []
unfolding decimal
decimal_short n h = within_same n (suc n) n (omega arith) (omega arith) ∙ rw (lt-ltb n 10 h)

pub decimal-long : (n : ℕ) → 10 ≤ n → decimal n ≡ decimal (n / 10) ++ (last_digit n ∷ [])
unfolding decimal
decimal-long n h =
    within_same n (suc n) n (omega arith) (omega arith)
    ∙ rw (le-ltb n 10 h) (ap (λ (text : List ℕ). text ++ (last_digit n ∷ [])) (within_same n (n / 10) (n / 10) (omega arith) (omega arith)))

pub decimal_longer : (n : ℕ) → 10 ≤ n → length (decimal n) ≡ length (decimal (n / 10)) + 1
decimal_longer n h = ap length (decimal-long n h) ∙ length-append (decimal (n / 10)) (last_digit n ∷ [])

-- Below 10 ^ k at most k of them
digits_few : (k n : ℕ) → n < 10 ^ suc k → length (decimal n) ≤ suc k
digits_few zero n h = let e = ap length (decimal_short n (omega arith)) in omega (arith, e)
digits_few (suc k) n h = go (digits_few k (n / 10)) (ltb n 10) refl
  where
    go : (n / 10 < 10 ^ suc k → length (decimal (n / 10)) ≤ suc k) → (b : Bool) → ltb n 10 ≡ b → length (decimal n) ≤ suc (suc k)
    go few true e = let e = ap length (decimal_short n (ltb-true n 10 e)) in omega (arith, e)
    go few false e = let e = decimal_longer n (ltb-false n 10 e) in omega (arith, e, few (omega arith))

pub decimal_few : (n : ℕ) → n < 2 ^ 64 → length (decimal n) ≤ 20
decimal_few n h = digits_few 19 n (omega arith)

-- They tell the number
value_behind : (so : ℕ) (digits : List ℕ) (last : ℕ) → value_from so (digits ++ (last ∷ [])) ≡ value_from so digits * 10 + (last - 48)
value_behind so [] last = refl
value_behind so (digit ∷ digits) last = value_behind (so * 10 + (digit - 48)) digits last

some_digit : (n : ℕ) → 1 ≤ length (decimal n)
some_digit n = go (ltb n 10) refl
  where
    go : (b : Bool) → ltb n 10 ≡ b → 1 ≤ length (decimal n)
    go true e = omega (arith, ap length (decimal_short n (ltb-true n 10 e)))
    go false e = omega (arith, decimal_longer n (ltb-false n 10 e))

tells_short : (n : ℕ) → n < 10 → DecimalTells n
tells_short n h =
    let d = decimal_short n h in
    record {
      value = ap (value_from 0) d ∙ omega arith;
      front = λ z. let e : last_digit n ≡ 48 = sym (ap (λ (s : List ℕ). get_or s 0 0) d) ∙ z in omega (arith, e);
    }

tells_long : (n : ℕ) → 10 ≤ n → DecimalTells (n / 10) → DecimalTells n
tells_long n h t =
    let d = decimal-long n h in
    record {
      value = ap (value_from 0) d ∙ value_behind 0 (decimal (n / 10)) (last_digit n) ∙ omega (arith, t.value);
      front = λ z.
          let kept = get_or_append_left (decimal (n / 10)) (last_digit n ∷ []) 0 0 (some_digit (n / 10)) in
          let e = t.front (sym kept ∙ sym (ap (λ (s : List ℕ). get_or s 0 0) d) ∙ z) in
          absurd (omega (arith, e));
    }

tells_within : (most n : ℕ) → n ≤ most → DecimalTells n
tells_within zero n h = tells_short n (omega arith)
tells_within (suc most) n h = go (λ k. tells_within most (n / 10) k) (ltb n 10) refl
  where
    go : (n / 10 ≤ most → DecimalTells (n / 10)) → (b : Bool) → ltb n 10 ≡ b → DecimalTells n
    go tenth true e = tells_short n (ltb-true n 10 e)
    go tenth false e = let large = ltb-false n 10 e in tells_long n large (tenth (omega arith))

pub decimal_tells : (n : ℕ) → DecimalTells n
decimal_tells n = tells_within n n (omega arith)
