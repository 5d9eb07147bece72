-- Laws of two bits of an eight, by the bits that stand below them. Assumes nothing.
use Prim.Native.Nat.{ℕ, ◌+◌, ◌-◌, ◌*◌, ◌/◌, ◌%◌, ◌^◌, ◌≤◌, ◌<◌}
use mathlib.Core.Path.{◌≡◌, sym, ap, ◌∙◌, subst}
use native.Mathlib.Nat.{add-mul, mod-lt, div-lt_iff_lt-mul}
use native.Mathlib.Omega.{arith}
use lib.Pow.{pow_pos, pow-add, split, high, low, field, mod-mod-pow, shr-shr, shr_lt}
use Rattle.mark.specs.Mark.{two_at, with_two}

-- Below some bits they are those of the low part, and above two more those of the high part
two_below : (eight bits other : ℕ) → other + 2 ≤ bits → two_at (eight % 2 ^ bits) other ≡ two_at eight other
two_below eight bits other h =
    let rest = bits - (2 + other) in
    let sum : bits ≡ (rest + 2) + other = omega arith in
    ap (λ (n : ℕ). eight % 2 ^ n / 2 ^ other % 4) sum ∙ ap (λ (n : ℕ). n % 4) (field eight (rest + 2) other) ∙ mod-mod-pow (eight / 2 ^ other) rest 2

two_above : (eight bits other : ℕ) → bits + 2 ≤ other → eight / 2 ^ bits / 4 / 2 ^ (other - (bits + 2)) % 4 ≡ two_at eight other
two_above eight bits other h =
    let rest = other - (bits + 2) in
    let sum : bits + 2 + rest ≡ other = omega arith in
    ap (λ (n : ℕ). n / 2 ^ rest % 4) (shr-shr eight bits 2) ∙ ap (λ (n : ℕ). n % 4) (shr-shr eight (bits + 2) rest) ∙ ap (two_at eight) sum

-- An eight is its two bits there, what stands above them and what stands below
module _ (eight bits : ℕ) where
  parts : two_at eight bits * 2 ^ bits + eight / 2 ^ bits / 4 * 4 * 2 ^ bits + eight % 2 ^ bits ≡ eight
  parts =
      let q = eight / 2 ^ bits in
      let digits : two_at eight bits + q / 4 * 4 ≡ q = omega arith in
      omega (arith, split eight bits, sym (add-mul (two_at eight bits) (q / 4 * 4) (2 ^ bits)) ∙ ap (λ (n : ℕ). n * 2 ^ bits) digits)

  pub two_inside : two_at eight bits * 2 ^ bits ≤ eight
  two_inside = omega (arith, parts)

  -- Others in their place
  module _ (mark : ℕ) (h : mark < 4) where
    abbrev after : ℕ
    after = with_two eight bits mark

    whole : after ≡ (eight / 2 ^ bits / 4 * 4 + mark) * 2 ^ bits + eight % 2 ^ bits
    whole = omega (arith, parts, add-mul (eight / 2 ^ bits / 4 * 4) mark (2 ^ bits))

    top : after / 2 ^ bits ≡ eight / 2 ^ bits / 4 * 4 + mark
    top = ap (λ (n : ℕ). n / 2 ^ bits) whole ∙ high (eight / 2 ^ bits / 4 * 4 + mark) bits (mod-lt eight (pow_pos bits))

    bottom : after % 2 ^ bits ≡ eight % 2 ^ bits
    bottom = ap (λ (n : ℕ). n % 2 ^ bits) whole ∙ low (eight / 2 ^ bits / 4 * 4 + mark) bits (mod-lt eight (pow_pos bits))

    pub two_put : two_at after bits ≡ mark
    two_put = omega (arith, top)

    pub two_lower : (other : ℕ) → other + 2 ≤ bits → two_at after other ≡ two_at eight other
    two_lower other l = sym (two_below after bits other l) ∙ ap (λ (n : ℕ). two_at n other) bottom ∙ two_below eight bits other l

    same_above : after / 2 ^ bits / 4 ≡ eight / 2 ^ bits / 4
    same_above = omega (arith, top)

    pub two_higher : (other : ℕ) → bits + 2 ≤ other → two_at after other ≡ two_at eight other
    two_higher other l = sym (two_above after bits other l) ∙ ap (λ (n : ℕ). n / 2 ^ (other - (bits + 2)) % 4) same_above ∙ two_above eight bits other l

    -- The eight still fits
    pub two_fits : (size : ℕ) → bits + 2 ≤ size → eight < 2 ^ size → after < 2 ^ size
    two_fits size l w =
        let rest = size - (bits + 2) in
        let sum : rest + (bits + 2) ≡ size = omega arith in
        let same : after / 2 ^ (bits + 2) ≡ eight / 2 ^ (bits + 2) = sym (shr-shr after bits 2) ∙ same_above ∙ shr-shr eight bits 2 in
        let below : after / 2 ^ (bits + 2) < 2 ^ rest = rw same (shr_lt rest (bits + 2) (rw sum w)) in
        subst (λ (n : ℕ). after < n) (sym (pow-add 2 rest (bits + 2)) ∙ ap (λ (n : ℕ). 2 ^ n) sum) ((div-lt_iff_lt-mul (pow_pos (bits + 2))).0 below)
