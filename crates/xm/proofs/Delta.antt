-- Laws of delta coding: the one modular law over the width, the round trips over lists and over whole answers, the lengths, and what
-- each exit of the two calls answers. Assumes nothing.
use Prim.Native.Nat.{ℕ, zero, suc, ◌+◌, ◌-◌, ◌*◌, ◌/◌, ◌%◌, ◌^◌, ◌≤◌, ◌<◌}
use mathlib.Core.Bool.{Bool, true, false, ◌&&◌, ◌||◌, and-eq-true_iff, and_assoc, and-true}
use mathlib.Core.List.{List, [], ◌∷◌, map}
use mathlib.Core.Path.{◌≡◌, refl, sym, ap, ◌∙◌, subst}
use native.Mathlib.Nat.{mod-lt, mod-eq_of_lt, mod-add-mod, add-mod-mod, add-mod_right, pow-suc}
use native.Mathlib.Numerals.{add-one}
use native.Mathlib.Omega.{arith}
use lib.Dec.{ltb, eqb}
use lib.IntN.{ℤ, pos, negsuc}
use lib.ListN.{length, get_or, drop, length-map, drop_of_length-le}
use lib.Seq.{drop-cons}
use lib.Pow.{pow_pos}
use borrow.Author.Tests.{ltb-true, ltb-false, lt-ltb, le-ltb, eqb-true}
use Rattle.xm.specs.Number.{Bytes, word, signed}
use Rattle.xm.specs.Got.{Got, got, refused, ◌>>◌, Test, checked, even, holds, when, present, ◌at◌, refusal_of, Holds}
use Rattle.xm.specs.Format.{joined, All}
use Rattle.xm.specs.Answer.{Answer, gives, refuses, answered}
use Rattle.xm.specs.Delta.{pairs, stored_numbers, stored_bytes, sums, decoded, residue, difference}
use Rattle.xm.specs.Delta.{differences, coded, fits, all_fit, width_test, decoding, coding}
use Rattle.xm.proofs.Number.{bytes_tail}
use Rattle.xm.proofs.Got.{test_holds, test_fails, pass, passed, got_value}
use Rattle.xm.proofs.Format.{cons_path}

-- The one modular law, over the width: what was taken away and is added back gives the value
pub difference-added : (width before value : ℕ) → before < 2 ^ width → value < 2 ^ width → (before + difference width before value) % 2 ^ width ≡ value
unfolding difference
difference-added width before value b v =
    add-mod-mod before (value + (2 ^ width - before)) (2 ^ width)
    ∙ ap (λ (n : ℕ). n % 2 ^ width) (omega arith)
    ∙ add-mod_right value (2 ^ width)
    ∙ mod-eq_of_lt v

-- And it is the only number of the width that does
pub difference_only : (width before stored value : ℕ) → before < 2 ^ width → stored < 2 ^ width → (before + stored) % 2 ^ width ≡ value
    → difference width before value ≡ stored
unfolding difference
difference_only width before stored value b d e =
    ap (λ (n : ℕ). (n + (2 ^ width - before)) % 2 ^ width) (sym e)
    ∙ mod-add-mod (before + stored) (2 ^ width) (2 ^ width - before)
    ∙ ap (λ (n : ℕ). n % 2 ^ width) (omega arith)
    ∙ add-mod_right stored (2 ^ width)
    ∙ mod-eq_of_lt d

-- Signed readings and residues undo one another: a number that is read as signed
pub residue-signed : (width x : ℕ) → x < 2 ^ width → residue width (signed width x) ≡ x
unfolding residue signed
residue-signed width x below = go (ltb x (2 ^ width / 2)) refl
  where
    go : (b : Bool) → ltb x (2 ^ width / 2) ≡ b → residue width (signed width x) ≡ x
    go true e = rw e (mod-eq_of_lt below)
    go false e = rw (e, mod-eq_of_lt {n = 2 ^ width - suc x} {m = 2 ^ width} (omega arith)) (omega arith)

-- And a value that fits
pub signed-residue : (width : ℕ) (value : ℤ) → fits width value ≡ true → signed width (residue width value) ≡ value
unfolding residue signed
signed-residue width (pos n) f =
    let h : n < 2 ^ width / 2 = ltb-true n (2 ^ width / 2) f in rw (mod-eq_of_lt {n = n} {m = 2 ^ width} (omega arith), f)
signed-residue width (negsuc n) f =
    let h : n < 2 ^ width / 2 = ltb-true n (2 ^ width / 2) f in
    rw (mod-eq_of_lt {n = n} {m = 2 ^ width} (omega arith), le-ltb (2 ^ width - suc n) (2 ^ width / 2) (omega arith)) (ap negsuc (omega arith))

-- A residue is a number of the width
pub residue_below : (width : ℕ) (value : ℤ) → residue width value < 2 ^ width
unfolding residue
residue_below width (pos n) = mod-lt n (pow_pos width)
residue_below width (negsuc n) = omega (arith, pow_pos width)

-- A signed reading fits the width that it was read at
pub fits_signed : (half x : ℕ) → x < 2 ^ suc half → fits (suc half) (signed (suc half) x) ≡ true
unfolding signed
fits_signed half x below = go (ltb x (2 ^ suc half / 2)) refl
  where
    go : (b : Bool) → ltb x (2 ^ suc half / 2) ≡ b → fits (suc half) (signed (suc half) x) ≡ true
    go true e = rw (e, e)
    go false e =
        let low : 2 ^ suc half / 2 ≤ x = ltb-false x (2 ^ suc half / 2) e in
        rw e (lt-ltb (2 ^ suc half - suc x) (2 ^ suc half / 2) (omega (arith, pow-suc 2 half)))

-- The values of stored numbers, from the sum before them
abbrev pub values_from : (width before : ℕ) → List ℕ → List ℤ
values_from width before stored = map (λ sum. signed width (sum % 2 ^ width)) (sums before stored)

-- Of the sum before only its residue matters: so a sum that wraps at each step will do
pub values_wrapped : (width before : ℕ) (stored : List ℕ) → values_from width (before % 2 ^ width) stored ≡ values_from width before stored
unfolding sums
values_wrapped width before [] = refl
values_wrapped width before (d ∷ ds) =
    cons_path (ap (signed width) one)
    (sym (values_wrapped width (before % 2 ^ width + d) ds) ∙ ap (λ (n : ℕ). values_from width n ds) one ∙ values_wrapped width (before + d) ds)
  where
    one : (before % 2 ^ width + d) % 2 ^ width ≡ (before + d) % 2 ^ width
    one = mod-add-mod before (2 ^ width) d

-- No values; one, and those after it
pub values_none : (width before : ℕ) → values_from width before [] ≡ []
unfolding sums
values_none width before = refl

pub values_step : (width before d : ℕ) (ds : List ℕ) →
    values_from width before (d ∷ ds) ≡ signed width ((before + d) % 2 ^ width) ∷ values_from width ((before + d) % 2 ^ width) ds
unfolding sums
values_step width before d ds = cons_path refl (sym (values_wrapped width (before + d) ds))

-- The same of what is left of some stored numbers, for a loop that keeps the wrapped sum
pub values_next : (width sum i next : ℕ) (stored : List ℕ) → i < length stored → next ≡ (sum + get_or stored i 0) % 2 ^ width →
    values_from width sum (drop i stored) ≡ signed width next ∷ values_from width next (drop (i + 1) stored)
values_next width sum i next stored h e =
    rw (e, add-one i) (ap (values_from width sum) (drop-cons stored i 0 h) ∙ values_step width sum (get_or stored i 0) (drop (suc i) stored))

-- No stored number is left
pub values_end : (width sum i : ℕ) (stored : List ℕ) → length stored ≤ i → values_from width sum (drop i stored) ≡ []
unfolding sums
values_end width sum i stored h = rw (drop_of_length-le stored h)

-- And the differences of what is left of some values, for a loop that keeps the residue before
pub differences_next : (width before i next : ℕ) (values : List ℤ) → i < length values → next ≡ residue width (get_or values i (pos 0))
    → differences width before (map (residue width) (drop i values))
    ≡ difference width before next ∷ differences width next (map (residue width) (drop (i + 1) values))
unfolding differences
differences_next width before i next values h e = rw (e, add-one i, drop-cons values i (pos 0) h)

-- No value is left
pub differences_end : (width before i : ℕ) (values : List ℤ) → length values ≤ i → differences width before (map (residue width) (drop i values)) ≡ []
unfolding differences
differences_end width before i values h = rw (drop_of_length-le values h)

-- And whether what is left of some values fits, for a loop that keeps whether all before did
pub fit_next : (width i : ℕ) (values : List ℤ) (fit : Bool) → i < length values →
    (fit && fits width (get_or values i (pos 0)) && all_fit width (drop (i + 1) values)) ≡ (fit && all_fit width (drop i values))
fit_next width i values fit h =
    rw (add-one i, drop-cons values i (pos 0) h) (and_assoc fit (fits width (get_or values i (pos 0))) (all_fit width (drop (suc i) values)))

-- No value is left to fit
pub fit_end : (width i : ℕ) (values : List ℤ) (fit : Bool) → length values ≤ i → (fit && all_fit width (drop i values)) ≡ fit
fit_end width i values fit h = rw (drop_of_length-le values h) (and-true fit)

-- Coded and decoded again, over the numbers
pub values_differences : (width before : ℕ) (values : List ℤ) → before < 2 ^ width → all_fit width values ≡ true →
    values_from width before (differences width before (map (residue width) values)) ≡ values
unfolding sums differences
values_differences width before [] b f = refl
values_differences width before (v ∷ vs) b f =
    values_step width before (difference width before r) (differences width r (map (residue width) vs))
    ∙ cons_path (ap (signed width) back ∙ signed-residue width v both.0)
    (ap (λ (n : ℕ). values_from width n (differences width r (map (residue width) vs))) back ∙ values_differences width r vs (residue_below width v) both.1)
  where
    r : ℕ
    r = residue width v

    both : (fits width v ≡ true) × (all_fit width vs ≡ true)
    both = (and-eq-true_iff (fits width v) (all_fit width vs)).0 f

    back : (before + difference width before r) % 2 ^ width ≡ r
    back = difference-added width before r b (residue_below width v)

-- Decoded and coded again, over the numbers
pub differences_values : (width before : ℕ) (stored : List ℕ) → before < 2 ^ width → All (λ n. n < 2 ^ width) stored →
    differences width before (map (residue width) (values_from width before stored)) ≡ stored
unfolding sums differences
differences_values width before [] b s = refl
differences_values width before (d ∷ ds) b s =
    ap (λ (values : List ℤ). differences width before (map (residue width) values)) (values_step width before d ds)
    ∙ ap (λ (n : ℕ). difference width before n ∷ differences width n (map (residue width) (values_from width sum ds))) (residue-signed width sum below)
    ∙ cons_path (difference_only width before d sum b s.0 refl) (differences_values width sum ds below s.1)
  where
    sum : ℕ
    sum = (before + d) % 2 ^ width

    below : sum < 2 ^ width
    below = mod-lt (before + d) (pow_pos width)

-- A law of either width, from the two
by_width : (P : ℕ → Type 0) → P 8 → P 16 → (width : ℕ) → Holds (width_test width) → P width
by_width P eight sixteen width h = go (eqb width 8) refl h
  where
    go : (b : Bool) → eqb width 8 ≡ b → (b || eqb width 16) ≡ true → P width
    go true e q = subst P (sym (eqb-true width 8 e)) eight
    go false e q = subst P (sym (eqb-true width 16 q)) sixteen

-- Bytes and the numbers stored in them
pairs_words : (stored : List ℕ) → pairs (joined word stored) ≡ stored
unfolding pairs
pairs_words [] = refl
pairs_words (n ∷ ns) = cons_path (omega arith) (pairs_words ns)

words_pairs : (bytes : List ℕ) → Bytes bytes → length bytes % 2 ≡ 0 → joined word (pairs bytes) ≡ bytes
unfolding pairs
words_pairs [] b e = refl
words_pairs (low ∷ []) b e = absurd (omega arith)
words_pairs (low ∷ high ∷ bytes) b e =
    cons_path (omega (arith, b.below 0)) (cons_path (omega (arith, b.below 0)) (words_pairs bytes (bytes_tail (bytes_tail b)) (omega arith)))

-- A pair, by the place of its low byte
pub pairs_at : (bytes : List ℕ) (i place : ℕ) → place ≡ 2 * i → place + 1 < length bytes
    → get_or (pairs bytes) i 0 ≡ get_or bytes place 0 + 256 * get_or bytes (place + 1) 0
unfolding pairs
pairs_at [] i place e h = absurd (omega arith)
pairs_at (low ∷ []) i place e h = absurd (omega arith)
pairs_at (low ∷ high ∷ bytes) zero place e h = rw e
pairs_at (low ∷ high ∷ bytes) (suc i) place e h = rw (after, twice) (pairs_at bytes i (2 * i) refl (omega arith))
  where
    twice : place ≡ suc (suc (2 * i))
    twice = omega arith

    after : place + 1 ≡ suc (suc (2 * i + 1))
    after = omega arith

pairs_below : (bytes : List ℕ) → Bytes bytes → All (λ n. n < 2 ^ 16) (pairs bytes)
unfolding pairs
pairs_below [] b = tt
pairs_below (low ∷ []) b = tt
pairs_below (low ∷ high ∷ bytes) b = (omega (arith, b.below 0, b.below 1), pairs_below bytes (bytes_tail (bytes_tail b)))

bytes_below : (bytes : List ℕ) → Bytes bytes → All (λ n. n < 2 ^ 8) bytes
bytes_below [] b = tt
bytes_below (n ∷ ns) b = (b.below 0, bytes_below ns (bytes_tail b))

-- "reading an odd byte count at 16"
abbrev pub Paired : (width : ℕ) → List ℕ → Type 0
Paired width bytes = eqb width 16 ≡ true → length bytes % 2 ≡ 0

module _ (width : ℕ) where
  pub stored_numbers_bytes : (stored : List ℕ) → stored_numbers width (stored_bytes width stored) ≡ stored
  unfolding stored_numbers stored_bytes
  stored_numbers_bytes stored = go (eqb width 16) refl
    where
      go : (b : Bool) → eqb width 16 ≡ b → stored_numbers width (stored_bytes width stored) ≡ stored
      go true e = rw e (pairs_words stored)
      go false e = rw e

  pub stored_bytes-numbers : (bytes : List ℕ) → Bytes bytes → Paired width bytes → stored_bytes width (stored_numbers width bytes) ≡ bytes
  unfolding stored_numbers stored_bytes
  stored_bytes-numbers bytes p paired = go (eqb width 16) refl
    where
      go : (b : Bool) → eqb width 16 ≡ b → stored_bytes width (stored_numbers width bytes) ≡ bytes
      go true e = rw e (words_pairs bytes p (paired e))
      go false e = rw e

-- Stored numbers are numbers of the width
pub stored_below : (width : ℕ) → Holds (width_test width) → (bytes : List ℕ) → Bytes bytes → All (λ n. n < 2 ^ width) (stored_numbers width bytes)
unfolding stored_numbers
stored_below = by_width (λ w. (bytes : List ℕ) → Bytes bytes → All (λ n. n < 2 ^ w) (stored_numbers w bytes)) bytes_below pairs_below

-- Round trips over lists
pub decoded-coded : (width : ℕ) (values : List ℤ) → all_fit width values ≡ true → decoded width (coded width values) ≡ values
unfolding decoded coded
decoded-coded width values f =
    ap (values_from width 0) (stored_numbers_bytes width (differences width 0 (map (residue width) values)))
    ∙ values_differences width 0 values (pow_pos width) f

pub coded-decoded : (width : ℕ) (bytes : List ℕ) → Holds (width_test width) → Bytes bytes → Paired width bytes → coded width (decoded width bytes) ≡ bytes
unfolding decoded coded
coded-decoded width bytes h p paired =
    ap (stored_bytes width) (differences_values width 0 (stored_numbers width bytes) (pow_pos width) (stored_below width h bytes p))
    ∙ stored_bytes-numbers width bytes p paired

-- Lengths: a number is of as many bytes as eight goes into the width
sums-length : (before : ℕ) (stored : List ℕ) → length (sums before stored) ≡ length stored
unfolding sums
sums-length before [] = refl
sums-length before (d ∷ ds) = ap suc (sums-length (before + d) ds)

differences-length : (width before : ℕ) (values : List ℕ) → length (differences width before values) ≡ length values
unfolding differences
differences-length width before [] = refl
differences-length width before (v ∷ vs) = ap suc (differences-length width v vs)

pub pairs-length : (bytes : List ℕ) → length (pairs bytes) ≡ length bytes / 2
unfolding pairs
pairs-length [] = refl
pairs-length (low ∷ []) = refl
pairs-length (low ∷ high ∷ bytes) = omega (arith, pairs-length bytes)

words_length : (stored : List ℕ) → length (joined word stored) ≡ 2 * length stored
words_length [] = refl
words_length (n ∷ ns) = omega (arith, words_length ns)

module _ (width : ℕ) (known : Holds (width_test width)) where
  pub decoded-length : (bytes : List ℕ) → length (decoded width bytes) ≡ length bytes / (width / 8)
  unfolding decoded stored_numbers
  decoded-length bytes =
      length-map (sums 0 (stored_numbers width bytes)) (λ sum. signed width (sum % 2 ^ width))
      ∙ sums-length 0 (stored_numbers width bytes)
      ∙ by_width (λ w. length (stored_numbers w bytes) ≡ length bytes / (w / 8)) (omega arith) (pairs-length bytes) width known

  pub coded-length : (values : List ℤ) → length (coded width values) ≡ width / 8 * length values
  unfolding coded stored_bytes
  coded-length values =
      by_width (λ w. (stored : List ℕ) → length (stored_bytes w stored) ≡ w / 8 * length stored) (λ stored. omega arith) words_length width known
      (differences width 0 (map (residue width) values))
      ∙ ap (λ (n : ℕ). width / 8 * n) (differences-length width 0 (map (residue width) values) ∙ length-map values (residue width))

  -- no more values than bytes, and at most two bytes to a value
  pub decoded_most : (bytes : List ℕ) → length (decoded width bytes) ≤ length bytes
  decoded_most bytes = rw (decoded-length bytes) (by_width (λ w. length bytes / (w / 8) ≤ length bytes) (omega arith) (omega arith) width known)

  pub coded_most : (values : List ℤ) → length (coded width values) ≤ 2 * length values
  coded_most values = rw (coded-length values) (by_width (λ w. w / 8 * length values ≤ 2 * length values) (omega arith) (omega arith) width known)

-- Values that are read at a width fit it
values_fit : (half before : ℕ) (stored : List ℕ) → all_fit (suc half) (values_from (suc half) before stored) ≡ true
unfolding sums
values_fit half before [] = refl
values_fit half before (d ∷ ds) =
    rw (fits_signed half ((before + d) % 2 ^ suc half) (mod-lt (before + d) (pow_pos (suc half))), values_fit half (before + d) ds)

-- So what is decoded fits, and can be coded again
pub decoded_fit : (width : ℕ) (bytes : List ℕ) → Holds (width_test width) → all_fit width (decoded width bytes) ≡ true
unfolding decoded
decoded_fit width bytes h =
    by_width (λ w. (stored : List ℕ) → all_fit w (values_from w 0 stored) ≡ true) (values_fit 7 0) (values_fit 15 0) width h (stored_numbers width bytes)

-- An answer that gives what was read
answered-gives : {A R : Type 0} (g : Got A) {y : A} → answered (λ x used. x) g ≡ gives y → ((n : ℕ) → g ≡ got y n → R) → R
answered-gives (got x n) e k = k n (cc)
answered-gives (refused r) e k = absurd (let z : ◌≡◌ {A = ℕ} 0 1 = cc in omega arith)

-- A call of three tests (the width, one of its own, room): what each exit answers, and what an accepted call says
module _ {A : Type 0} (width : ℕ) (own : Test) (needed room : ℕ) (x : List A) where
  abbrev tests : List Test
  tests = width_test width ∷ own ∷ present needed room (14 at 0) ∷ []

  abbrev call : Answer (List A)
  call = answered (λ y used. y) (checked tests >> got x 0)

  call_width : (width ≡ 8 → ⊥) → (width ≡ 16 → ⊥) → call ≡ refuses (16 at 0)
  call_width a b =
      ap (answered (λ y used. y))
      (test_fails (width_test width) _ _ λ h. by_width (λ w. (w ≡ 8 → ⊥) → (w ≡ 16 → ⊥) → ⊥) (λ p q. p refl) (λ p q. q refl) width h a b)

  call_own : Holds (width_test width) → (Holds own → ⊥) → call ≡ refuses (refusal_of own)
  call_own h n = ap (answered (λ y used. y)) (test_holds (width_test width) _ _ h ∙ test_fails own _ _ n)

  call_room : Holds (width_test width) → Holds own → room < needed → call ≡ refuses (14 at 0)
  call_room h o short =
      ap (answered (λ y used. y))
      (test_holds (width_test width) _ _ h ∙ test_holds own _ _ o ∙ test_fails (present needed room (14 at 0)) [] _ (λ f. omega arith))

  call_given : Holds (width_test width) → Holds own → needed ≤ room → call ≡ gives x
  call_given h o f = ap (answered (λ y used. y)) (pass tests (h, (o, (f, tt))) refl)

  call_gave : {R : Type 0} {y : List A} → call ≡ gives y → (Holds (width_test width) → Holds own → needed ≤ room → x ≡ y → R) → R
  call_gave {R} {y} e k =
      answered-gives (checked tests >> got x 0) e λ n g.
      passed tests (got x 0) g λ hs q. k hs.0 hs.1.0 hs.1.1.0 (got_value q)

-- What each exit of the two calls answers
module _ (width : ℕ) (bytes : List ℕ) (room : ℕ) where
  abbrev paired_test : Test
  paired_test = when (eqb width 16) (even (length bytes) (16 at 0))

  pub decoding_width : (width ≡ 8 → ⊥) → (width ≡ 16 → ⊥) → decoding width bytes room ≡ refuses (16 at 0)
  unfolding decoding
  decoding_width = call_width width paired_test (length (decoded width bytes)) room (decoded width bytes)

  pub decoding_odd : Holds (width_test width) → (Paired width bytes → ⊥) → decoding width bytes room ≡ refuses (16 at 0)
  unfolding decoding
  decoding_odd = call_own width paired_test (length (decoded width bytes)) room (decoded width bytes)

  pub decoding_room : Holds (width_test width) → Paired width bytes → room < length (decoded width bytes) → decoding width bytes room ≡ refuses (14 at 0)
  unfolding decoding
  decoding_room = call_room width paired_test (length (decoded width bytes)) room (decoded width bytes)

  pub decoding_given : Holds (width_test width) → Paired width bytes → length (decoded width bytes) ≤ room
      → decoding width bytes room ≡ gives (decoded width bytes)
  unfolding decoding
  decoding_given = call_given width paired_test (length (decoded width bytes)) room (decoded width bytes)

  pub decoding_gave : {R : Type 0} {values : List ℤ} → decoding width bytes room ≡ gives values
      → (Holds (width_test width) → Paired width bytes → length (decoded width bytes) ≤ room → decoded width bytes ≡ values → R) → R
  unfolding decoding
  decoding_gave = call_gave width paired_test (length (decoded width bytes)) room (decoded width bytes)

-- "coding a value outside -128..127 at 8"
abbrev pub Covered : (width : ℕ) → List ℤ → Type 0
Covered width values = eqb width 8 ≡ true → all_fit 8 values ≡ true

module _ (width : ℕ) (values : List ℤ) (room : ℕ) where
  abbrev covered_test : Test
  covered_test = when (eqb width 8) (holds (all_fit 8 values) (16 at 0))

  pub coding_width : (width ≡ 8 → ⊥) → (width ≡ 16 → ⊥) → coding width values room ≡ refuses (16 at 0)
  unfolding coding
  coding_width = call_width width covered_test (length (coded width values)) room (coded width values)

  pub coding_outside : Holds (width_test width) → (Covered width values → ⊥) → coding width values room ≡ refuses (16 at 0)
  unfolding coding
  coding_outside = call_own width covered_test (length (coded width values)) room (coded width values)

  pub coding_room : Holds (width_test width) → Covered width values → room < length (coded width values) → coding width values room ≡ refuses (14 at 0)
  unfolding coding
  coding_room = call_room width covered_test (length (coded width values)) room (coded width values)

  pub coding_given : Holds (width_test width) → Covered width values → length (coded width values) ≤ room
      → coding width values room ≡ gives (coded width values)
  unfolding coding
  coding_given = call_given width covered_test (length (coded width values)) room (coded width values)

  pub coding_gave : {R : Type 0} {bytes : List ℕ} → coding width values room ≡ gives bytes
      → (Holds (width_test width) → Covered width values → length (coded width values) ≤ room → coded width values ≡ bytes → R) → R
  unfolding coding
  coding_gave = call_gave width covered_test (length (coded width values)) room (coded width values)

-- Round trips over whole answers. The values lent are 16-bit numbers, and bytes are bytes; any room that is enough will do
pub coding-decoding : (width : ℕ) (values : List ℤ) (bytes : List ℕ) (room enough : ℕ) → all_fit 16 values ≡ true → coding width values room ≡ gives bytes
    → length values ≤ enough → decoding width bytes enough ≡ gives values
coding-decoding width values bytes room enough f e l =
    coding_gave width values room e λ h covered r c.
    let back : decoded width bytes ≡ values = ap (decoded width) (sym c) ∙ decoded-coded width values (fit h covered) in
    decoding_given width bytes enough h (paired h c) (rw back l) ∙ ap gives back
  where
    fit : Holds (width_test width) → Covered width values → all_fit width values ≡ true
    fit h = by_width (λ w. (eqb w 8 ≡ true → all_fit 8 values ≡ true) → all_fit w values ≡ true) (λ covered. covered refl) (λ covered. f) width h

    paired : Holds (width_test width) → coded width values ≡ bytes → Paired width bytes
    paired h c e =
        let count : length bytes ≡ width / 8 * length values = ap length (sym c) ∙ coded-length width h values in
        omega (arith, rw (eqb-true width 16 e) at count)

pub decoding-coding : (width : ℕ) (bytes : List ℕ) (values : List ℤ) (room enough : ℕ) → Bytes bytes → decoding width bytes room ≡ gives values
    → length bytes ≤ enough → coding width values enough ≡ gives bytes
decoding-coding width bytes values room enough p e l =
    decoding_gave width bytes room e λ h paired r d.
    let back : coded width values ≡ bytes = ap (coded width) (sym d) ∙ coded-decoded width bytes h p paired in
    coding_given width values enough h (λ q. covered h d (eqb-true width 8 q)) (rw back l) ∙ ap gives back
  where
    covered : Holds (width_test width) → decoded width bytes ≡ values → width ≡ 8 → all_fit 8 values ≡ true
    covered h d q = ap (λ (w : ℕ). all_fit w values) (sym q) ∙ ap (all_fit width) (sym d) ∙ decoded_fit width bytes h
