-- Laws of ADPCM samples: the chosen deltas by number, the lengths, what each exit of the call answers, and a sample's values by its kind. That
-- the values are running sums is the law of delta coding. Assumes nothing.
use Prim.Native.Nat.{ℕ, zero, suc, ◌+◌, ◌*◌, ◌/◌, ◌%◌, ◌≤◌, ◌<◌}
use mathlib.Core.Bool.{Bool, true, false, cond}
use mathlib.Core.List.{List, [], ◌∷◌, map}
use mathlib.Core.Path.{◌≡◌, refl, sym, ap, ap₂, ◌∙◌}
use native.Mathlib.Omega.{arith}
use lib.Dec.{eqb}
use lib.IntN.{ℤ}
use lib.ListN.{length, get_or, take, drop, length-map, length-drop}
use lib.Seq.{length-take-le, get_or-take, get_or-drop}
use borrow.Author.Tests.{eqb-true, eqb-false}
use Rattle.xm.specs.Number.{byte_at}
use Rattle.xm.specs.Got.{Refusal, refused, Holds, AllHold, exactly, present, unlike, when, ◌at◌}
use Rattle.xm.specs.Answer.{Answer, gives, refuses}
use Rattle.xm.specs.Sample.{head_bytes, length_of, kind_of, is_wide, width_of, adpcm, is_adpcm, delta_table, adpcm_size, data_size, head_tests, read_head}
use Rattle.xm.specs.Delta.{width_test, decoding}
use Rattle.xm.specs.Adpcm.{halves, chosen, adpcm_decoded, adpcm_decoding, decoding_by, values_of}
use Rattle.xm.specs.Demands.{delta_at, TwelveExactly}
use Rattle.xm.proofs.Got.{no_true, got_never, test_holds, test_fails, pass}
use Rattle.xm.proofs.Answer.{answer_gives, answer_refuses, gives_passed, gives_same, refused_passed}
use Rattle.xm.proofs.Delta.{decoded-length, decoding_gave, decoding_given}

-- Two indexes to a byte, the low half at an even number
pub halves-length : (bytes : List ℕ) → length (halves bytes) ≡ 2 * length bytes
unfolding halves
halves-length [] = refl
halves-length (b ∷ bytes) = omega (arith, halves-length bytes)

abbrev half : (i b : ℕ) → ℕ
half i b = cond (eqb (i % 2) 0) (b % 16) (b / 16)

halves_at : (bytes : List ℕ) (i : ℕ) → i < 2 * length bytes → get_or (halves bytes) i 0 ≡ half i (get_or bytes (i / 2) 0)
unfolding halves
halves_at [] i h = absurd (omega arith)
halves_at (b ∷ bytes) zero h = refl
halves_at (b ∷ bytes) (suc zero) h = refl
halves_at (b ∷ bytes) (suc (suc i)) h =
    halves_at bytes i (omega arith)
    ∙ ap₂ (λ (p k : ℕ). cond (eqb p 0) (get_or (b ∷ bytes) k 0 % 16) (get_or (b ∷ bytes) k 0 / 16)) parity place
  where
    parity : i % 2 ≡ suc (suc i) % 2
    parity = omega arith

    place : suc (i / 2) ≡ suc (suc i) / 2
    place = omega arith

-- An element of a mapped list
map_at : {A B : Type 0} (f : A → B) (xs : List A) (i : ℕ) (none : B) (other : A) → i < length xs → get_or (map f xs) i none ≡ f (get_or xs i other)
map_at f [] i none other h = absurd (omega arith)
map_at f (x ∷ xs) zero none other h = refl
map_at f (x ∷ xs) (suc i) none other h = map_at f xs i none other (omega arith)

-- The bytes of some values: what two halves of an odd count leave over is one byte more
pub adpcm_some : (count : ℕ) → 0 < count → adpcm_size count ≡ delta_table + count / 2 + count % 2
adpcm_some zero h = absurd (omega arith)
adpcm_some (suc n) h = omega arith

pub size_half : (count : ℕ) → count ≤ 2 * adpcm_size count
size_half zero = omega arith
size_half (suc n) = omega arith

-- A byte count that fits the length: there are enough indexes, and as many deltas are chosen, each as document 001's loop takes it
module _ (count : ℕ) (bytes : List ℕ) (fit : length bytes ≡ adpcm_size count) where
  halves_enough : count ≤ length (halves (drop delta_table bytes))
  halves_enough = go count fit
    where
      go : (n : ℕ) → length bytes ≡ adpcm_size n → n ≤ length (halves (drop delta_table bytes))
      go zero e = omega arith
      go (suc n) e = omega (arith, halves-length (drop delta_table bytes), length-drop delta_table bytes)

  pub chosen-length : length (chosen count bytes) ≡ count
  unfolding chosen
  chosen-length =
      length-map (take count (halves (drop delta_table bytes))) (λ index. byte_at index bytes)
      ∙ length-take-le count (halves (drop delta_table bytes)) halves_enough

  pub chosen_at : (i : ℕ) → i < count → get_or (chosen count bytes) i 0 ≡ delta_at bytes i
  unfolding chosen
  chosen_at i h =
      let indexes = halves (drop delta_table bytes) in
      map_at (λ index. byte_at index bytes) (take count indexes) i 0 0 (omega (arith, length-take-le count indexes halves_enough))
      ∙ ap (λ (index : ℕ). byte_at index bytes)
      (get_or-take count indexes i 0 h
      ∙ halves_at (drop delta_table bytes) i (omega (arith, halves-length (drop delta_table bytes), halves_enough))
      ∙ ap (half i) (get_or-drop delta_table bytes (i / 2) 0))

  pub adpcm-length : length (adpcm_decoded count bytes) ≡ count
  unfolding adpcm_decoded
  adpcm-length = omega (arith, decoded-length 8 refl (chosen count bytes), chosen-length)

-- What each exit of the call answers
module _ (count : ℕ) (bytes : List ℕ) (room : ℕ) where
  pub adpcm_unfit : (length bytes ≡ adpcm_size count → ⊥) → adpcm_decoding count bytes room ≡ refuses (16 at 0)
  unfolding adpcm_decoding
  adpcm_unfit n = answer_refuses _ (test_fails (exactly (adpcm_size count) (length bytes) (16 at 0)) _ _ n)

  pub adpcm_room : length bytes ≡ adpcm_size count → room < count → adpcm_decoding count bytes room ≡ refuses (14 at 0)
  unfolding adpcm_decoding
  adpcm_room fit short =
      answer_refuses _
      (test_holds (exactly (adpcm_size count) (length bytes) (16 at 0)) _ _ fit
      ∙ test_fails (present (length (adpcm_decoded count bytes)) room (14 at 0)) [] _ (λ h. omega (arith, adpcm-length count bytes fit)))

  pub adpcm_given : length bytes ≡ adpcm_size count → count ≤ room → adpcm_decoding count bytes room ≡ gives (adpcm_decoded count bytes)
  unfolding adpcm_decoding
  adpcm_given fit h = answer_gives _ (pass _ (fit, (omega (arith, adpcm-length count bytes fit), tt)) refl)

  pub adpcm_gave : {R : Type 0} {values : List ℤ} → adpcm_decoding count bytes room ≡ gives values
      → (length bytes ≡ adpcm_size count → length (adpcm_decoded count bytes) ≤ room → adpcm_decoded count bytes ≡ values → R) → R
  unfolding adpcm_decoding
  adpcm_gave e k = gives_passed _ _ _ e λ hs d. k hs.0 hs.1.0 (gives_same d)

-- More room does not change what is given
pub decoding_roomy : (kind count width : ℕ) (bytes : List ℕ) (values : List ℤ) (room : ℕ)
    → decoding_by kind count width bytes (length values) ≡ gives values → length values ≤ room
    → decoding_by kind count width bytes room ≡ gives values
decoding_roomy kind count width bytes values room = go (eqb kind adpcm)
  where
    by : Bool → ℕ → Answer (List ℤ)
    by b n = cond b (adpcm_decoding count bytes n) (decoding width bytes n)

    go : (b : Bool) → by b (length values) ≡ gives values → length values ≤ room → by b room ≡ gives values
    go true e l =
        adpcm_gave count bytes (length values) e λ fit f q.
        adpcm_given count bytes room fit (omega (arith, ap length q, adpcm-length count bytes fit)) ∙ ap gives q
    go false e l = decoding_gave width bytes (length values) e λ h p f q. decoding_given width bytes room h p (omega (arith, ap length q)) ∙ ap gives q

-- A header's width is one of the two, and at 16 bits a length that is tried is even
width_test_lem : (head : List ℕ) → Holds (width_test (width_of head))
width_test_lem head = go (is_wide head)
  where
    go : (w : Bool) → Holds (width_test (cond w 16 8))
    go true = refl
    go false = refl

width_even : (head : List ℕ) (n : ℕ) → (is_wide head ≡ true → n % 2 ≡ 0) → eqb (width_of head) 16 ≡ true → n % 2 ≡ 0
width_even head n h q = go (is_wide head) h q
  where
    go : (w : Bool) → (w ≡ true → n % 2 ≡ 0) → eqb (cond w 16 8) 16 ≡ true → n % 2 ≡ 0
    go true h q = h refl
    go false h q = absurd (no_true q)

-- A sample's data, by its kind: they decode to its values, which are as many as its length has of its width
module _ (head bytes : List ℕ) (long : length bytes ≡ data_size head) (tests : AllHold (head_tests 0 head)) where
  -- "12 now means kind AD with the 16-bit bit set"
  narrow : is_adpcm head ≡ true → width_of head ≡ 8
  narrow e = go (is_wide head) tests.0
    where
      go : (w : Bool) → (w ≡ true → kind_of head ≡ adpcm → ⊥) → ◌≡◌ {A = ℕ} (cond w 16 8) 8
      go true h = absurd (h refl (eqb-true (kind_of head) adpcm e))
      go false h = refl

  pub sample_decodes : decoding_by (kind_of head) (length_of head) (width_of head) bytes (length (values_of head bytes)) ≡ gives (values_of head bytes)
  unfolding values_of data_size
  sample_decodes = go (is_adpcm head) refl
    where
      go : (b : Bool) → is_adpcm head ≡ b
          → decoding_by (kind_of head) (length_of head) (width_of head) bytes (length (values_of head bytes)) ≡ gives (values_of head bytes)
      go true e = let fit = rw e at long in rw e (adpcm_given (length_of head) bytes _ fit (omega (arith, adpcm-length (length_of head) bytes fit)))
      go false e =
          let fit = rw e at long in
          let even = width_even head (length bytes) (λ q. ap (λ (n : ℕ). n % 2) fit ∙ tests.1.1.0 q) in
          rw e (decoding_given (width_of head) bytes _ (width_test_lem head) even (omega arith))

  pub values_counted : length (values_of head bytes) ≡ length_of head / (width_of head / 8)
  unfolding values_of data_size
  values_counted = go (is_adpcm head) refl
    where
      go : (b : Bool) → is_adpcm head ≡ b → length (values_of head bytes) ≡ length_of head / (width_of head / 8)
      go true e =
          let fit = rw e at long in
          rw e (adpcm-length (length_of head) bytes fit ∙ one (length_of head) ∙ ap (λ (w : ℕ). length_of head / (w / 8)) (sym (narrow e)))
        where
          one : (n : ℕ) → n ≡ n / (8 / 8)
          one n = omega arith
      go false e = let fit = rw e at long in rw e (decoded-length (width_of head) (width_test_lem head) bytes ∙ ap (λ (n : ℕ). n / (width_of head / 8)) fit)

-- 12, and only for this
module _ (size place : ℕ) (s : List ℕ) (there : size ≤ length s) where
  abbrev head : List ℕ
  head = head_bytes size s

  not_twelve : 13 at place ≡ 12 at place → ⊥
  not_twelve e = let z : ◌≡◌ {A = ℕ} 13 12 = ap Refusal.number e in omega arith

  -- the tests behind it have another number
  never_later : Holds (when (is_wide head) (unlike adpcm (kind_of head) (12 at place))) → read_head size place s ≡ refused (12 at place) → ⊥
  unfolding read_head
  never_later f e =
      let first = test_holds (present size (length s) (1 at place)) _ _ there in
      let second = test_holds (when (is_wide head) (unlike adpcm (kind_of head) (12 at place))) _ _ f in
      refused_passed _ _ (not_twelve, (not_twelve, (not_twelve, (not_twelve, (not_twelve, tt))))) (sym (first ∙ second) ∙ e) (λ hs d. got_never d)

  twelve_only : (w a : Bool) → is_wide head ≡ w → eqb (kind_of head) adpcm ≡ a → read_head size place s ≡ refused (12 at place)
      → (is_wide head ≡ true) × (kind_of head ≡ adpcm)
  twelve_only true true p q e = (p, eqb-true (kind_of head) adpcm q)
  twelve_only true false p q e = absurd (never_later (λ t. eqb-false (kind_of head) adpcm q) e)
  twelve_only false a p q e = absurd (never_later (λ t. absurd (no_true (sym p ∙ t))) e)

pub twelve_exactly : TwelveExactly
unfolding read_head
twelve_exactly size place s there = (
  twelve_only size place s there (is_wide (head_bytes size s)) (eqb (kind_of (head_bytes size s)) adpcm) refl refl,
  λ h. test_holds (present size (length s) (1 at place)) _ _ there ∙ test_fails _ _ _ (λ f. f h.0 h.1),
)
