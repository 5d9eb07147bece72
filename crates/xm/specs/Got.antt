-- What a reading step gives: "either a value with the next place, or a refusal with its number"; and the tests that decide it. The next
-- place is said by the count of bytes used.
use Rattle.std.specs.Prelude.{ℕ, ◌%◌, ◌≤◌, Bool, true, false, not, ◌&&◌, List, [], ◌∷◌, ◌≡◌, leb, eqb}

infix 45 ◌at◌
infixl 50 ◌>>=◌
infixl 50 ◌>>◌
pub record Refusal : Type 0 where
  pub number : ℕ
  pub place : ℕ

abbrev pub ◌at◌ : ℕ → ℕ → Refusal
number at place = record { number = number; place = place }

-- A value with the count of bytes used, or a refusal.
pub data Got (A : Type 0) : Type 0 where
  got : A → ℕ → Got A
  refused : Refusal → Got A

-- Of a reading: whether it was accepted; that it was, and that a property holds of what was found; and a list made of what was found,
-- which is empty where it was refused.
abbrev pub accepted : {A : Type 0} → Got A → Bool
accepted (got a n) = true
accepted (refused r) = false

abbrev pub Told : {A : Type 0} → (A → Type 0) → Got A → Type 0
Told P (got a n) = P a
Told P (refused r) = ⊥

abbrev pub list_in : {A B : Type 0} → (A → List B) → Got A → List B
list_in f (got a n) = f a
list_in f (refused r) = []

-- A reading of the bytes that are left; the place where they begin is carried along, for refusals and tables.
abbrev pub Reader : Type 0 → Type 0
Reader A = (place : ℕ) → List ℕ → Got A

-- In a `do` block, `(x, n) ← step` goes on with the value and the bytes used, and a line of its own only with having passed.
unfoldable pub ◌>>=◌ : {A B : Type 0} → Got A → (A × ℕ → Got B) → Got B
(got a n) >>= next = next (a, n)
(refused r) >>= next = refused r

unfoldable pub ◌>>◌ : {A B : Type 0} → Got A → Got B → Got B
(got a n) >> next = next
(refused r) >> next = refused r

-- A test: what has to hold of a value, and the refusal if it does not.
pub data Test : Type 0 where
  present : (needed there : ℕ) → Refusal → Test
  at_least : (least value : ℕ) → Refusal → Test
  at_most : (most value : ℕ) → Refusal → Test
  within : (least most value : ℕ) → Refusal → Test
  exactly : (only value : ℕ) → Refusal → Test
  unlike : (barred value : ℕ) → Refusal → Test
  even : (value : ℕ) → Refusal → Test
  holds : Bool → Refusal → Test
  when : Bool → Test → Test

abbrev pub passes : Test → Bool
passes (present needed there r) = leb needed there
passes (at_least least value r) = leb least value
passes (at_most most value r) = leb value most
passes (within least most value r) = leb least value && leb value most
passes (exactly only value r) = eqb value only
passes (unlike barred value r) = not (eqb value barred)
passes (even value r) = eqb (value % 2) 0
passes (holds b r) = b
passes (when true t) = passes t
passes (when false t) = true

unfoldable pub all_pass : List Test → Bool
all_pass [] = true
all_pass (t ∷ ts) = passes t && all_pass ts

abbrev pub refusal_of : Test → Refusal
refusal_of (present needed there r) = r
refusal_of (at_least least value r) = r
refusal_of (at_most most value r) = r
refusal_of (within least most value r) = r
refusal_of (exactly only value r) = r
refusal_of (unlike barred value r) = r
refusal_of (even value r) = r
refusal_of (holds b r) = r
refusal_of (when b t) = refusal_of t

-- The same as a statement.
abbrev pub Holds : Test → Type 0
Holds (present needed there r) = needed ≤ there
Holds (at_least least value r) = least ≤ value
Holds (at_most most value r) = value ≤ most
Holds (within least most value r) = (least ≤ value) × (value ≤ most)
Holds (exactly only value r) = value ≡ only
Holds (unlike barred value r) = value ≡ barred → ⊥
Holds (even value r) = value % 2 ≡ 0
Holds (holds b r) = b ≡ true
Holds (when b t) = b ≡ true → Holds t

abbrev pub AllHold : List Test → Type 0
AllHold [] = Unit {0}
AllHold (t ∷ ts) = Holds t × AllHold ts

-- "The first fault in this order is the answer."
unfoldable pub ensure : Bool → Refusal → Got (Unit {0})
ensure true r = got tt 0
ensure false r = refused r

unfoldable pub checked : List Test → Got (Unit {0})
checked [] = got tt 0
checked (t ∷ ts) = ensure (passes t) (refusal_of t) >> checked ts
