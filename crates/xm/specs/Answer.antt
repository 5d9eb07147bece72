-- What a call answers, and what the memory that it was lent holds afterwards.
use Rattle.std.specs.Prelude.{ℕ, ◌+◌, ◌*◌, ◌^◌, cond, List, ◌∷◌, ◌++◌, map, length, drop}
use Rattle.xm.specs.Got.{Got, got, refused, Refusal, Test, passes, refusal_of}

pub data Answer (A : Type 0) : Type 0 where
  gives : A → Answer A
  refuses : Refusal → Answer A

-- A reading's answer: of the value and the count of bytes used.
abbrev pub answered : {A B : Type 0} → (A → ℕ → B) → Got A → Answer B
answered f (got a n) = gives (f a n)
answered f (refused r) = refuses r

-- An answer with one test more in front of it.
unfoldable pub behind : {A : Type 0} → Test → Answer A → Answer A
behind test answer = cond (passes test) answer (refuses (refusal_of test))

-- "A refusal returns its number and a place, with all other result numbers 0"; accepted, number and place are 0.
abbrev pub number_of : {A : Type 0} → Answer A → ℕ
number_of (gives a) = 0
number_of (refuses r) = r.number

abbrev pub place_of : {A : Type 0} → Answer A → ℕ
place_of (gives a) = 0
place_of (refuses r) = r.place

abbrev pub result : {A : Type 0} → (A → ℕ) → Answer A → ℕ
result f (gives a) = f a
result f (refuses r) = 0

-- All numbers of an answer, in order: number, place, and the results.
abbrev pub numbers : {A : Type 0} → List (A → ℕ) → Answer A → List ℕ
numbers fs answer = number_of answer ∷ place_of answer ∷ map (λ f. result f answer) fs

-- What is written stands in front, and "what lies beyond stays".
abbrev pub in_front : {B : Type 0} → (written lent : List B) → List B
in_front written lent = written ++ drop (length written) lent

-- A refused call changes nothing: "All lent memory holds what it held."
abbrev pub after : {A B : Type 0} → (A → List B) → Answer A → (lent : List B) → List B
after written (gives a) lent = in_front (written a) lent
after written (refuses r) lent = lent

-- "Each returns one 64-bit number: refusal number × 2^32 + place, or else" one number of the value's.
unfoldable pub loader_number : {A : Type 0} → (A → ℕ) → Answer A → ℕ
loader_number f (gives a) = f a
loader_number f (refuses r) = r.number * 2 ^ 32 + r.place
