-- Rules for what an answer comes to, and for what an answer says of the tests that led to it. Assumes nothing.
use Prim.Native.Nat.{ℕ, ◌+◌, ◌*◌, ◌^◌, ◌≤◌, ◌<◌}
use mathlib.Core.Bool.{Bool, true, false, cond}
use mathlib.Core.List.{List, [], ◌∷◌}
use mathlib.Core.Logic.{◌↔◌}
use mathlib.Core.Path.{◌≡◌, refl, ap, ap₂, ◌∙◌}
use native.Mathlib.Omega.{arith}
use lib.ListN.{length, take, drop, length-append, length-drop}
use lib.Seq.{take-append_seam}
use Rattle.xm.specs.Got.{Refusal, Got, got, refused, ◌at◌, ◌>>=◌, ◌>>◌, Test, passes, refusal_of, Holds, AllHold, ensure, checked}
use Rattle.xm.specs.Format.{All}
use Rattle.xm.specs.Answer.{Answer, gives, refuses, answered, behind, number_of, result, numbers, after, loader_number}
use Rattle.xm.specs.Demands.{refusal_most, Numbered, KeepsPromise, LoaderTells}
use Rattle.xm.proofs.Got.{holds-passes, passes-holds, test_holds, passed, bind_got, refused_tests}

-- An answer from its reading, and a reading from its answer
pub answer_gives : {A B : Type 0} (f : A → ℕ → B) {g : Got A} {a : A} {n : ℕ} → g ≡ got a n → answered f g ≡ gives (f a n)
answer_gives f e = rw e

pub answer_refuses : {A B : Type 0} (f : A → ℕ → B) {g : Got A} {r : Refusal} → g ≡ refused r → answered f g ≡ refuses r
answer_refuses f e = rw e

pub refuses-refused : {A B : Type 0} (f : A → ℕ → B) (g : Got A) {r : Refusal} → answered f g ≡ refuses r → g ≡ refused r
refuses-refused f (got a n) e = absurd (let z : ◌≡◌ {A = ℕ} 0 1 = cc in omega arith)
refuses-refused f (refused q) e = cc

pub gives-refuses : {A : Type 0} {x : Answer A} {a : A} {r : Refusal} → x ≡ gives a → x ≡ refuses r → ⊥
gives-refuses e d = let z : ◌≡◌ {A = ℕ} 0 1 = cc in omega arith

-- Tests that all have one refusal, and do not all hold
pub tests_fail : {A : Type 0} (ts : List Test) (g : Got A) {r : Refusal} → All (λ (t : Test). refusal_of t ≡ r) ts → (AllHold ts → ⊥)
    → (checked ts >> g) ≡ refused r
unfolding checked ensure ◌>>◌
tests_fail [] g a h = absurd (h tt)
tests_fail (t ∷ ts) g {r} a h = go (λ k. tests_fail ts g a.1 k) (passes t) refl
  where
    go : ((AllHold ts → ⊥) → (checked ts >> g) ≡ refused r) → (b : Bool) → passes t ≡ b → (checked (t ∷ ts) >> g) ≡ refused r
    go rest true e = test_holds t ts g (passes-holds t e) ∙ rest (λ k. h (passes-holds t e, k))
    go rest false e = rw e (ap refused a.0)

-- An accepted answer: its tests hold, and its steps were accepted. What is found is handed on as variables
pub gives-got : {A B R : Type 0} (f : A → ℕ → B) (g : Got A) {b : B} → answered f g ≡ gives b
    → ((a : A) (n : ℕ) → g ≡ got a n → answered f (got a n) ≡ gives b → R) → R
gives-got f (got a n) e k = k a n refl e
gives-got f (refused r) e k = absurd (let z : ◌≡◌ {A = ℕ} 0 1 = cc in omega arith)

pub gives_passed : {A B R : Type 0} (f : A → ℕ → B) (ts : List Test) (g : Got A) {b : B} → answered f (checked ts >> g) ≡ gives b
    → (AllHold ts → answered f g ≡ gives b → R) → R
gives_passed f ts g e k = gives-got f (checked ts >> g) e λ a n d c. passed ts g d λ h d. k h (rw d c)

pub gives_bound : {A B C R : Type 0} (f : B → ℕ → C) (g : Got A) (next : A × ℕ → Got B) {c : C} → answered f (g >>= next) ≡ gives c
    → ((a : A) (n : ℕ) → g ≡ got a n → answered f (next (a, n)) ≡ gives c → R) → R
gives_bound f g next e k = gives-got f (g >>= next) e λ b m d c. bind_got g next d λ a n q d. k a n q (rw d c)

pub gives_same : {A : Type 0} {a b : A} → ◌≡◌ {A = Answer A} (gives a) (gives b) → a ≡ b
gives_same e = cc

-- A refusal that is none of the tests' own: they all hold, and it is that of what follows
pub refused_passed : {A R : Type 0} (ts : List Test) (g : Got A) {r : Refusal} → All (λ (t : Test). refusal_of t ≡ r → R) ts
    → (checked ts >> g) ≡ refused r → (AllHold ts → g ≡ refused r → R) → R
refused_passed {R = R} ts g {r} a e k = refused_tests (λ (q : Refusal). q ≡ r → R) ts g e a (λ h d same. k h d) refl

-- An answer behind a test: as it is if the test holds, else the test's refusal
pub behind-holds : {A : Type 0} (t : Test) (answer : Answer A) → Holds t → behind t answer ≡ answer
unfolding behind
behind-holds t answer h = rw (holds-passes t h)

pub behind_fails : {A : Type 0} (t : Test) (answer : Answer A) → (Holds t → ⊥) → behind t answer ≡ refuses (refusal_of t)
unfolding behind
behind_fails t answer h = go (passes t) refl
  where
    go : (b : Bool) → passes t ≡ b → behind t answer ≡ refuses (refusal_of t)
    go true e = absurd (h (passes-holds t e))
    go false e = rw e

pub behind_gave : {A R : Type 0} (t : Test) (answer : Answer A) {a : A} → behind t answer ≡ gives a → (Holds t → answer ≡ gives a → R) → R
unfolding behind
behind_gave {R = R} t answer {a} e k = go (passes t) refl e
  where
    go : (b : Bool) → passes t ≡ b → cond b answer (refuses (refusal_of t)) ≡ gives a → R
    go true h e = k (passes-holds t h) e
    go false h e = absurd (gives-refuses e refl)

pub behind-refused : {A R : Type 0} (t : Test) (answer : Answer A) {r : Refusal} → behind t answer ≡ refuses r
    → (refusal_of t ≡ r → R) → (answer ≡ refuses r → R) → R
unfolding behind
behind-refused {R = R} t answer {r} e own next = go (passes t) e
  where
    go : (b : Bool) → cond b answer (refuses (refusal_of t)) ≡ refuses r → R
    go true e = next e
    go false e = own (cc)

-- A call that gives only what there is room for keeps its word, if its refusals have the paper's numbers
after_length : {A B : Type 0} (written : A → List B) (answer : Answer A) (lent : List B) → ((a : A) → answer ≡ gives a → length (written a) ≤ length lent)
    → length (after written answer lent) ≡ length lent
after_length written (gives a) lent h = rw (length-append, length-drop) (omega (arith, h a refl))
after_length written (refuses r) lent h = refl

pub record SoundRefusal (r : Refusal) : Type 0 where
  pub numbered : Numbered refusal_most r.number
  pub placed : 14 ≤ r.number → r.place ≡ 0

-- A reader's own refusals are at most 13
pub read_sound : {r : Refusal} → Numbered 13 r.number → SoundRefusal r
read_sound n = record { numbered = (n.0, omega (arith, n.1), n.2); placed = λ h. absurd (omega (arith, n.1)) }

pub promise_kept : {A B : Type 0} (written : A → List B) (answer : ℕ → Answer A) → ((room : ℕ) (r : Refusal) → answer room ≡ refuses r → SoundRefusal r)
    → ((room : ℕ) (a : A) → answer room ≡ gives a → length (written a) ≤ room) → KeepsPromise written answer
promise_kept written answer sound fits = record {
  numbered = λ room r e. (sound room r e).numbered;
  placed = λ room r e. (sound room r e).placed;
  unchanged = λ lent r e. rw e;
  inside = λ lent. after_length written (answer (length lent)) lent (fits (length lent));
}

-- An answer with number 0 gives something, and what it reports of what it wrote stands in front
pub accepted-gives : {A R : Type 0} (answer : Answer A) → ((r : Refusal) → answer ≡ refuses r → 1 ≤ r.number) → number_of answer ≡ 0
    → ((a : A) → answer ≡ gives a → R) → R
accepted-gives (gives a) numbered e k = k a refl
accepted-gives (refuses r) numbered e k = absurd (omega (arith, numbered r refl))

pub reported_written : {A B : Type 0} (count : A → ℕ) (written : A → List B) (answer : Answer A) (lent : List B) (a : A) → answer ≡ gives a
    → count a ≡ length (written a) → take (result count answer) (after written answer lent) ≡ written a
reported_written count written answer lent a e n = rw (e, n) (take-append_seam (written a) (drop (length (written a)) lent))

-- A call's numbers show a refusal, which leaves the memory as it was
pub refused-exactly : {A : Type 0} (fs : List (A → ℕ)) (answer : Answer A) (r : Refusal) → 1 ≤ r.number
    → (numbers fs answer ≡ numbers fs (refuses r)) ↔ (answer ≡ refuses r)
refused-exactly {A} fs answer r low = (forth answer, ap (numbers fs))
  where
    forth : (x : Answer A) → numbers fs x ≡ numbers fs (refuses r) → x ≡ refuses r
    forth (gives a) e = absurd (let z : 0 ≡ r.number = cc in omega arith)
    forth (refuses q) e =
        let number : q.number ≡ r.number = cc in
        let place : q.place ≡ r.place = cc in
        ap₂ {C = Answer A} (λ (n p : ℕ). refuses (n at p)) number place

pub refused_unchanged : {A B : Type 0} (written : A → List B) (answer : Answer A) (lent : List B) → (number_of answer ≡ 0 → ⊥)
    → after written answer lent ≡ lent
refused_unchanged written (gives a) lent h = absurd (h refl)
refused_unchanged written (refuses r) lent h = refl

-- The loader's number tells both kinds apart, if numbers and places are small
pub loader_tells : {A : Type 0} (f : A → ℕ) (answer : Answer A) (number : ℕ) → number ≡ loader_number f answer → ((a : A) → answer ≡ gives a → f a < 2 ^ 32)
    → ((r : Refusal) → answer ≡ refuses r → (1 ≤ r.number) × (r.place < 2 ^ 32)) → LoaderTells f answer number
unfolding loader_number
loader_tells f answer number same small told = record {
  accepted = λ a e. let n : number ≡ f a = same ∙ ap (loader_number f) e in (n, rw n (small a e));
  refused = λ r e.
      let h = told r e in
      let n : number ≡ r.number * 2 ^ 32 + r.place = same ∙ ap (loader_number f) e in
      rw n (omega arith, omega arith, omega arith);
}
