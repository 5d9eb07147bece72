-- Rules for what a reading comes to, from its tests and steps; and for what an accepted reading says of them. Assumes nothing.
use Prim.Native.Nat.{ℕ, ◌%◌}
use mathlib.Core.Bool.{Bool, true, false, not, and-eq-true_iff}
use mathlib.Core.List.{List, [], ◌∷◌}
use mathlib.Core.Path.{◌≡◌, refl, sym, ap, ◌∙◌, subst₂}
use native.Mathlib.Omega.{arith}
use lib.Dec.{leb, eqb}
use borrow.Author.Tests.{leb-true, le-leb, eqb-true, eq-eqb, eqb-false, ne_eqb}
use Rattle.xm.specs.Format.{All}
use Rattle.xm.specs.Got.{Refusal, Got, got, refused, accepted, Told, ◌>>=◌, ◌>>◌, Test, present, at_least, at_most, within}
use Rattle.xm.specs.Got.{exactly, unlike, even, holds, when, passes, all_pass, refusal_of, Holds, AllHold, ensure, checked}

pub not_both : {A : Type 0} {x : A} {n : ℕ} {r : Refusal} → ◌≡◌ {A = Got A} (refused r) (got x n) → ⊥
not_both e = let z : ◌≡◌ {A = ℕ} 0 1 = cc in omega arith

pub no_true : false ≡ true → ⊥
no_true e = let z : ◌≡◌ {A = ℕ} 0 1 = cc in omega arith

-- A test passes exactly if it holds
unlike-passes : (a b : ℕ) → (a ≡ b → ⊥) → not (eqb a b) ≡ true
unlike-passes a b h = ap not (ne_eqb a b h)

not_true : (t : Bool) → not t ≡ true → t ≡ false
not_true true e = absurd (no_true e)
not_true false e = refl

pub holds-passes : (t : Test) → Holds t → passes t ≡ true
holds-passes (present needed there r) h = le-leb needed there h
holds-passes (at_least least value r) h = le-leb least value h
holds-passes (at_most most value r) h = le-leb value most h
holds-passes (within least most value r) h = rw (le-leb least value h.0, le-leb value most h.1)
holds-passes (exactly only value r) h = eq-eqb value only h
holds-passes (unlike barred value r) h = unlike-passes value barred h
holds-passes (even value r) h = eq-eqb (value % 2) 0 h
holds-passes (holds b r) h = h
holds-passes (when true t) h = holds-passes t (h refl)
holds-passes (when false t) h = refl

pub passes-holds : (t : Test) → passes t ≡ true → Holds t
passes-holds (present needed there r) e = leb-true needed there e
passes-holds (at_least least value r) e = leb-true least value e
passes-holds (at_most most value r) e = leb-true value most e
passes-holds (within least most value r) e =
    let b = (and-eq-true_iff (leb least value) (leb value most)).0 e in (leb-true least value b.0, leb-true value most b.1)
passes-holds (exactly only value r) e = eqb-true value only e
passes-holds (unlike barred value r) e = eqb-false value barred (not_true (eqb value barred) e)
passes-holds (even value r) e = eqb-true (value % 2) 0 e
passes-holds (holds b r) e = e
passes-holds (when true t) e = λ q. passes-holds t e
passes-holds (when false t) e = λ q. absurd (no_true q)

-- and so do all
pub all_pass_lem : (ts : List Test) → AllHold ts → all_pass ts ≡ true
unfolding all_pass
all_pass_lem [] h = refl
all_pass_lem (t ∷ ts) h = rw (holds-passes t h.0, all_pass_lem ts h.1)

pub all_hold : (ts : List Test) → all_pass ts ≡ true → AllHold ts
unfolding all_pass
all_hold [] e = tt
all_hold (t ∷ ts) e = let b = (and-eq-true_iff (passes t) (all_pass ts)).0 e in (passes-holds t b.0, all_hold ts b.1)

-- A goal that says what a reading comes to: the first test holds, or fails; all hold; a step is known
pub test_holds : {A : Type 0} (t : Test) (ts : List Test) (g : Got A) → Holds t → (checked (t ∷ ts) >> g) ≡ (checked ts >> g)
unfolding checked ensure ◌>>◌
test_holds t ts g h = rw (holds-passes t h)

pub test_fails : {A : Type 0} (t : Test) (ts : List Test) (g : Got A) → (Holds t → ⊥) → (checked (t ∷ ts) >> g) ≡ refused (refusal_of t)
unfolding checked ensure ◌>>◌
test_fails t ts g h = go (passes t) refl
  where
    go : (b : Bool) → passes t ≡ b → (checked (t ∷ ts) >> g) ≡ refused (refusal_of t)
    go true e = absurd (h (passes-holds t e))
    go false e = rw e

pub tests_none : {A : Type 0} (g : Got A) → (checked [] >> g) ≡ g
unfolding checked ◌>>◌
tests_none g = refl

pub pass : {A : Type 0} (ts : List Test) {g r : Got A} → AllHold ts → g ≡ r → (checked ts >> g) ≡ r
pass [] h e = tests_none _ ∙ e
pass (t ∷ ts) h e = test_holds t ts _ h.0 ∙ pass ts h.1 e

pub step : {A B : Type 0} (k : A × ℕ → Got B) {g : Got A} {a : A} {n : ℕ} {r : Got B} → g ≡ got a n → k (a, n) ≡ r → (g >>= k) ≡ r
unfolding ◌>>=◌
step k h e = rw h e

pub step_refused : {A B : Type 0} (k : A × ℕ → Got B) {g : Got A} {r : Refusal} → g ≡ refused r → (g >>= k) ≡ refused r
unfolding ◌>>=◌
step_refused k h = rw h

-- An accepted reading found something; so did one of which a property is told
pub accepted-got : {A R : Type 0} (g : Got A) → accepted g ≡ true → ((a : A) (n : ℕ) → g ≡ got a n → R) → R
accepted-got (got a n) e k = k a n refl
accepted-got (refused r) e k = absurd (no_true e)

pub got-accepted : {A : Type 0} {g : Got A} {a : A} {n : ℕ} → g ≡ got a n → accepted g ≡ true
got-accepted e = rw e

pub told_got : {A R : Type 0} (P : A → Type 0) (g : Got A) → Told P g → ((a : A) (n : ℕ) → g ≡ got a n → P a → R) → R
told_got P (got a n) t k = k a n refl t
told_got P (refused r) t k = absurd t

pub got_told : {A : Type 0} (P : A → Type 0) {g : Got A} {a : A} {n : ℕ} → g ≡ got a n → P a → Told P g
got_told P e p = rw e p

-- A hypothesis that a reading was accepted: its tests hold, and the step was accepted. What is found is handed on as variables
passed_one : {A R : Type 0} (b : Bool) (r : Refusal) (ts : List Test) (g : Got A) {x : A} {n : ℕ} → (ensure b r >> checked ts >> g) ≡ got x n
    → (b ≡ true → (checked ts >> g) ≡ got x n → R) → R
unfolding ensure ◌>>◌
passed_one true r ts g e k = k refl e
passed_one false r ts g e k = absurd (not_both e)

pub passed : {A R : Type 0} (ts : List Test) (g : Got A) {x : A} {n : ℕ} → (checked ts >> g) ≡ got x n → (AllHold ts → g ≡ got x n → R) → R
unfolding checked
passed [] g e k = k tt (sym (tests_none g) ∙ e)
passed (t ∷ ts) g e k = passed_one (passes t) (refusal_of t) ts g e λ h e₁. passed ts g e₁ λ hs e₂. k (passes-holds t h, hs) e₂

pub bind_got : {A B R : Type 0} (g : Got A) (k : A × ℕ → Got B) {y : B} {m : ℕ} → (g >>= k) ≡ got y m
    → ((a : A) (n : ℕ) → g ≡ got a n → k (a, n) ≡ got y m → R) → R
unfolding ◌>>=◌
bind_got (got a n) k e r = r a n refl e
bind_got (refused nr) k e r = absurd (not_both e)

pub got_value : {A : Type 0} {x y : A} {n m : ℕ} → ◌≡◌ {A = Got A} (got x n) (got y m) → x ≡ y
got_value e = cc

pub got_used : {A : Type 0} {x y : A} {n m : ℕ} → ◌≡◌ {A = Got A} (got x n) (got y m) → n ≡ m
got_used e = cc

pub got_by : {A : Type 0} {x : A} {n m : ℕ} → n ≡ m → ◌≡◌ {A = Got A} (got x n) (got x m)
got_by e = cc

pub got_both : {A : Type 0} {x y : A} {n m : ℕ} → x ≡ y → n ≡ m → ◌≡◌ {A = Got A} (got x n) (got y m)
got_both p q = cc

pub got_carry : {A : Type 0} (P : A → ℕ → Type 0) {x y : A} {n m : ℕ} → ◌≡◌ {A = Got A} (got x n) (got y m) → P x n → P y m
got_carry P e h = subst₂ P (got_value e) (got_used e) h

-- A hypothesis that a reading was refused: by a step or by what follows it, by one of its tests or by what follows them
pub got_never : {A : Type 0} {x : A} {n : ℕ} {r : Refusal} → ◌≡◌ {A = Got A} (got x n) (refused r) → ⊥
got_never e = not_both (sym e)

pub refused_bind : {A B R : Type 0} (g : Got A) (k : A × ℕ → Got B) {r : Refusal} → (g >>= k) ≡ refused r → (g ≡ refused r → R)
    → ((a : A) (n : ℕ) → g ≡ got a n → k (a, n) ≡ refused r → R) → R
unfolding ◌>>=◌
refused_bind (got a n) k e p q = q a n refl e
refused_bind (refused r') k e p q = p cc

pub same_refusal : {A : Type 0} {r q : Refusal} → ◌≡◌ {A = Got A} (refused r) (refused q) → r ≡ q
same_refusal e = cc

fails : (t : Test) → passes t ≡ false → Holds t → ⊥
fails t q h = no_true (sym q ∙ holds-passes t h)

pub refused_tests : {A : Type 0} (P : Refusal → Type 0) (ts : List Test) (g : Got A) {r : Refusal} → (checked ts >> g) ≡ refused r
    → All (λ (t : Test). P (refusal_of t)) ts → (AllHold ts → g ≡ refused r → P r) → P r
refused_tests P [] g e ps k = k tt (sym (tests_none g) ∙ e)
refused_tests P (t ∷ ts) g {r} e ps k = go (λ e hs. refused_tests P ts g e ps.1 hs) (passes t) refl
  where
    go : ((checked ts >> g) ≡ refused r → (AllHold ts → g ≡ refused r → P r) → P r) → (b : Bool) → passes t ≡ b → P r
    go rest true q = let h = passes-holds t q in rest (sym (test_holds t ts g h) ∙ e) (λ hs. k (h, hs))
    go rest false q = rw (same_refusal (sym (test_fails t ts g (fails t q)) ∙ e)) at ps.0
