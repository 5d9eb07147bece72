-- What code that goes through tests in order needs of them. Assumes nothing.
use Prim.Native.Nat.{ℕ, zero, suc, ◌≤◌}
use mathlib.Core.Bool.{Bool, true, false, not, cond}
use mathlib.Core.List.{List, [], ◌∷◌, ◌++◌}
use mathlib.Core.Path.{◌≡◌, refl, sym, ap, ap₂, ◌∙◌}
use native.Mathlib.Omega.{arith}
use Rattle.std.specs.Prelude.{Ok, Err}
use borrow.Author.Tests.{not-true, not-false, eqb-true, eqb-false}
use lib.Dec.{eqb}
use Rattle.xm.specs.Got.{Got, refused, ◌>>◌, Test, passes, all_pass, refusal_of, Holds, AllHold, checked, ◌at◌}
use Rattle.xm.specs.Format.{All}
use Rattle.xm.proofs.Got.{no_true, holds-passes, passes-holds, all_pass_lem, all_hold, test_holds, test_fails}
use Rattle.refusal.specs.Test.{number_of, cause_of, tested}
use Rattle.refusal.specs.declared.Cause.{Cause}

-- A test that fails does not pass
never_true : (b : Bool) → (b ≡ true → ⊥) → b ≡ false
never_true true f = absurd (f refl)
never_true false f = refl

pub not_passes : (t : Test) → (Holds t → ⊥) → passes t ≡ false
not_passes t f = never_true (passes t) (λ e. f (passes-holds t e))

-- A test that a function of the code made
pub test_passed : (t : Test) {b : Bool} → b ≡ passes t → not b ≡ false → Holds t
test_passed t e q = passes-holds t (sym e ∙ not-false _ q)

pub test_failed : (t : Test) {b : Bool} → b ≡ passes t → not b ≡ true → AllHold (t ∷ []) → ⊥
test_failed t e q h = no_true (sym (sym e ∙ not-true _ q) ∙ holds-passes t h.0)

-- A test of all
pub not_all_pass : (ts : List Test) → (AllHold ts → ⊥) → all_pass ts ≡ false
not_all_pass ts f = never_true (all_pass ts) (λ e. f (all_hold ts e))

pub not_all_hold : (ts : List Test) → all_pass ts ≡ false → AllHold ts → ⊥
not_all_hold ts e h = no_true (sym e ∙ all_pass_lem ts h)

-- Tests that are tried in order: all pass
pub tested_lem : (ts : List Test) → AllHold ts → tested ts ≡ Ok tt
tested_lem [] h = refl
tested_lem (t ∷ ts) h = rw (holds-passes t h.0) (tested_lem ts h.1)

pub tested_holds : (ts : List Test) → tested ts ≡ Ok tt → AllHold ts
tested_holds [] e = tt
tested_holds (t ∷ ts) e = go (λ e. tested_holds ts e) (passes t) refl e
  where
    go : (tested ts ≡ Ok tt → AllHold ts) → (b : Bool) → passes t ≡ b → cond b (tested ts) (Err (cause_of (refusal_of t).number)) ≡ Ok tt → Holds t × AllHold ts
    go rest true q e = (passes-holds t q, rest e)
    go rest false q e = absurd (no_true (cc))

-- behind some that pass, those that follow decide; and one that does not pass is the answer
pub tested_behind : (ts us : List Test) → tested ts ≡ Ok tt → tested (ts ++ us) ≡ tested us
tested_behind [] us e = refl
tested_behind (t ∷ ts) us e =
    let h = tested_holds (t ∷ ts) e in
    rw (holds-passes t h.0) (tested_behind ts us (tested_lem ts h.1))

pub tested_first : (ts us : List Test) {cause : Cause} → tested ts ≡ Err cause → tested (ts ++ us) ≡ Err cause
tested_first [] us e = absurd (no_true (cc))
tested_first (t ∷ ts) us {cause} e = go (λ e. tested_first ts us e) (passes t) refl e
  where
    go : (tested ts ≡ Err cause → tested (ts ++ us) ≡ Err cause) → (b : Bool) → passes t ≡ b
        → cond b (tested ts) (Err (cause_of (refusal_of t).number)) ≡ Err cause → tested ((t ∷ ts) ++ us) ≡ Err cause
    go rest true q e = rw q (rest e)
    go rest false q e = rw q e

-- Of tests that all refuse at one place, and by a number that a cause has: what their cause refuses by
abbrev pub RefuseAt : (place : ℕ) → List Test → Type 0
RefuseAt place ts = All (λ (t : Test). (1 ≤ (refusal_of t).number) × ((refusal_of t).number ≤ 16) × ((refusal_of t).place ≡ place)) ts

abbrev UpTo : (P : ℕ → Type 0) (most : ℕ) → Type 0
UpTo P zero = Unit {0}
UpTo P (suc k) = P (suc k) × UpTo P k

up_to : (P : ℕ → Type 0) (n most : ℕ) → UpTo P most → 1 ≤ n → n ≤ most → P n
up_to P n zero all l m = absurd (omega arith)
up_to P n (suc k) all l m = go (λ m. up_to P n k all.1 l m) (eqb n (suc k)) refl
  where
    go : (n ≤ k → P n) → (b : Bool) → eqb n (suc k) ≡ b → P n
    go rest true e = rw (eqb-true n (suc k) e) all.0
    go rest false e = rest (omega (arith, eqb-false n (suc k) e))

number_cause : (n : ℕ) → 1 ≤ n → n ≤ 16 → number_of (cause_of n) ≡ n
number_cause n l m =
    up_to (λ (n : ℕ). number_of (cause_of n) ≡ n) n 16
    (refl, (refl, (refl, (refl, (refl, (refl, (refl, (refl, (refl, (refl, (refl, (refl, (refl, (refl, (refl, (refl, tt)))))))))))))))) l m

pub tested_refuses : {A : Type 0} (place : ℕ) (ts : List Test) (g : Got A) {cause : Cause} → RefuseAt place ts → tested ts ≡ Err cause
    → (checked ts >> g) ≡ refused (number_of cause at place)
tested_refuses place [] g a e = absurd (no_true (cc))
tested_refuses {A} place (t ∷ ts) g {cause} a e = go (λ e. tested_refuses place ts g a.1 e) (passes t) refl e
  where
    go : (tested ts ≡ Err cause → (checked ts >> g) ≡ refused (number_of cause at place)) → (b : Bool) → passes t ≡ b
        → cond b (tested ts) (Err (cause_of (refusal_of t).number)) ≡ Err cause
        → (checked (t ∷ ts) >> g) ≡ refused (number_of cause at place)
    go rest true q e = test_holds t ts g (passes-holds t q) ∙ rest e
    go rest false q e =
        test_fails t ts g (λ h. no_true (sym q ∙ holds-passes t h))
        ∙ ap₂ {C = Got A} (λ (n p : ℕ). refused (n at p)) (sym (number_cause (refusal_of t).number a.0.0 a.0.1) ∙ cc) a.0.2
