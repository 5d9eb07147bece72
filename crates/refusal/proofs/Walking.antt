-- Loops over `each` by places. Assumes nothing.
use Prim.Native.Nat.{ℕ, ◌+◌, ◌-◌, ◌≤◌, ◌<◌}
use mathlib.Core.List.{List, [], ◌∷◌, ◌++◌}
use mathlib.Core.Path.{◌≡◌, sym, ap, ◌∙◌}
use native.Mathlib.Omega.{arith}
use lib.ListN.{length, drop, get_or}
use Rattle.xm.specs.Got.{Got, got, refused}
use Rattle.xm.specs.Got as paper
use Rattle.xm.specs.Format.{Format, each_read}
use Rattle.xm.proofs.Walk.{PartsLeft, left_start, left_on, left_out, left_end}
use Rattle.refusal.specs.Refusal.{step_refusal, place_step}
use Rattle.refusal.specs.declared.Refusal.{Refusal}
use Rattle.refusal.specs.declared.Step.{Step}
use Rattle.refusal.specs.declared.Step.TheVariants.{Given, Refused}
use Rattle.refusal.proofs.Steps.{place_refused}

-- A step that is refused is the answer, if its reading's refusal is
pub refused_on : {A B : Type 0} (place from : ℕ) (g : Got A) (whole : Got B) {step : Step ℕ} {f : Refusal} → step ≡ place_step place g → step ≡ Refused f
    → ((r : paper.Refusal) → g ≡ refused r → whole ≡ refused r) → step ≡ place_step from whole
refused_on place from g whole e told k = told ∙ sym (ap (place_step from) (k _ (place_refused place g e told (sym (ap step_refusal told)))))

-- Where a loop over `each` has come to: j parts are read, and what is told of them holds
pub record Reached {H I A : Type 0} (F : Format H I A) (hs : List H) (file : List ℕ) (from : ℕ) (Told : List I → Type 0) (j place : ℕ) : Type 0 where
  pub done : List I
  pub left : PartsLeft F hs file from j place done
  pub told : Told done

module _ {H I A : Type 0} (F : Format H I A) (hs : List H) (file : List ℕ) (from : ℕ) where
  pub reached_start : (Told : List I → Type 0) → Told [] → Reached F hs file from Told 0 from
  reached_start Told t = record { done = []; left = left_start F hs file from; told = t }

  module _ {Told : List I → Type 0} {j place : ℕ} (w : Reached F hs file from Told j place) where
    pub reached_end : length hs ≤ j → each_read F hs from (drop from file) ≡ got w.done (place - from)
    reached_end h = left_end F hs file from j place w.done h w.left

    pub reached_place : length hs ≤ j → Given place ≡ place_step from (each_read F hs from (drop from file))
    reached_place h = ap Given (omega (arith, w.left.from)) ∙ sym (ap (place_step from) (reached_end h))

    module _ (h : H) (in_range : j < length hs) (same : get_or hs j h ≡ h) where
      pub reached_on : (More : List I → Type 0) {i : I} {n next : ℕ} → F.read h place (drop place file) ≡ got i n → next ≡ place + n
          → (Told w.done → More (w.done ++ (i ∷ []))) → Reached F hs file from More (j + 1) next
      reached_on More {i} {n} e q t = record {
        done = w.done ++ (i ∷ []);
        left = rw q (left_on F hs file from h j place w.done in_range w.left i n (rw same e));
        told = t w.told;
      }

      pub reached_out : {r : paper.Refusal} → F.read h place (drop place file) ≡ refused r → each_read F hs from (drop from file) ≡ refused r
      reached_out e = left_out F hs file from h j place w.done in_range w.left (rw same e)
