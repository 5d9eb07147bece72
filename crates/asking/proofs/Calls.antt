-- What holds of every answer that meets the contracts of the calls about a sample. Assumes nothing.
use Prim.Native.Nat.{ℕ}
use mathlib.Core.List.{List}
use mathlib.Core.Path.{◌≡◌, refl, sym, ap, ◌∙◌}
use Rattle.xm.specs.Answer.{Answer, gives, refuses, number_of}
use Rattle.xm.specs.Asking.{Stretch, stretch_of, asking_flat, ask_numbers}
use Rattle.std.specs.Prelude.{Result}
use Rattle.refusal.specs.Refusal.{outcome}
use Rattle.refusal.specs.declared.Refusal.{Refusal}
use Rattle.asking.specs.declared.Stretch as code
use Rattle.asking.specs.Ask.{code_stretch, asked_numbers}

-- The numbers are the paper's
asked_same : (answer : Answer Stretch) → asked_numbers (outcome code_stretch answer) ≡ ask_numbers answer
asked_same (gives lies) = refl
asked_same (refuses r) = refl

pub asked_numbers_lem : (file table : List ℕ) (number : ℕ) {answer : Result code.Stretch Refusal} → answer ≡ outcome code_stretch (asking_flat file table number)
    → asked_numbers answer ≡ ask_numbers (asking_flat file table number)
asked_numbers_lem file table number met = ap asked_numbers met ∙ asked_same (asking_flat file table number)

-- No second answer fits
pub asked_once : (file table : List ℕ) (number : ℕ) {answer other : Result code.Stretch Refusal} → answer ≡ outcome code_stretch (asking_flat file table number)
    → other ≡ outcome code_stretch (asking_flat file table number) → answer ≡ other
asked_once file table number met e = met ∙ sym e

-- of a stretch and of the number that tells 0 from 16, flat or by record
pub stretch_once : (file : List ℕ) (asked : Answer Stretch) {stretch other : List ℕ} → stretch ≡ stretch_of file asked
    → other ≡ stretch_of file asked → stretch ≡ other
stretch_once file asked met e = met ∙ sym e

pub refusal_once : (asked : Answer Stretch) {number other : ℕ} → number ≡ number_of asked → other ≡ number_of asked → number ≡ other
refusal_once asked met e = met ∙ sym e
