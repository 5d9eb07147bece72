-- What holds of every answer that meets `check`'s contract. Assumes nothing.
use Prim.Native.Nat.{ℕ}
use Rattle.std.specs.Prelude.{Result}
use mathlib.Core.List.{List, [], ◌∷◌}
use mathlib.Core.Path.{◌≡◌, refl, sym, ap, ◌∙◌, subst}
use Rattle.xm.specs.Number.{Bytes}
use Rattle.xm.specs.ModuleKind.{ModuleKind}
use Rattle.xm.specs.Got.{Refusal, refused}
use Rattle.xm.specs.Answer.{Answer, gives, refuses, numbers}
use Rattle.xm.specs.Module.{Content, module_format, read_file}
use Rattle.xm.specs.Table.{CheckReport, checking, check_results, check_numbers}
use Rattle.xm.specs.Demands.{FileOf, counts_of, Accepts}
use Rattle.xm.proofs.Demands.{demand₂}
use Rattle.refusal.specs.Refusal.{outcome}
use Rattle.refusal.specs.declared.Refusal as code
use Rattle.walk.specs.declared.Module.{Module}
use Rattle.walk.specs.File.{code_module, verdict_numbers}

-- The numbers are the paper's
pub verdict_numbers_lem : (answer : Answer CheckReport) → verdict_numbers (outcome code_module answer) ≡ numbers check_results answer
verdict_numbers_lem (gives c) = refl
verdict_numbers_lem (refuses r) = refl

module _ (file : List ℕ) {answer : Result Module code.Refusal} (met : answer ≡ outcome code_module (checking file)) where
  reported : verdict_numbers answer ≡ check_numbers file
  reported = ap verdict_numbers met ∙ verdict_numbers_lem (checking file)

  -- An acceptable file is accepted, with its end and the counts of its content
  pub check_accepts : (kind : ModuleKind) (content : Content) (f : FileOf (module_format kind) content file)
      → verdict_numbers answer ≡ 0 ∷ 0 ∷ f.end ∷ counts_of content
  check_accepts kind content f = reported ∙ demand₂.check.accepted kind content file f

  -- A file that is accepted is an acceptable file, of some kind and content
  pub check_acceptable : Bytes file → Accepts (verdict_numbers answer) → (kind : ModuleKind) × (content : Content) × FileOf (module_format kind) content file
  check_acceptable b a = demand₂.check.acceptable file b (subst Accepts reported a)

  -- and a refusal is the reading's, with all other numbers 0
  pub check_refuses : (r : Refusal) → read_file file ≡ refused r → verdict_numbers answer ≡ r.number ∷ r.place ∷ 0 ∷ 0 ∷ 0 ∷ 0 ∷ 0 ∷ []
  check_refuses r e = reported ∙ demand₂.check.refused_so file r e

  -- No second answer fits
  pub check_once : (other : Result Module code.Refusal) → other ≡ outcome code_module (checking file) → answer ≡ other
  check_once other e = met ∙ sym e
