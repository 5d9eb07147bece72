-- What the check's verdict says of the reading. Assumes nothing.
use Prim.Native.Nat.{ℕ}
use Rattle.std.specs.Prelude.{Result, Ok, Err}
use mathlib.Core.List.{List}
use mathlib.Core.Path.{◌≡◌, refl, sym, ◌∙◌}
use native.Mathlib.Omega.{arith}
use Rattle.xm.specs.Got.{Got, got, refused}
use Rattle.xm.specs.Got as paper
use Rattle.xm.specs.Answer.{gives, answered}
use Rattle.xm.specs.Module.{Found, read_file}
use Rattle.xm.specs.Table.{checked_as, checking}
use Rattle.refusal.specs.Refusal.{code_refusal, outcome}
use Rattle.refusal.specs.declared.Refusal.{Refusal}
use Rattle.walk.specs.File.{code_module}
use Rattle.walk.specs.declared.Module.{Module}

-- An answer is one of the two, and tells what it is of
pub never : {A : Type 0} {x : Module} {f : Refusal} → Ok x ≡ Err f → A
never e = absurd (let z : ◌≡◌ {A = ℕ} 0 1 = cc in omega arith)

pub same_module : {one other : Module} → ◌≡◌ {A = Result Module Refusal} (Ok one) (Ok other) → one ≡ other
same_module e = cc

pub verdict_got : {R : Type 0} (file : List ℕ) {x : Module} → Ok x ≡ outcome code_module (checking file)
    → ((found : Found) (end : ℕ) → read_file file ≡ got found end → Ok x ≡ outcome code_module (gives (checked_as found end)) → R) → R
unfolding checking
verdict_got {R} file {x} e k = go (read_file file) refl e
  where
    go : (g : Got Found) → read_file file ≡ g → Ok x ≡ outcome code_module (answered checked_as g) → R
    go (got found end) q e = k found end q e
    go (refused r) q e = never e

pub verdict_refused : {R : Type 0} (file : List ℕ) {v : Result Module Refusal} {f : Refusal} → v ≡ outcome code_module (checking file) → v ≡ Err f
    → ((r : paper.Refusal) → read_file file ≡ refused r → v ≡ Err (code_refusal r) → R) → R
unfolding checking
verdict_refused {R} file {v} e told k = go (read_file file) refl e
  where
    go : (g : Got Found) → read_file file ≡ g → v ≡ outcome code_module (answered checked_as g) → R
    go (got found end) q e = never (sym e ∙ told)
    go (refused r) q e = k r q e
