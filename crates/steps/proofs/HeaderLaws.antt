-- Laws of the header step. Assumes nothing.
use mathlib.Core.List.{List}
use mathlib.Core.Path.{◌≡◌, refl}
use native.Mathlib.Omega.{arith}
use Rattle.std.specs.Prelude.{ℕ, Err}
use Rattle.xm.specs.ModuleKind.{ModuleKind}
use Rattle.xm.specs.Got.{got, refused, AllHold, ◌at◌}
use Rattle.xm.specs.Header.{header_end, header_of, header_tests, read_header}
use Rattle.xm.proofs.Got.{pass}
use Rattle.refusal.specs.Test.{number_of, tested}
use Rattle.refusal.specs.declared.Cause.{Cause}
use Rattle.refusal.proofs.TestLaws.{tested_refuses}

-- The tests decide
module _ (kind : ModuleKind) (file : List ℕ) where
  pub header_fails : {cause : Cause} → tested (header_tests kind 0 file) ≡ Err cause → read_header kind 0 file ≡ refused (number_of cause at 0)
  unfolding read_header
  header_fails e = tested_refuses 0 (header_tests kind 0 file) _ (omega arith) e

  pub header_passes : AllHold (header_tests kind 0 file)
      → read_header kind 0 file ≡ got (record { kind = kind; place = 0; size = header_end file; content = header_of kind file }) (header_end file)
  unfolding read_header
  header_passes h = pass (header_tests kind 0 file) h refl
