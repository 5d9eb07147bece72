-- `module::has_tracker` meets its contract: by the file's own kind. Assumes nothing.
use mathlib.Core.Path.{refl}
use Rattle.module.proofs.ModuleLaws.{normal_own, stripped_own}
use Rattle.module.proofs.has_tracker.Goals as goal

pub returns-in-Normal : goal.returns-in-Normal
returns-in-Normal c = rw (normal_own c.args.file.now c.in-Normal.ensures) refl

pub returns-in-Stripped : goal.returns-in-Stripped
returns-in-Stripped c = rw (stripped_own c.args.file.now c.in-Stripped.ensures) refl
