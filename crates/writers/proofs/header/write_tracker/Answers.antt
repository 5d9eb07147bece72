-- `writers::header::write_tracker` meets its contract: the 20 bytes as they stand, or nulls. Assumes nothing.
use Prim.Native.Nat.{ℕ}
use mathlib.Core.List.{List}
use mathlib.Core.Path.{ap, ◌∙◌}
use Rattle.xm.specs.Answer.{in_front}
use Rattle.writers.proofs.Kept.{front_part}
use Rattle.writers.proofs.header.write_tracker.Goals as goal

pub returns-then-kept : goal.returns-then-kept
returns-then-kept c =
    let a = c.args in
    rw c.if-kept.true (c.copy_front.ensures ∙ ap (λ (name : List ℕ). in_front name a.out.now) (front_part 38 20 a.file.now))
