-- `heads::cut_fields` meets its contract: the fields of what is there, filled up with zeros. Assumes nothing.
use mathlib.Core.List.{List}
use mathlib.Core.Path.{subst}
use Prim.Native.Nat.{ℕ}
use Rattle.heads.specs.Sample.{HeadAt}
use Rattle.heads.proofs.SampleLaws.{cut_filled}
use Rattle.heads.proofs.cut_fields.Goals as goal

pub returns : goal.returns
returns c =
    let filled = cut_filled c.args.file.now c.args.at c.args.size c.requires.size_le_fields_end c.copy.ensures in
    subst (λ (bytes : List ℕ). HeadAt bytes c.fields_at.result) filled c.fields_at.ensures
