-- `steps::kind::ModuleKind::of` meets its contract: by the mark, and where it is 0 by the version. Assumes nothing.
use Rattle.steps.proofs.KindLaws.{both_zero, mark_above, version_above}
use Rattle.steps.proofs.kind.ModuleKind.of.Goals as goal

pub returns-then-mark-ne0 : goal.returns-then-mark-ne0
returns-then-mark-ne0 c = mark_above c.args.file.now c.read_in-mark.ensures c.if-mark-ne0.true

pub returns-then-version-eq0 : goal.returns-then-version-eq0
returns-then-version-eq0 c = both_zero c.args.file.now c.read_in-mark.ensures c.read_in-version.ensures c.if-mark-ne0.false c.if-version-eq0.true

pub returns-else-version-eq0 : goal.returns-else-version-eq0
returns-else-version-eq0 c = version_above c.args.file.now c.read_in-mark.ensures c.read_in-version.ensures c.if-mark-ne0.false c.if-version-eq0.false
