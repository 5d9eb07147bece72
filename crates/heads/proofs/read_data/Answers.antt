-- `heads::read_data` meets its contract. Assumes nothing.
use mathlib.Core.Path.{ap, ◌∙◌}
use native.Mathlib.Omega.{arith}
use Rattle.refusal.specs.declared.Step.TheVariants.{Refused}
use Rattle.heads.proofs.SampleLaws.{data_cut, data_there}
use Rattle.heads.proofs.read_data.Goals as goal

pub returns-then-file-at : goal.returns-then-file-at
returns-then-file-at c =
    let a = c.args in
    ap Refused c.at.ensures
    ∙ data_cut a.file.now a.head a.size a.at c.sample_head-sample.ensures c.data_size-bytes.ensures (omega arith) (omega arith)

pub returns : goal.returns
returns c =
    let a = c.args in
    data_there a.file.now a.head a.size a.at c.sample_head-sample.ensures c.data_size-bytes.ensures (omega arith)
