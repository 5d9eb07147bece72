-- `heads::read_samples` meets its contract: the headers' refusal, or the answer over the data. Assumes nothing.
use mathlib.Core.Path.{sym, ◌∙◌}
use native.Mathlib.Omega.{arith}
use Rattle.heads.proofs.SampleLaws.{samples_out, samples_on, heads_behind}
use Rattle.heads.proofs.read_samples.Goals as goal

pub returns-in_default : goal.returns-in_default
returns-in_default c =
    let a = c.args in
    samples_out a.file.now a.at a.size a.count c.read_heads-step.ensures c.in_default.is

pub read_all_data-requires-clause-at_in_bounds : goal.read_all_data-requires-clause-at_in_bounds
read_all_data-requires-clause-at_in_bounds c =
    let behind = heads_behind c.args.file.now c.args.at c.args.size c.args.count
    (sym c.in-Given.is ∙ c.read_heads-step.ensures) in
    omega arith

pub returns : goal.returns
returns c =
    let a = c.args in
    c.read_all_data.ensures ∙ samples_on a.file.now a.at a.size a.count (sym c.in-Given.is ∙ c.read_heads-step.ensures)
