-- `heads::read_heads` meets its contract. The loop's invariant: so many headers are read, and the place stands behind them. Assumes nothing.
use mathlib.Core.Path.{sym, ◌∙◌}
use native.Mathlib.Omega.{arith}
use Rattle.heads.proofs.SampleLaws.{heads_start, heads_on, heads_out, heads_end}
use Rattle.heads.proofs.read_heads.Goals as goal

pub loop-init : goal.loop-init
loop-init c = heads_start _ _ _ _

pub returns-in_default : goal.returns-in_default
returns-in_default c =
    let l = c.loop in
    let a = c.args in
    heads_out a.file.now a.at a.size a.count l.invariant (omega arith) c.read_head-step.ensures c.in_default.is

pub loop-preserved : goal.loop-preserved
loop-preserved c =
    let l = c.loop in
    let a = c.args in
    heads_on a.file.now a.at a.size a.count l.invariant (omega arith)
    (sym c.in-Given.is ∙ c.read_head-step.ensures)

pub returns : goal.returns
returns c = let a = c.args in heads_end a.file.now a.at a.size a.count c.loop.invariant (omega arith)
