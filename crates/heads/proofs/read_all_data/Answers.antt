-- `heads::read_all_data` meets its contract. The loop's invariant: the data of so many samples are read, and the next header is known.
-- Assumes nothing.
use mathlib.Core.Path.{sym, ◌∙◌}
use Rattle.heads.proofs.SampleLaws.{data_start_lem, data_on, data_out, data_end_lem}
use Rattle.heads.proofs.read_all_data.Goals as goal

pub loop-number-init : goal.loop-number-init
loop-number-init c = data_start_lem _ _ _ _ _ c.requires.at_in_bounds

pub returns-in_default : goal.returns-in_default
returns-in_default c =
    data_out _ _ _ _ _ c.loop-number.invariant c.loop-number-test.true c.read_data-step.ensures
    c.in_default.is

pub loop-number-preserved : goal.loop-number-preserved
loop-number-preserved c =
    let l = c.loop-number in
    data_on _ _ _ _ _ l.invariant c.loop-number-test.true (sym c.in-Given.is ∙ c.read_data-step.ensures)

pub returns : goal.returns
returns c = data_end_lem _ _ _ _ _ c.loop-number.invariant c.loop-number-test.false
