-- `rows::place::data_end` meets its contract. The loop's invariant: so many samples are left to be stepped over. Assumes nothing.
use mathlib.Core.Path.{◌∙◌}
use native.Mathlib.Omega.{arith}
use Rattle.heads.proofs.SampleLaws.{head_size}
use Rattle.rows.proofs.PlaceLoops.{left_on, left_end, left_less}
use Rattle.rows.proofs.place.data_end.Goals as goal

pub loop-preserved : goal.loop-preserved
loop-preserved c =
    left_less _ _ _
    (left_on _ _ _ c.loop.invariant (omega (arith, c.loop-test.true)) (c.data_size-place.ensures ∙ head_size c.sample_head.ensures))
    (omega arith)

pub returns : goal.returns
returns c = left_end _ _ _ c.loop.invariant (omega (arith, c.loop-test.false))
