-- `rows::place::first_instrument` meets its contract. The loop's invariant: so many patterns are still to be stepped over. Assumes nothing.
use mathlib.Core.Path.{ap}
use native.Mathlib.Omega.{arith}
use Rattle.rows.proofs.Reading.{accepted-header}
use Rattle.rows.proofs.PlaceLoops.{skipping_start, skipping_room, skipping_on, skipping_left}
use Rattle.steps.specs.declared.header.HeaderPart.{HeaderPart}
use Rattle.rows.proofs.place.first_instrument.Goals as goal

pub header_part-counts-requires : goal.header_part-counts-requires
header_part-counts-requires c = (accepted-header _ c.args.accepted.sound).0

pub loop-init : goal.loop-init
loop-init c = let e = c.header_part-counts.ensures in rw (ap HeaderPart.patterns e, ap HeaderPart.start e) (_, skipping_left _ (skipping_start _ c.args.accepted.sound) (omega arith))

pub pattern_head-pattern-requires : goal.pattern_head-pattern-requires
pattern_head-pattern-requires c = skipping_room _ c.loop.invariant.1 (omega (arith, c.loop-test.true))

pub overflow_add-place : goal.overflow_add-place
overflow_add-place c =
    let w = c.loop.invariant.1 in
    skipping_on _ w (omega (arith, c.loop-test.true)) c.pattern_head-pattern.ensures λ i more ep es en fits rest. omega (arith, w.small, fits.inside)

pub loop-preserved : goal.loop-preserved
loop-preserved c =
    skipping_on _ c.loop.invariant.1 (omega (arith, c.loop-test.true)) c.pattern_head-pattern.ensures
    λ i more ep es en fits rest. (more, skipping_left _ rest (omega arith))
