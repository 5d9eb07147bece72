-- `tables::fill::fill_patterns` meets its contract. The loop's invariant: the numbers of the patterns that are left are still to be laid.
-- Assumes nothing.
use mathlib.Core.Path.{ap}
use native.Mathlib.Omega.{arith}
use Rattle.steps.specs.declared.header.HeaderPart.{HeaderPart}
use Rattle.rows.proofs.Reading.{accepted-header}
use Rattle.rows.proofs.PlaceLoops.{skipping_room}
use Rattle.tables.proofs.FillLaws.{patterns_start, patterns_fit, patterns_room, patterns_on, patterns_done}
use Rattle.tables.proofs.fill.fill_patterns.Goals as goal

pub header_part-counts-requires : goal.header_part-counts-requires
header_part-counts-requires c = (accepted-header _ c.args.accepted.sound).0

pub loop-number-init : goal.loop-number-init
loop-number-init c =
    let e = c.header_part-counts.ensures in
    rw (ap HeaderPart.start e) (patterns_start _ _ c.args.accepted.sound c.requires (omega (arith, ap HeaderPart.patterns e)))

pub pattern_head-pattern-requires : goal.pattern_head-pattern-requires
pattern_head-pattern-requires c = skipping_room _ c.loop-number.invariant.skipping (omega (arith, c.loop-number-test.true))

pub overflow_cast-pattern : goal.overflow_cast-pattern
overflow_cast-pattern c =
    let w = c.loop-number.invariant in
    let f = patterns_fit _ _ w (omega (arith, c.loop-number-test.true)) c.pattern_head-pattern.ensures in
    omega (arith, f.inside, w.skipping.small)

pub overflow_cast-pattern-in-loop-number : goal.overflow_cast-pattern-in-loop-number
overflow_cast-pattern-in-loop-number c =
    let w = c.loop-number.invariant in
    let f = patterns_fit _ _ w (omega (arith, c.loop-number-test.true)) c.pattern_head-pattern.ensures in
    omega (arith, f.inside, w.skipping.small)

pub overflow_cast-pattern-in-loop-number-2 : goal.overflow_cast-pattern-in-loop-number-2
overflow_cast-pattern-in-loop-number-2 c =
    let f = patterns_fit _ _ c.loop-number.invariant (omega (arith, c.loop-number-test.true)) c.pattern_head-pattern.ensures in
    omega (arith, f.few)

pub put_three-requires : goal.put_three-requires
put_three-requires c =
    patterns_room _ _ c.loop-number.invariant (omega (arith, c.loop-number-test.true)) c.pattern_head-pattern.ensures

pub overflow_add-place : goal.overflow_add-place
overflow_add-place c =
    let w = c.loop-number.invariant in
    let f = patterns_fit _ _ w (omega (arith, c.loop-number-test.true)) c.pattern_head-pattern.ensures in
    omega (arith, f.inside, w.skipping.small)

pub loop-number-preserved : goal.loop-number-preserved
loop-number-preserved c =
    patterns_on _ _ c.loop-number.invariant (omega (arith, c.loop-number-test.true)) c.pattern_head-pattern.ensures c.put_three.ensures (omega arith) (omega arith)

pub returns-clause-table : goal.returns-clause-table
returns-clause-table c = let w = c.loop-number.invariant in patterns_done _ _ w (omega (arith, c.loop-number-test.false))
