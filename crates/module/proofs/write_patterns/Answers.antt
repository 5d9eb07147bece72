-- `module::write_patterns` meets its contract: the patterns that are left are still to be laid. Assumes nothing.
use native.Mathlib.Omega.{arith}
use lib.ListN.{length-drop}
use Rattle.xm.proofs.Lay.{part_all}
use Rattle.module.proofs.LoopLaws.{pattern_told, head_there, next_there, pattern_room, patterns_more, patterns_done}
use Rattle.module.proofs.write_patterns.Goals as goal

pub write_pattern-written-requires-clause-told : goal.write_pattern-written-requires-clause-told
write_pattern-written-requires-clause-told c =
    pattern_told _ _ _ _ _ _ c.loop-number.invariant c.loop-number-test.true c.mark_at.ensures c.try_from.ensures c.unwrap_or-mark.ensures

pub write_pattern-written-requires-clause-at_in_bounds : goal.write_pattern-written-requires-clause-at_in_bounds
write_pattern-written-requires-clause-at_in_bounds c =
    let room = pattern_room _ _ _ _ _ _ c.loop-number.invariant c.loop-number-test.true in
    rw (part_all, length-drop) (omega (arith, room))

pub pattern_head-head-requires : goal.pattern_head-head-requires
pattern_head-head-requires c = head_there _ _ _ _ _ _ c.loop-number.invariant c.loop-number-test.true

pub overflow_add-place : goal.overflow_add-place
overflow_add-place c =
    omega (arith, next_there _ _ _ _ _ _ c.loop-number.invariant c.loop-number-test.true c.pattern_head-head.ensures, c.well_formed)

pub loop-number-preserved : goal.loop-number-preserved
loop-number-preserved c =
    patterns_more _ _ _ _ _ _ c.loop-number.invariant c.loop-number-test.true c.pattern_head-head.ensures
    c.write_pattern-written.ensures.value c.write_pattern-written.ensures.out_after

pub returns-clause-out_after : goal.returns-clause-out_after
returns-clause-out_after c = let d = patterns_done _ _ _ _ _ _ c.loop-number.invariant c.loop-number-test.false in d.2
