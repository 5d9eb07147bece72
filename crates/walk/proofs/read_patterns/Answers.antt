-- `walk::read_patterns` meets its contract. The loop's invariant: so many patterns are read, their pressed forms are measured, and they are marked.
-- Assumes nothing.
use Prim.Native.Nat.{◌+◌}
use mathlib.Core.Path.{sym, ◌∙◌}
use native.Mathlib.Omega.{arith}
use Rattle.walk.proofs.RunLaws.{PatternsRead, patterns_start, patterns_on, patterns_out, patterns_end}
use Rattle.walk.proofs.read_patterns.Goals as goal
use Rattle.walk.proofs.read_patterns.Goals.{After-put_mark}

-- One more is read and marked
measured-more : (p : After-put_mark) →
    let a = p.args in
    let part = p.in-Given.part in
    PatternsRead a.file.now a.at a.channels.count a.count (p.loop-done.done + 1) part.next (p.loop-done.pressed + (9 + part.shortest))
    p.put_mark.new.marks
measured-more p =
    patterns_on _ _ _ _ p.loop-done.invariant p.loop-done-test.true
    (record { below = λ i. omega (arith, p.type_inv.file i) }) (omega arith)
    (sym p.in-Given.is ∙ p.read_pattern-step.ensures) p.mark_of.ensures p.number.ensures p.put_mark.ensures

pub loop-done-init : goal.loop-done-init
loop-done-init c = patterns_start _ _ _ _ _ c.requires.at_in_bounds

pub returns-in_default : goal.returns-in_default
returns-in_default c =
    let l = c.loop-done in
    let both = patterns_out _ _ _ _ l.invariant c.loop-done-test.true c.read_pattern-step.ensures c.in_default.is
    c.refusal.ensures in
    record { answer = both.0; marked = both.1 }

pub overflow_add-pressed : goal.overflow_add-pressed
overflow_add-pressed c = let w = measured-more (goal.at.overflow_add-pressed c).After-put_mark in omega (arith, w.inside, w.short)

pub overflow_add-pressed-in-loop-done : goal.overflow_add-pressed-in-loop-done
overflow_add-pressed-in-loop-done c =
    let w = measured-more (goal.at.overflow_add-pressed-in-loop-done c).After-put_mark in omega (arith, w.inside, w.short)

pub loop-done-preserved : goal.loop-done-preserved
loop-done-preserved c = measured-more (goal.at.loop-done-preserved c).After-put_mark

pub returns : goal.returns
returns c =
    let both = patterns_end _ _ _ _ c.loop-done.invariant c.loop-done-test.false in
    record { answer = both.0; marked = both.1 }
