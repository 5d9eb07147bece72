-- `writers::pattern::write_pattern` meets its contract: its stored form again, and its header in front. Assumes nothing.
use mathlib.Core.Path.{refl, ap, ◌∙◌}
use native.Mathlib.Omega.{arith}
use lib.ListN.{length-drop}
use Rattle.xm.proofs.Lay.{part_all}
use Rattle.steps.specs.declared.pattern.PatternHead.{PatternHead}
use Rattle.writers.proofs.PatternLaws.{head_inside, PatternLies, pattern_lies}
use Rattle.writers.proofs.pattern.write_pattern.Goals as goal
use Rattle.writers.proofs.pattern.write_pattern.Goals.{After-pattern_head-head}

-- Where the pattern lies, by its header
lies : (c : After-pattern_head-head) → (let a = c.args in let h = c.pattern_head-head.ensures in
    PatternLies a.file.now a.at a.channels.count a.mark (ap (λ (p : PatternHead). p.place) h) (ap (λ (p : PatternHead). p.rows) h) (ap (λ (p : PatternHead). p.size) h))
lies c =
    let a = c.args in
    pattern_lies a.file.now a.at a.channels.count a.mark _ _ _ c.requires.told
    (record { below = λ i. omega (arith, c.type_inv.file i) }) a.channels.in_range.0 a.channels.in_range.1

pub pattern_head-head-requires : goal.pattern_head-head-requires
pattern_head-head-requires c =
    let a = c.args in omega (arith, head_inside a.file.now a.at a.channels.count a.mark refl refl refl c.requires.told)

pub overflow_add-end : goal.overflow_add-end
overflow_add-end c = omega (arith, (lies (goal.at.overflow_add-end c).After-pattern_head-head).there, c.well_formed)

pub slice_bounds-write_stored-end : goal.slice_bounds-write_stored-end
slice_bounds-write_stored-end c = omega (arith, (lies (goal.at.slice_bounds-write_stored-end c).After-pattern_head-head).there)

pub slice_bounds-write_stored-count-2 : goal.slice_bounds-write_stored-count-2
slice_bounds-write_stored-count-2 c =
    omega (arith, (lies (goal.at.slice_bounds-write_stored-count-2 c).After-pattern_head-head).long, c.requires.at_in_bounds)

pub slice_bounds-write_stored-start-2 : goal.slice_bounds-write_stored-start-2
slice_bounds-write_stored-start-2 c =
    omega (arith, (lies (goal.at.slice_bounds-write_stored-start-2 c).After-pattern_head-head).long, c.requires.at_in_bounds)

pub write_stored-shortest-requires : goal.write_stored-shortest-requires
write_stored-shortest-requires c =
    let l = lies (goal.at.write_stored-shortest-requires c).After-pattern_head-head in
    record { known = l.known; stored_in_bounds = rw (part_all, length-drop) (omega (arith, l.long, c.requires.at_in_bounds)) }

pub write_head-requires : goal.write_head-requires
write_head-requires c =
    let l = lies (goal.at.write_head-requires c).After-pattern_head-head in
    record { rows_le_rows_most = l.rows_high; size_le_data_most = omega (arith, c.write_stored-shortest.ensures.value, l.size_high); in_bounds = omega (arith, l.long, c.requires.at_in_bounds) }

pub returns : goal.returns
returns c =
    let l = lies (goal.at.returns c).After-pattern_head-head in
    let a = c.args in
    record { value = omega (arith, l.long, c.write_stored-shortest.ensures.value); out_after = c.write_head.ensures ∙ l.written c.write_stored-shortest.ensures.value a.out.now (omega (arith, l.long, c.requires.at_in_bounds)) c.write_stored-shortest.ensures.out_after }
