-- `walk::walk` meets its contract: the refusal of the size or the header, a pattern's, an instrument's, or the whole file; and what a refusal
-- leaves unsaid, the loop over the patterns has said of their marks. Assumes nothing.
use Prim.Native.Nat.{ℕ, ◌+◌, ◌*◌, ◌≤◌}
use mathlib.Core.Path.{◌≡◌, sym, ap, ◌∙◌}
use native.Mathlib.Omega.{arith}
use Rattle.xm.specs.Number.{Bytes}
use Rattle.steps.specs.Kind.{kind_of}
use Rattle.xm.specs.Header.{least_header, kind_at, header_format}
use Rattle.xm.specs.Module.{file_most, read_whole}
use Rattle.refusal.specs.Refusal.{step_by}
use Rattle.refusal.specs.declared.Step.TheVariants.{Given}
use Rattle.refusal.proofs.Steps.{step_refused}
use Rattle.steps.specs.Step.{header_given}
use Rattle.xm.specs.PatternInFile.{pattern_format}
use Rattle.xm.specs.Instrument.{instrument_format}
use Rattle.walk.specs.File.{run_given, run_pressed}
use Rattle.walk.proofs.FileLaws.{walk_refuses, header_most, header_out, HeaderTold, header_told, patterns_out, PatternsRead, patterns_read}
use Rattle.walk.proofs.FileLaws.{PatternsTold, patterns_told, instruments_out, walk_accepted, walk_marked}
use Rattle.walk.proofs.walk.Goals as goal
use Rattle.walk.proofs.walk.Goals.{In-Given, In-Given-first, In-Given-last, After-least_header-size}

plain : (t : In-Given) → Bytes t.args.file.now
plain t = record { below = λ i. omega (arith, t.type_inv.file i) }

-- The header was read, and then the patterns
headed : (t : In-Given) →
    let file = t.args.file.now in
    Given t.in-Given.header ≡ step_by header_given (read_whole (header_format (kind_at file)) file)
headed t = sym t.in-Given.is ∙ t.begin-step.ensures

header-given : (t : In-Given) → HeaderTold t.args.file.now (headed t)
header-given t = header_told _ (headed t) (plain t)

patterned : (u : In-Given-first) →
    PatternsRead u.args.file.now (headed (goal.at.In-Given-first u).In-Given) u.in-Given-first.patterns
patterned u =
    patterns_read _ (headed (goal.at.In-Given-first u).In-Given) (sym u.in-Given-first.is ∙ u.read_patterns-first.ensures.answer)

ended : (u : In-Given-first) →
    PatternsTold u.args.file.now (headed (goal.at.In-Given-first u).In-Given) (patterned u).ended
ended u = patterns_told _ (headed (goal.at.In-Given-first u).In-Given) (patterned u).ended (plain (goal.at.In-Given-first u).In-Given)

-- How long its parts are at most: the header, the patterns and the instruments
header-size : (c : After-least_header-size) → c.least_header-size.result + 60 ≤ 65872
header-size c =
    omega (arith, c.least_header-size.ensures, c.read.ensures.small, header_most (kind_of c.args.kind) c.read.result)

patterns-size : (u : In-Given-first) → u.in-Given-first.patterns.pressed ≤ file_most
patterns-size u = omega (arith, (header-given (goal.at.In-Given-first u).In-Given).small, (patterned u).pressed, (ended u).pressed)

instruments-size : (v : In-Given-last) → v.in-Given-last.instruments.pressed ≤ 2 * file_most
instruments-size v = omega (arith, v.read_instruments-last.ensures.small, ap run_pressed v.in-Given-last.is)

pub returns-in_default : goal.returns-in_default
returns-in_default c =
    let both = walk_refuses _ _ _
    (header_out _ (step_refused header_given _ c.begin-step.ensures c.in_default.is c.refusal.ensures)) in
    record { answer = both.0; marked = both.1 }

pub read_patterns-first-requires-clause-at_in_bounds : goal.read_patterns-first-requires-clause-at_in_bounds
read_patterns-first-requires-clause-at_in_bounds c =
    let t = header-given (goal.at.read_patterns-first-requires-clause-at_in_bounds c).In-Given in
    t.start

pub invariant_of-channels : goal.invariant_of-channels
invariant_of-channels c = let t = header-given (goal.at.invariant_of-channels c).In-Given in record { in_range = (t.low, t.high) }

pub read_patterns-first-requires-clause-count_bound : goal.read_patterns-first-requires-clause-count_bound
read_patterns-first-requires-clause-count_bound c =
    let t = header-given (goal.at.read_patterns-first-requires-clause-count_bound c).In-Given in
    t.many

pub returns-in_default-first : goal.returns-in_default-first
returns-in_default-first c =
    let both = walk_refuses _ _ _ (patterns_out _ (headed (goal.at.returns-in_default-first c).In-Given)
    (step_refused (run_given pattern_format _) _ c.read_patterns-first.ensures.answer c.in_default-first.is c.refusal-in_default-first.ensures)) in
    record { answer = both.0; marked = both.1 }

pub read_instruments-last-requires : goal.read_instruments-last-requires
read_instruments-last-requires c =
    let t = header-given (goal.at.read_instruments-last-requires c).In-Given in record { at_in_bounds = (ended c).inside; file_len_bound = t.small; count_bound = t.few }

pub returns-in_default-last : goal.returns-in_default-last
returns-in_default-last c =
    let both = walk_refuses _ _ _ (instruments_out _ (headed (goal.at.returns-in_default-last c).In-Given) (patterned (goal.at.returns-in_default-last c).In-Given-first).ended
    (step_refused (run_given (instrument_format (kind_of c.args.kind)) _) _ c.read_instruments-last.ensures.answer c.in_default-last.is c.refusal-in_default-last.ensures)) in
    record { answer = both.0; marked = both.1 }

pub read-requires : goal.read-requires
read-requires c = omega (arith, (header-given (goal.at.read-requires c).In-Given).long)

pub overflow_add-result : goal.overflow_add-result
overflow_add-result c =
    omega (arith, header-size (goal.at.overflow_add-result c).After-least_header-size, patterns-size (goal.at.overflow_add-result c).In-Given-first)

pub overflow_add-result-2 : goal.overflow_add-result-2
overflow_add-result-2 c =
    omega (arith, header-size (goal.at.overflow_add-result-2 c).After-least_header-size, patterns-size (goal.at.overflow_add-result-2 c).In-Given-first, instruments-size (goal.at.overflow_add-result-2 c).In-Given-last)

pub returns : goal.returns
returns c =
    let a = c.args in
    let ps = patterned (goal.at.returns c).In-Given-first in
    let last = sym c.in-Given-last.is ∙ c.read_instruments-last.ensures.answer in
    let size = c.least_header-size.ensures ∙ ap (least_header (kind_of a.kind)) c.read.ensures.value in record { answer = walk_accepted _ (headed (goal.at.returns c).In-Given) ps.ended _ last (plain (goal.at.returns c).In-Given) (ap (λ (n : ℕ). n + 60) size) (omega (arith, ps.pressed)); marked = walk_marked _ (headed (goal.at.returns c).In-Given) ps.ended _ last _ c.read_patterns-first.ensures.marked }
