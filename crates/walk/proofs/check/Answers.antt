-- `walk::check` meets its contract: the refusal of the size or the header, a pattern's, an instrument's, or the whole file. Assumes nothing.
use mathlib.Core.Path.{◌≡◌, sym, ◌∙◌}
use native.Mathlib.Omega.{arith}
use Rattle.xm.specs.Number.{Bytes}
use Rattle.xm.specs.Header.{kind_at, header_format}
use Rattle.xm.specs.Module.{read_whole}
use Rattle.refusal.specs.Refusal.{step_by}
use Rattle.refusal.specs.declared.Step.TheVariants.{Given}
use Rattle.refusal.proofs.Steps.{step_refused, place_refused}
use Rattle.steps.specs.Step.{header_given}
use Rattle.walk.specs.File.{count_given}
use Rattle.walk.proofs.FileLaws.{check_refuses, header_out, HeaderTold, header_told, patterns_out, PatternsAt, patterns_tried}
use Rattle.walk.proofs.FileLaws.{patterns_told, instruments_out, check_accepted}
use Rattle.walk.proofs.check.Goals as goal
use Rattle.walk.proofs.check.Goals.{In-Given, In-Given-first}

plain : (t : In-Given) → Bytes t.args.file.now
plain t = record { below = λ i. omega (arith, t.type_inv.file i) }

-- The header was read, and then the patterns were tried
headed : (t : In-Given) →
    let file = t.args.file.now in
    Given t.in-Given.head ≡ step_by header_given (read_whole (header_format (kind_at file)) file)
headed t = sym t.in-Given.is ∙ t.begin-step.ensures

header-given : (t : In-Given) → HeaderTold t.args.file.now (headed t)
header-given t = header_told _ (headed t) (plain t)

tried : (u : In-Given-first) →
    PatternsAt u.args.file.now (headed (goal.at.In-Given-first u).In-Given) u.in-Given-first.next
tried u = patterns_tried _ (headed (goal.at.In-Given-first u).In-Given) (sym u.in-Given-first.is ∙ u.scan_patterns-first.ensures)

pub returns-in_default : goal.returns-in_default
returns-in_default c =
    check_refuses _
    (header_out _ (step_refused header_given _ c.begin-step.ensures c.in_default.is c.refusal.ensures))

pub invariant_of-channels : goal.invariant_of-channels
invariant_of-channels c = let t = header-given c in record { in_range = (t.low, t.high) }

pub scan_patterns-first-requires : goal.scan_patterns-first-requires
scan_patterns-first-requires c = (header-given (goal.at.scan_patterns-first-requires c).In-Given).start

pub returns-in_default-first : goal.returns-in_default-first
returns-in_default-first c =
    check_refuses _ (patterns_out _ (headed (goal.at.returns-in_default-first c).In-Given)
    (place_refused _ _ c.scan_patterns-first.ensures c.in_default-first.is c.refusal-in_default-first.ensures))

pub count_instruments-last-requires : goal.count_instruments-last-requires
count_instruments-last-requires c =
    record { at_in_bounds = (patterns_told _ (headed (goal.at.count_instruments-last-requires c).In-Given) (tried c) (plain (goal.at.count_instruments-last-requires c).In-Given)).inside; count_bound = (header-given (goal.at.count_instruments-last-requires c).In-Given).few }

pub returns-in_default-last : goal.returns-in_default-last
returns-in_default-last c =
    check_refuses _ (instruments_out _ (headed (goal.at.returns-in_default-last c).In-Given) (tried (goal.at.returns-in_default-last c).In-Given-first)
    (step_refused (count_given _) _ c.count_instruments-last.ensures c.in_default-last.is c.refusal-in_default-last.ensures))

pub returns : goal.returns
returns c =
    check_accepted _ (headed (goal.at.returns c).In-Given) (tried (goal.at.returns c).In-Given-first)
    (sym c.in-Given-last.is ∙ c.count_instruments-last.ensures) (omega arith) (omega arith) (omega arith) (omega arith)
    (omega arith)
