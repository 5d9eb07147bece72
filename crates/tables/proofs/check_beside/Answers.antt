-- `tables::check_beside` meets its contract: its exits are the check's refusal, 14, and the two tables filled. Assumes nothing.
use mathlib.Core.Path.{◌≡◌, sym, ap, ◌∙◌}
use native.Mathlib.Omega.{arith}
use borrow.Author.Rules.{rules}
use Rattle.std.specs.Prelude.{Err}
use Rattle.tables.proofs.IntoLaws.{beside_refused, beside_cramped, Roomy, beside_roomy, beside_filled}
use Rattle.tables.proofs.check_beside.Goals as goal
use Rattle.tables.proofs.check_beside.Goals.{In_default}

pub returns-in_err-found : goal.returns-in_err-found
returns-in_err-found c =
    let a = c.args in
    let w = beside_refused a.file.now a.patterns.now a.instruments.now a.rows c.check.ensures c.in_err-found.was in
    let passed : c.from_residual.result ≡ c.check.result = search rules in
    record { answer = passed ∙ w.answers; patterns = w.leaves_patterns; instruments = w.leaves_instruments }

pub returns-in-Err : goal.returns-in-Err
returns-in-Err c =
    let a = c.args in
    let w = beside_cramped a.file.now a.patterns.now a.instruments.now a.rows
    (sym c.in_ok-found.was ∙ c.check.ensures) (sym c.room_tests.ensures ∙ c.in-Err.is) in
    record { answer = ap Err c.at.ensures ∙ w.answers; patterns = w.leaves_patterns; instruments = w.leaves_instruments }

-- There is room, so that the tables can be filled
roomy : (t : In_default) →
    let a = t.args in
    Roomy a.file.now a.patterns.now a.instruments.now a.rows (sym t.in_ok-found.was ∙ t.check.ensures)
roomy t =
    let a = t.args in
    beside_roomy a.file.now a.patterns.now a.instruments.now a.rows (sym t.in_ok-found.was ∙ t.check.ensures) (sym t.room_tests.ensures ∙ t.in_default.is)

pub invariant_of-accepted : goal.invariant_of-accepted
invariant_of-accepted c = record {
  sound = (roomy (goal.at.invariant_of-accepted c).In_default).accepts;
  plain = record { below = λ i. omega (arith, c.type_inv.file i) };
}

pub fill_patterns-start-requires : goal.fill_patterns-start-requires
fill_patterns-start-requires c = (roomy (goal.at.fill_patterns-start-requires c).In_default).for_patterns

pub fill_instruments-requires-clause-file_in_bounds : goal.fill_instruments-requires-clause-file_in_bounds
fill_instruments-requires-clause-file_in_bounds c =
    (roomy (goal.at.fill_instruments-requires-clause-file_in_bounds c).In_default).for_instruments

pub returns : goal.returns
returns c =
    let a = c.args in
    let w = beside_filled a.file.now a.patterns.now a.instruments.now a.rows
    (sym c.in_ok-found.was ∙ c.check.ensures) (sym c.room_tests.ensures ∙ c.in_default.is)
    c.fill_patterns-start.ensures.table c.fill_instruments.ensures in
    record { answer = w.answers; patterns = w.leaves_patterns; instruments = w.leaves_instruments }
