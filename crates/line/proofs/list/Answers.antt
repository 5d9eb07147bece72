-- `line::list` meets its contract: the law of each exit; and a line has room for these numbers. Assumes nothing.
use Rattle.std.proofs.Common.{rules, arith, ◌≡◌, [], ◌∷◌, sym, ap, ◌∙◌}
use Rattle.std.specs.Prelude.{Err}
use Rattle.structures.proofs.HandingLaws.{plain}
use Rattle.line.proofs.Put.{numbered_few}
use Rattle.line.proofs.Exits.{over_line, check_refused, count_refused, all_counted}
use Rattle.line.proofs.list.Goals as goal

pub returns-then-input-gt-LISTED_MOST-clause-answer : goal.returns-then-input-gt-LISTED_MOST-clause-answer
returns-then-input-gt-LISTED_MOST-clause-answer c = ap Err c.at.ensures ∙ over_line c.args.input.now (omega arith)

pub returns-in_err-found-clause-answer : goal.returns-in_err-found-clause-answer
returns-in_err-found-clause-answer c =
    let passed : c.from_residual.result ≡ Err c.in_err-found.field-0.0 = search rules in
    passed ∙ check_refused c.args.input.now (omega arith) (sym c.in_err-found.was ∙ c.check-verdict.ensures)

pub returns-in_err-counts-clause-answer : goal.returns-in_err-counts-clause-answer
returns-in_err-counts-clause-answer c =
    let passed : c.from_residual-in_err-counts.result ≡ Err c.in_err-counts.field-0.0 = search rules in
    passed ∙ count_refused c.args.input.now (omega arith) (sym c.in_err-counts.was ∙ c.count_from.ensures)

pub returns-clause-answer : goal.returns-clause-answer
returns-clause-answer c =
    all_counted c.args.input.now (omega arith) (plain c.type_inv.input) (sym c.in_ok-found.was ∙ c.check-verdict.ensures) (sym c.in_ok-counts.was ∙ c.count_from.ensures)

pub returns-clause-short : goal.returns-clause-short
returns-clause-short c =
    let found = c.in_ok-found.found in
    let counts = c.in_ok-counts.counts in
    omega (
      arith,
      numbered_few (found.end ∷ found.channels ∷ counts.patterns ∷ counts.instruments ∷ counts.samples ∷ [])
          (omega arith, (omega arith, (omega arith, (omega arith, (omega arith, tt))))),
    )
