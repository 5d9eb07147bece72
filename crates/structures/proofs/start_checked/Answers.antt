-- `structures::start_checked` meets its contract. Assumes nothing.
use Rattle.std.proofs.Common.{rules, ◌≡◌, sym, ◌∙◌}
use Rattle.std.specs.Prelude.{Err}
use Rattle.rows.proofs.Reading.{accepted-header}
use Rattle.structures.proofs.HandingLaws.{start_refused, start_accepted, start_reached}
use Rattle.structures.proofs.start_checked.Goals as goal

pub returns-in_err-verdict : goal.returns-in_err-verdict
returns-in_err-verdict c =
    let passed : c.from_residual.result ≡ Err c.in_err-verdict.field-0.0 = search rules in
    passed ∙ start_refused _ (sym c.in_err-verdict.was ∙ c.requires)

pub header_part-counts-requires : goal.header_part-counts-requires
header_part-counts-requires c = (accepted-header _ (start_accepted _ (sym c.in_ok-verdict.was ∙ c.requires))).0

pub returns : goal.returns
returns c = start_reached _ (sym c.in_ok-verdict.was ∙ c.requires) c.header_part-counts.ensures
