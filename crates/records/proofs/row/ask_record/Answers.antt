-- `records::row::ask_record` meets its contract. Assumes nothing.
use mathlib.Core.Path.{ap, ◌∙◌}
use Rattle.std.specs.Prelude.{Err}
use Rattle.records.proofs.RecordsLaws.{none_given}
use Rattle.records.proofs.row.ask_record.Goals as goal

pub returns-in_default : goal.returns-in_default
returns-in_default c = ap Err c.at.ensures ∙ none_given _ c.in_default.is
