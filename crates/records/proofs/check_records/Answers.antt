-- `records::check_records` meets its contract: what is counted fits, and so many records are stored. Assumes nothing.
use Rattle.std.proofs.Common.{sym, ◌∙◌}
use Rattle.records.proofs.RecordsLaws.{count_fits, told_stored}
use Rattle.records.proofs.check_records.Goals as goal

pub store_records-requires : goal.store_records-requires
store_records-requires c =
    let a = c.args in
    count_fits a.file.now a.patterns.now a.instruments.now a.samples.now (sym c.in_ok-found.was ∙ c.check_beside.ensures.answer)

pub returns : goal.returns
returns c =
    let a = c.args in
    let e = c.check_beside.ensures in
    let t = told_stored a.file.now a.patterns.now a.instruments.now a.samples.now (sym c.in_ok-found.was ∙ e.answer) e.patterns e.instruments c.store_records.ensures in
    (t.answers, t.leaves_patterns, t.leaves_instruments, t.leaves_records)
