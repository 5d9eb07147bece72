-- `tables::check_into` meets its contract: its exits are a refusal, and the samples' tables filled. Assumes nothing.
use native.Mathlib.Omega.{arith}
use Rattle.tables.proofs.IntoLaws.{into_refused, into_roomy, into_filled}
use Rattle.tables.proofs.check_into.Goals as goal

pub returns-in_err-found-clause-memory : goal.returns-in_err-found-clause-memory
returns-in_err-found-clause-memory c =
    let a = c.args in
    let w = into_refused a.file.now a.patterns.now a.instruments.now a.samples.now a.tunes.now
    c.rows_lent-rows.ensures (record { answers = c.check_beside.ensures.answer; leaves_patterns = c.check_beside.ensures.patterns; leaves_instruments = c.check_beside.ensures.instruments })
    c.in_err-found.was in
    w.leaves

pub fill_samples-requires : goal.fill_samples-requires
fill_samples-requires c =
    let a = c.args in
    let w = into_roomy a.file.now a.patterns.now a.instruments.now a.samples.now a.tunes.now
    c.rows_lent-rows.ensures (record { answers = c.check_beside.ensures.answer; leaves_patterns = c.check_beside.ensures.patterns; leaves_instruments = c.check_beside.ensures.instruments })
    c.in_ok-found.was (record { below = λ i. omega (arith, c.type_inv.file i) }) in
    record { instruments_from = λ some. rw c.first_number-start.ensures (w.start some); count_value = w.count; file_in_bounds = w.for_samples; file_in_bounds_2 = w.for_tunes }

pub returns-clause-memory : goal.returns-clause-memory
returns-clause-memory c =
    let a = c.args in
    let w = into_filled a.file.now a.patterns.now a.instruments.now a.samples.now a.tunes.now
    c.rows_lent-rows.ensures (record { answers = c.check_beside.ensures.answer; leaves_patterns = c.check_beside.ensures.patterns; leaves_instruments = c.check_beside.ensures.instruments })
    c.in_ok-found.was c.fill_samples.ensures.table_after c.fill_samples.ensures.tunes_after in
    w.leaves
