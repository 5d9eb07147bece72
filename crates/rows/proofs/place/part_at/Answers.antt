-- `rows::place::part_at` meets its contract: the step's numbers stand in the fields, and behind them the data end. Assumes nothing.
use native.Mathlib.Omega.{arith}
use Rattle.rows.proofs.InstrumentLaws.{accepted_tests, accepted-stands, accepted-part}
use Rattle.rows.proofs.place.part_at.Goals as goal

pub instrument_head-head-requires : goal.instrument_head-head-requires
instrument_head-head-requires c =
    accepted_tests c.args.file.now c.args.place c.requires.file_len_bound (record { below = λ i. omega (arith, c.type_inv.file i) }) c.requires.file_value

pub data_end-next-requires : goal.data_end-next-requires
data_end-next-requires c =
    accepted-stands c.args.file.now c.args.place c.requires.file_len_bound (record { below = λ i. omega (arith, c.type_inv.file i) }) c.requires.file_value c.instrument_head-head.ensures

pub returns : goal.returns
returns c =
    let head = c.instrument_head-head.ensures in
    accepted-part c.args.file.now c.args.place c.requires.file_len_bound (record { below = λ i. omega (arith, c.type_inv.file i) }) c.requires.file_value head c.data_end-next.ensures (omega arith)
