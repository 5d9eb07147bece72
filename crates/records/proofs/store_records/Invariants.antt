-- After so many turns the rows have that many records in front, and the sample sought is the one of that number.
use Rattle.std.proofs.Common.{◌≡◌, ◌<◌, take}
use Rattle.xm.specs.Answer.{in_front}
use Rattle.rows.specs.Sought.{Seeks}
use Rattle.records.specs.Records.{records_in}
use Rattle.records.proofs.store_records.Given as goal

abbrev pub invariant-loop-number : goal.invariant-loop-number
invariant-loop-number l =
    (l.samples ≡ in_front (take l.number (records_in l.file)) l.initial.samples)
    × (l.from.number ≡ l.number)
    × (l.number < l.count → Seeks l.file l.from)
