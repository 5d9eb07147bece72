-- `records::row::record_stretch` meets its contract. Assumes nothing.
use Rattle.asking.proofs.AskLaws.{asked_inside}
use Rattle.records.proofs.row.record_stretch.Goals as goal

pub asked_stretch-requires : goal.asked_stretch-requires
asked_stretch-requires c = asked_inside c.args.file.now _ 0 _ c.ask_record.ensures
