-- `steps::instrument::instrument_head` meets its contract: as its own I cuts them, a normal one's fields are all there. Assumes nothing.
use Rattle.xm.specs.Header.{kind_at}
use lib.ListN.{drop}
use Rattle.steps.proofs.InstrumentLaws.{head_bare, head_full}
use Rattle.steps.proofs.instrument.instrument_head.Goals as goal
use Rattle.steps.proofs.instrument.instrument_head.Goals.{then-samples-eq0, else-samples-eq0}

pub returns : goal.returns
returns c =
    let a = c.args in
    let s = drop a.at a.file.now in
    elim c.if-samples-eq0.branch [
      | then-samples-eq0 w ↦ cc (w.head_size-is, head_bare a.at s c.read-size.ensures.value (kind_at a.file.now) c.requires c.read_in-samples.ensures w.if-samples-eq0.true)
      | else-samples-eq0 w ↦
          cc (w.head_size-is, head_full a.at s c.read-size.ensures.value (kind_at a.file.now) c.requires c.read_in-samples.ensures w.if-samples-eq0.false w.read_in-head_size.ensures)
    ]
