-- `tables::fill::put_three` meets its contract. Assumes nothing.
use Rattle.slices.proofs.Stores.{stored_three}
use Rattle.tables.proofs.fill.put_three.Goals as goal

pub returns : goal.returns
returns c = stored_three _ _ _ _ _ c.requires
