-- `line::put_line` meets its contract. Assumes nothing.
use mathlib.Core.Path.{refl}
use Rattle.line.proofs.Put.{put_whole}
use Rattle.line.proofs.put_line.Goals as goal

pub returns-clause-memory : goal.returns-clause-memory
returns-clause-memory c =
    (put_whole c.args.line.now c.args.text.now c.args.numbers.now c.requires refl c.copy.ensures
    (c.put_numbers.ensures.place, c.put_numbers.ensures.memory)).1.0
