-- Before a call so many structures are counted, and the reader has read just these. The measure is how many are left.
use Rattle.std.proofs.Common.{◌-◌, length}
use Rattle.xm.specs.Got.{list_in}
use Rattle.xm.specs.Module.{read_file}
use Rattle.xm.specs.Structure.{structures}
use Rattle.reader.specs.Count.{total}
use Rattle.reader.proofs.CountLaws.{Turned}
use Rattle.reader.proofs.count.count_from.Given as goal

abbrev pub invariant-loop-structure : goal.invariant-loop-structure
invariant-loop-structure l = Turned l.fn.file l.reader l.counts

abbrev pub decreases-loop-structure : goal.decreases-loop-structure
decreases-loop-structure l = length (list_in structures (read_file l.fn.file)) - total l.counts
