-- `mark::with_mark` meets its contract: no bit is shifted out. Assumes nothing.
use Prim.Native.Nat.{◌*◌, ◌%◌, ◌^◌}
use mathlib.Core.Path.{◌≡◌}
use native.Mathlib.Omega.{arith}
use lib.Pow.{shl_exact}
use Rattle.mark.specs.Mark.{two_at}
use Rattle.mark.proofs.EightLaws.{two_fits}
use Rattle.mark.proofs.with_mark.Goals as goal
use Rattle.mark.proofs.with_mark.Goals.{Start}

found-whole : (c : Start) → two_at c.args.eight c.args.bits * 2 ^ c.args.bits % 2 ^ 64 ≡ two_at c.args.eight
    c.args.bits * 2 ^ c.args.bits
found-whole c = shl_exact 2 c.args.bits 64 (omega arith) (omega arith)

mark-whole : (c : Start) → c.args.mark * 2 ^ c.args.bits % 2 ^ 64 ≡ c.args.mark * 2 ^ c.args.bits
mark-whole c = shl_exact 2 c.args.bits 64 (omega arith) (omega arith)

pub overflow_add-result : goal.overflow_add-result
overflow_add-result c =
    rw (found-whole c, mark-whole c)
    (record { fits = two_fits c.args.eight c.args.bits c.args.mark (omega arith) 64 (omega arith) c.ranges.eight.fits })

pub returns : goal.returns
returns c = rw (found-whole c, mark-whole c)
