-- `line::put_numbers` meets its contract: some of the numbers are written, and the others have room. Assumes nothing.
use native.Mathlib.Omega.{arith}
use Rattle.line.proofs.Put.{written_none, written_next, written_more, written_done}
use Rattle.line.proofs.put_numbers.Goals as goal

pub loop-number-init : goal.loop-number-init
loop-number-init c = written_none c.args.line.now c.args.at c.args.numbers.now

pub bounds-line-next : goal.bounds-line-next
bounds-line-next c =
    omega (arith, written_next c.args.line.now c.args.at c.args.numbers.now c.loop-number.invariant c.requires (omega (arith, c.loop-number-test.true)))

pub loop-number-preserved : goal.loop-number-preserved
loop-number-preserved c =
    written_more c.args.line.now c.args.at c.args.numbers.now c.loop-number.invariant c.requires (omega (arith, c.loop-number-test.true))
    (c.put_decimal-next.ensures.place, c.put_decimal-next.ensures.memory)

pub returns-clause-memory : goal.returns-clause-memory
returns-clause-memory c =
    (written_done c.args.line.now c.args.at c.args.numbers.now c.loop-number.invariant c.requires (omega (arith, c.loop-number-test.false))).1
