-- `forms::smallest_head` meets its contract. The loop's invariant: the most of the headers behind and of those ahead is that of all. Assumes nothing.
use native.Mathlib.Omega.{arith}
use Rattle.forms.proofs.KeptLaws.{heads_end, heads_on}
use Rattle.forms.proofs.smallest_head.Goals as goal

pub loop-preserved : goal.loop-preserved
loop-preserved c =
    heads_on c.loop.invariant (omega (arith, c.loop-test.true)) c.kept_in-most.ensures.value c.kept_in-most.ensures.upper_bound (omega arith) (omega (arith, c.loop-test.true))

pub returns-clause-value : goal.returns-clause-value
returns-clause-value c = heads_end c.loop.invariant (omega (arith, c.loop-test.false))
