-- `forms::kept` meets its contract. The loop's invariant: without the zeros behind, as many are left of those before as of all. Assumes nothing.
use native.Mathlib.Omega.{arith}
use Rattle.forms.proofs.KeptLaws.{kept_none, kept-zero, kept_some}
use Rattle.forms.proofs.kept.Goals as goal

pub returns-then-bytes-last-ne0 : goal.returns-then-bytes-last-ne0
returns-then-bytes-last-ne0 c = omega (arith, c.loop-last-test.true, kept_some c.loop-last.invariant (omega (arith, c.loop-last-test.true)) c.if-bytes-last-ne0.true)

pub loop-last-preserved : goal.loop-last-preserved
loop-last-preserved c = kept-zero c.loop-last.invariant (omega (arith, c.loop-last-test.true)) c.if-bytes-last-ne0.false

pub returns : goal.returns
returns c = kept_none c.loop-last.invariant (omega (arith, c.loop-last-test.false))
