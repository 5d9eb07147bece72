-- `timed::timed_reader` meets its contract: the number fits. Assumes nothing.
use Rattle.std.proofs.Common.{ℕ, ◌+◌, ◌*◌, ◌≤◌, ◌≡◌, List, arith, ap}
use Rattle.std.specs.Prelude.{Ok}
use Rattle.xm.specs.Number.{Bytes}
use Rattle.xm.specs.Answer.{Answer, gives, refuses, result}
use Rattle.xm.proofs.Got.{no_true}
use Rattle.refusal.specs.Refusal.{outcome}
use Rattle.reader.specs.declared.count.Counts.{Counts}
use Rattle.reader.specs.Count.{total, counting}
use Rattle.reader.proofs.CountLaws.{counted_few}
use Rattle.timed.proofs.timed_reader.Goals as goal

few : (file : List ℕ) → Bytes file → {counts : Counts} → Ok counts ≡ outcome (λ (c : Counts). c) (counting file) → total counts ≤ 256 + 17 * 128
few file plain {counts} e = go (counting file) e (counted_few file plain)
  where
    go : (answer : Answer Counts) → Ok counts ≡ outcome (λ (c : Counts). c) answer → result total answer ≤ 256 + 17 * 128 → total counts ≤ 256 + 17 * 128
    go (gives c) e few = let same : counts ≡ c = cc in omega (arith, ap total same)
    go (refuses r) e few = absurd (no_true (cc))

pub overflow_add-result : goal.overflow_add-result
overflow_add-result c = omega (arith, few c.args.file.now (record { below = λ i. omega (arith, c.type_inv.file i) }) c.in-Ok.ensures)

pub overflow_add-result-in-Ok : goal.overflow_add-result-in-Ok
overflow_add-result-in-Ok c = omega (arith, few c.args.file.now (record { below = λ i. omega (arith, c.type_inv.file i) }) c.in-Ok.ensures)
