-- `steps::instrument::stripped_refusal` meets its contract: k and H are those that are cut. Assumes nothing.
use Rattle.std.proofs.Common.{arith}
use Rattle.std.proofs.lemmas.Grind.{common_steps}
use mathlib.Core.Path.{ap₂}
use Prim.Native.Nat.{ℕ, ◌*◌}
use lib.ListN.{drop}
use Rattle.steps.proofs.InstrumentLaws.{count_cut, size_cut}
use Rattle.steps.proofs.instrument.stripped_refusal.Goals as goal

pub returns-in_err-ensure-4 : goal.returns-in_err-ensure-4
returns-in_err-ensure-4 c =
    let counted = count_cut (drop c.args.at c.args.file.now) c.read-size.ensures.value c.read_in-count.ensures in
    grind (arith, common_steps)

pub returns-then-count-eq0 : goal.returns-then-count-eq0
returns-then-count-eq0 c =
    let counted = count_cut (drop c.args.at c.args.file.now) c.read-size.ensures.value c.read_in-count.ensures in
    grind (arith, common_steps)

pub returns : goal.returns
returns c =
    let counted = count_cut (drop c.args.at c.args.file.now) c.read-size.ensures.value c.read_in-count.ensures in
    let H = size_cut (drop c.args.at c.args.file.now) c.read-size.ensures.value c.read_in-head_size.ensures in
    let taken = ap₂ (λ (k H : ℕ). k * H) counted H in
    grind (arith, common_steps)
