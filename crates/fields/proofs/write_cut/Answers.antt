-- `fields::write_cut` meets its contract: the bytes that are there, and zeros. Assumes nothing.
use Prim.Native.Nat.{◌-◌, ◌≤◌}
use mathlib.Core.Path.{refl, ap, sym, ◌∙◌}
use native.Mathlib.Omega.{arith}
use lib.ListN.{length, take, drop}
use Rattle.xm.specs.ModuleKind.{padded}
use Rattle.xm.proofs.Cut.{padded-length, padded-long}
use Rattle.xm.proofs.Lay.{part_all, laid_first, laid_last}
use Rattle.fields.proofs.CutLaws.{named, padded_short, cut_from}
use Rattle.fields.proofs.write_cut.Goals as goal

pub returns-then-count-there : goal.returns-then-count-there
returns-then-count-there c =
    let a = c.args in
    let all = drop a.from a.own.now in
    let same = part_all c.min.result a.own.now ∙ cut_from a.from a.own.now c.min.ensures in
    named a.out.now c.copy.ensures (ap (take a.count) same ∙ sym (padded-long a.count all (omega (arith, ap length same, c.if-count-there.true))))

pub returns : goal.returns
returns c =
    let a = c.args in
    let own = a.own.now in
    let all = drop a.from own in
    let cut = take (length own - c.min.result) (drop c.min.result own) in
    let same = part_all c.min.result own ∙ cut_from a.from own c.min.ensures in
    let few : length all ≤ a.count = omega (arith, ap length same, c.if-count-there.false) in
    laid_last (laid_first a.out.now (padded a.count all) cut _ (rw same (padded_short a.count all few))
    (omega (arith, padded-length a.count all)) refl c.copy-2.ensures) refl c.clear.ensures
