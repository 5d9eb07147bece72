-- `fields::write_normal_voice` meets its contract: H, what stands behind it, and zeros. Assumes nothing.
use mathlib.Core.Path.{refl}
use native.Mathlib.Omega.{arith}
use lib.ListN.{drop}
use Rattle.xm.specs.Number.{long}
use Rattle.xm.specs.ModuleKind.{padded}
use Rattle.xm.proofs.Cut.{padded-length}
use Rattle.xm.proofs.Lay.{laid_first, laid_part, laid_last}
use Rattle.fields.specs.Fields.{voice_in}
use Rattle.fields.proofs.PieceLaws.{voice_whole}
use Rattle.fields.proofs.write_normal_voice.Goals as goal

pub returns : goal.returns
returns c =
    let a = c.args in
    let s = a.own.now in
    let all = padded 208 (drop 33 s) in
    let first = laid_first a.out.now (padded 234 (voice_in 40 s)) (long 40) _ (voice_whole 40 s)
    (omega (arith, padded-length 234 (voice_in 40 s))) refl c.put.ensures in
    let second = laid_part first all _ {next = 212} refl refl (omega (arith, padded-length 208 (drop 33 s))) c.write_cut.ensures in
    laid_last second refl c.clear.ensures
