-- `fields::write_stripped_voice` meets its contract: H alone, of which its first byte is not 0, or all of it and what follows. Assumes nothing.
use Prim.Native.Nat.{◌-◌}
use mathlib.Core.Path.{refl}
use native.Mathlib.Omega.{arith}
use lib.ListN.{drop}
use Rattle.xm.specs.Number.{byte, long}
use Rattle.xm.specs.ModuleKind.{padded}
use Rattle.xm.proofs.Cut.{padded-length}
use Rattle.xm.proofs.Lay.{laid_first, laid_last}
use Rattle.fields.specs.Fields.{voice_in}
use Rattle.fields.proofs.CutLaws.{padded-padded, padded-behind}
use Rattle.fields.proofs.PieceLaws.{voice_short}
use Rattle.fields.proofs.write_stripped_voice.Goals as goal

pub returns-then-count-lt4 : goal.returns-then-count-lt4
returns-then-count-lt4 c =
    let a = c.args in
    let s = a.own.now in
    laid_last (laid_first a.out.now (padded a.count (voice_in a.head_size s)) (byte a.head_size) _
    (voice_short a.count a.head_size s (omega arith) (omega arith) (omega arith))
    (omega (arith, padded-length a.count (voice_in a.head_size s))) refl c.put.ensures) refl c.clear.ensures

pub returns : goal.returns
returns c =
    let a = c.args in
    let s = a.own.now in
    laid_last (laid_first a.out.now (padded a.count (voice_in a.head_size s)) (long a.head_size) _
    (padded-behind a.count (long a.head_size) (padded 208 (drop 33 s)) (omega arith))
    (omega (arith, padded-length a.count (voice_in a.head_size s))) refl c.put-2.ensures)
    (padded-padded (a.count - 4) 208 (drop 33 s) (omega arith)) c.write_cut.ensures
