-- `rows::sample::put_sample` meets its contract. Assumes nothing.
use Prim.Native.Nat.{◌+◌, ◌*◌}
use mathlib.Core.Path.{ap₂, ◌∙◌}
use lib.IntN.{ℤ}
use lib.ListN.{set}
use Rattle.xm.specs.Table.{tune_stride}
use mir.Syntax.{w8}
use mir.Facts.{to_z-of_z}
use Rattle.slices.proofs.Stores.{stored_two, stored_seven}
use Rattle.rows.proofs.sample.put_sample.Goals as goal

pub returns : goal.returns
returns c =
    let a = c.args in
    let fine = to_z-of_z {w = w8} {z = a.row.finetune} (record { sfits = c.struct_told-1.given.1.1.1.1.1.1.1.0.1 }) in
    let note = to_z-of_z {w = w8} {z = a.row.relative_note} (record { sfits = c.struct_told-2-1.given.1.1.1.1.1.1.1.1.0.1 }) in record { samples_after = stored_seven _ _ _ _ _ _ _ _ _ c.requires.sample_stride_in_bounds; tunes_after = ap₂ (λ (x y : ℤ). set (set a.tunes.now (tune_stride * a.number) x) (tune_stride * a.number + 1) y) fine note ∙ stored_two _ _ _ _ c.requires.tune_stride_in_bounds }
