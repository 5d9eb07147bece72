-- `writers::pattern::write_head` meets its contract: four pieces. Assumes nothing.
use mathlib.Core.Path.{refl}
use native.Mathlib.Omega.{arith}
use Rattle.xm.specs.Number.{byte, word, long}
use Rattle.xm.proofs.Lay.{laid_first, laid_part, laid_last}
use Rattle.writers.specs.Pattern.{written_head}
use Rattle.writers.proofs.pattern.write_head.Goals as goal

pub returns : goal.returns
returns c =
    let a = c.args in
    let first = laid_first a.out.now (written_head a.rows a.size) (long 9) _ refl (omega (arith, c.requires.rows_le_rows_most, c.requires.size_le_data_most, c.requires.in_bounds)) refl c.put.ensures in
    let second = laid_part first (byte 0) _ refl refl refl c.put-2.ensures in
    let third = laid_part second (word a.rows) _ refl refl refl c.put-3.ensures in
    laid_last third refl c.put-4.ensures
