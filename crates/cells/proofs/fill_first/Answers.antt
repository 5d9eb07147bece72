-- `cells::fill_first` meets its contract. Assumes nothing.
use Prim.Native.Nat.{ℕ}
use mathlib.Core.List.{List}
use mathlib.Core.Path.{ap, ◌∙◌}
use borrow.Author.Tests.{ne_eqb}
use Rattle.xm.specs.Answer.{in_front}
use Rattle.cell.proofs.ReadLaws.{fields_of_lem}
use Rattle.cells.proofs.fill_first.Goals as goal

pub returns-else-eight-eq128 : goal.returns-else-eight-eq128
returns-else-eight-eq128 c =
    let a = c.args in
    rw (ne_eqb _ _ c.if-eight-eq128.false)
    (c.put_plain.ensures ∙ ap (λ (x : List ℕ). in_front x a.out.now) (fields_of_lem _ c.take_over.ensures))
