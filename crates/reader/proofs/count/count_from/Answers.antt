-- `reader::count::count_from` meets its contract: a reader that is run to the end, as `CountLaws.antt` has it. Assumes nothing.
use Rattle.std.proofs.Common.{rules, ◌≡◌, ap, ◌∙◌}
use Rattle.std.specs.Prelude.{Ok, Err}
use Rattle.structures.proofs.HandingLaws.{plain}
use Rattle.reader.proofs.CountLaws.{turned_fits, turned_less, turned_on, turned_done, turned_refused}
use Rattle.reader.proofs.count.count_from.Goals as goal

pub returns-in_err-structure : goal.returns-in_err-structure
returns-in_err-structure c =
    let passed : c.from_residual.result ≡ Err c.in_err-structure.field-0.0 = search rules in
    passed ∙ turned_refused _ (plain c.type_inv.file) c.loop-structure.invariant c.next.ensures c.in_err-structure.was

pub add-requires : goal.add-requires
add-requires c = turned_fits _ (plain c.type_inv.file) c.loop-structure.invariant c.next.ensures (c.in_ok-structure.was ∙ ap Ok c.in-Some.is)

pub loop-structure-smaller : goal.loop-structure-smaller
loop-structure-smaller c =
    turned_less _ (plain c.type_inv.file) c.loop-structure.invariant c.next.ensures (c.in_ok-structure.was ∙ ap Ok c.in-Some.is) c.add.ensures

pub loop-structure-preserved : goal.loop-structure-preserved
loop-structure-preserved c =
    turned_on _ (plain c.type_inv.file) c.loop-structure.invariant c.next.ensures (c.in_ok-structure.was ∙ ap Ok c.in-Some.is) c.add.ensures

pub returns : goal.returns
returns c = turned_done _ (plain c.type_inv.file) c.loop-structure.invariant c.next.ensures (c.in_ok-structure.was ∙ ap Ok c.in_default.is)
