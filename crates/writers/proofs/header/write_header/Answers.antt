-- `writers::header::write_header` meets its contract: the three parts. Assumes nothing.
use mathlib.Core.Path.{refl, sym}
use native.Mathlib.Omega.{arith}
use lib.ListN.{length}
use Rattle.steps.specs.Kind.{kind_of}
use Rattle.xm.specs.Header.{write_header}
use Rattle.xm.proofs.Lay.{laid_first, laid_part, laid_last}
use Rattle.writers.specs.Header.{tracker_by, header_with, names_of, header_numbers}
use Rattle.writers.proofs.HeaderLaws.{tracker_size, header_parts, names_size, header_size}
use Rattle.writers.proofs.header.write_header.Goals as goal

pub returns : goal.returns
returns c =
    let a = c.args in
    let file = a.file.now in
    let orders = a.orders.now in
    let kind = kind_of a.kind in
    let tracker = tracker_by a.kept file in
    let named = tracker_size a.kept file c.requires.orders_from_in_bounds in
    let names =
    laid_first a.out.now (write_header kind (header_with tracker a.patterns orders file)) (names_of kind tracker file) _
    (header_parts kind tracker a.patterns orders file)
    (omega (arith, header_size kind tracker a.patterns orders file named c.requires.orders_from_in_bounds c.requires.orders_len_bound, c.requires.orders_in_bounds))
    (sym (names_size kind tracker file named c.requires.orders_from_in_bounds)) c.write_names.ensures in
    laid_last (laid_part names (header_numbers kind (length orders) a.patterns file) _ refl refl refl c.write_numbers.ensures) refl
    c.write_orders.ensures
