-- `instruments::write_instrument` meets its contract: the fields, the headers, and the data. Assumes nothing.
use Prim.Native.Nat.{◌+◌, ◌*◌}
use mathlib.Core.Path.{refl, sym}
use native.Mathlib.Omega.{arith}
use lib.ListN.{take, drop, length-take, length-drop}
use Rattle.xm.proofs.Lay.{part_all, laid_first, laid_part, laid_last}
use Rattle.steps.specs.Kind.{kind_of}
use Rattle.writers.specs.Found.{instrument_as}
use Rattle.fields.proofs.PieceLaws.{fields_size}
use Rattle.instruments.proofs.InstrumentLaws.{fields_by, heads_by, written_lies}
use Rattle.instruments.proofs.write_instrument.Goals as goal

pub overflow_add-heads : goal.overflow_add-heads
overflow_add-heads c =
    let l = written_lies c.requires.instrument_is c.type_inv.file c.form_of-form.ensures in omega arith

pub overflow_mul-data : goal.overflow_mul-data
overflow_mul-data c =
    let l = written_lies c.requires.instrument_is c.type_inv.file c.form_of-form.ensures in omega arith

pub overflow_add-data : goal.overflow_add-data
overflow_add-data c =
    let l = written_lies c.requires.instrument_is c.type_inv.file c.form_of-form.ensures in omega arith

pub overflow_mul-last : goal.overflow_mul-last
overflow_mul-last c =
    let l = written_lies c.requires.instrument_is c.type_inv.file c.form_of-form.ensures in omega arith

pub overflow_add-last : goal.overflow_add-last
overflow_add-last c =
    let l = written_lies c.requires.instrument_is c.type_inv.file c.form_of-form.ensures in omega arith

pub write_fields-requires : goal.write_fields-requires
write_fields-requires c =
    let l = written_lies c.requires.instrument_is c.type_inv.file c.form_of-form.ensures in
    record { there = l.there; form_fits = l.fits; size_in_bounds = omega arith }

pub slice_bounds-write_heads-count : goal.slice_bounds-write_heads-count
slice_bounds-write_heads-count c =
    let l = written_lies c.requires.instrument_is c.type_inv.file c.form_of-form.ensures in omega arith

pub slice_bounds-write_heads-start : goal.slice_bounds-write_heads-start
slice_bounds-write_heads-start c =
    let l = written_lies c.requires.instrument_is c.type_inv.file c.form_of-form.ensures in omega arith

pub write_heads-requires : goal.write_heads-requires
write_heads-requires c =
    let l = written_lies c.requires.instrument_is c.type_inv.file c.form_of-form.ensures in
    record { size_in_bounds = omega arith; kept_le_least_head = l.kept; kept_in_bounds = rw (part_all, length-drop) (omega arith) }

pub slice_bounds-copy-count : goal.slice_bounds-copy-count
slice_bounds-copy-count c =
    let l = written_lies c.requires.instrument_is c.type_inv.file c.form_of-form.ensures in omega arith

pub slice_bounds-copy-start : goal.slice_bounds-copy-start
slice_bounds-copy-start c =
    let l = written_lies c.requires.instrument_is c.type_inv.file c.form_of-form.ensures in omega arith

pub slice_bounds-copy-end : goal.slice_bounds-copy-end
slice_bounds-copy-end c =
    let l = written_lies c.requires.instrument_is c.type_inv.file c.form_of-form.ensures in omega arith

pub slice_bounds-copy-count-2 : goal.slice_bounds-copy-count-2
slice_bounds-copy-count-2 c =
    let l = written_lies c.requires.instrument_is c.type_inv.file c.form_of-form.ensures in omega arith

pub slice_bounds-copy-start-2 : goal.slice_bounds-copy-start-2
slice_bounds-copy-start-2 c =
    let l = written_lies c.requires.instrument_is c.type_inv.file c.form_of-form.ensures in omega arith

pub copy-requires : goal.copy-requires
copy-requires c =
    let l = written_lies c.requires.instrument_is c.type_inv.file c.form_of-form.ensures in
    rw (part_all, length-drop, length-take, length-drop) (omega arith)

pub returns-clause-out_after : goal.returns-clause-out_after
returns-clause-out_after c =
    let l = written_lies c.requires.instrument_is c.type_inv.file c.form_of-form.ensures in
    let a = c.args in
    let form = c.form_of-form.result in
    let file = a.file.now in
    let first =
    laid_first a.out.now (instrument_as (kind_of a.kind) file a.at) (fields_by file a.at a.part form) _ l.written
    c.requires.at_in_bounds
    (sym (fields_size form.size form.head_size (take a.part.size (drop a.at file)) l.low)) c.write_fields.ensures in
    let second =
    laid_part first (heads_by file a.at a.part form) _ {next = form.size + a.part.samples * form.head_size} refl refl (omega arith)
    c.write_heads.ensures in
    laid_last second refl c.copy.ensures
