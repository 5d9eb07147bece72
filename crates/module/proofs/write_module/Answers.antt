-- `module::write_module` meets its contract: the header, the patterns and the instruments. Assumes nothing.
use Prim.Native.Nat.{ℕ, ◌+◌, ◌-◌}
use mathlib.Core.Path.{refl, sym, ap}
use native.Mathlib.Omega.{arith}
use lib.ListN.{take, drop, replicate, length-drop}
use Rattle.steps.specs.Kind.{kind_of}
use Rattle.xm.specs.Format.{each}
use Rattle.xm.specs.Header.{least_header, write_header}
use Rattle.xm.specs.PatternInFile.{pattern_format}
use Rattle.xm.proofs.Lay.{part_all, laid_part, laid_first, laid_last}
use Rattle.writers.specs.Found.{pressed_at}
use Rattle.writers.specs.Header.{tracker_by, header_with}
use Rattle.module.specs.Module.{instruments_as, written_file}
use Rattle.module.specs.declared.Reached.{Reached}
use Rattle.module.proofs.ModuleLaws.{numbers_inside, ModuleLies, module_lies}
use Rattle.module.proofs.write_module.Goals as goal
use Rattle.module.proofs.write_module.Goals.{After-has_tracker}

-- Where its parts lie, by the numbers of its header
lies : (t : After-has_tracker) →
    ModuleLies t.args.file.now t.args.marks.now t.requires.told (kind_of t.args.kind) t.args.kept t.header_part-part.ensures
    t.read-song_length.ensures.value t.has_tracker.ensures
lies t =
    module_lies _ _ t.requires.told (kind_of t.args.kind) t.args.kept t.header_part-part.ensures
    t.read-song_length.ensures.value t.has_tracker.ensures

pub header_part-part-requires : goal.header_part-part-requires
header_part-part-requires c = numbers_inside _ _ c.requires.told

pub read-song_length-requires : goal.read-song_length-requires
read-song_length-requires c = omega (arith, numbers_inside _ _ c.requires.told)

pub slice_bounds-write_header-end : goal.slice_bounds-write_header-end
slice_bounds-write_header-end c = omega (arith, (lies c).orders_inside)

pub write_header-requires : goal.write_header-requires
write_header-requires c =
    let l = lies (goal.at.write_header-requires c).After-has_tracker in
    let size = ap (least_header (kind_of c.args.kind)) l.orders_long in record { orders_from_in_bounds = numbers_inside _ _ c.requires.told; patterns_bound = omega (arith, l.many); orders_len_bound = omega (arith, l.orders_long, l.song_few); orders_in_bounds = omega (arith, size, l.long, c.requires.file_in_bounds) }

pub slice_bounds-write_patterns-count : goal.slice_bounds-write_patterns-count
slice_bounds-write_patterns-count c =
    omega (arith, c.least_header-first.ensures, (lies (goal.at.slice_bounds-write_patterns-count c).After-has_tracker).long, c.requires.file_in_bounds)

pub slice_bounds-write_patterns-start : goal.slice_bounds-write_patterns-start
slice_bounds-write_patterns-start c =
    omega (arith, c.least_header-first.ensures, (lies (goal.at.slice_bounds-write_patterns-start c).After-has_tracker).long, c.requires.file_in_bounds)

pub invariant_of-channels : goal.invariant_of-channels
invariant_of-channels c = let l = lies (goal.at.invariant_of-channels c).After-has_tracker in record { in_range = (l.some, l.high) }

pub write_patterns-reached-requires : goal.write_patterns-reached-requires
write_patterns-reached-requires c =
    let l = lies (goal.at.write_patterns-reached-requires c).After-has_tracker in record { count_bound = l.many; told = l.told_first; at_in_bounds = rw (part_all, length-drop) (omega (arith, c.least_header-first.ensures, l.long, c.requires.file_in_bounds)) }

pub slice_bounds-write_instruments-count : goal.slice_bounds-write_instruments-count
slice_bounds-write_instruments-count c =
    omega (
      arith,
      c.least_header-first.ensures,
      (lies (goal.at.slice_bounds-write_instruments-count c).After-has_tracker).long,
      ap Reached.written c.write_patterns-reached.ensures.value,
      c.requires.file_in_bounds,
    )

pub slice_bounds-write_instruments-start : goal.slice_bounds-write_instruments-start
slice_bounds-write_instruments-start c =
    omega (
      arith,
      c.least_header-first.ensures,
      (lies (goal.at.slice_bounds-write_instruments-start c).After-has_tracker).long,
      ap Reached.written c.write_patterns-reached.ensures.value,
      c.requires.file_in_bounds,
    )

pub write_instruments-requires : goal.write_instruments-requires
write_instruments-requires c =
    let l = lies (goal.at.write_instruments-requires c).After-has_tracker in
    let at = ap Reached.place c.write_patterns-reached.ensures.value in
    let written = ap Reached.written c.write_patterns-reached.ensures.value in record {
      file_len_bound = l.small;
      told = rw at l.told_last;
      count_in_bounds = rw (at, part_all, length-drop)
          (omega (arith, written, c.least_header-first.ensures, l.long, c.requires.file_in_bounds));
    }

-- The bytes first: what has room are these
pub returns : goal.returns
returns c =
    let l = lies (goal.at.returns c).After-has_tracker in
    let a = c.args in
    let file = a.file.now in
    let to = kind_of a.kind in
    let part = c.header_part-part.result in
    let song = c.read-song_length.result in
    let head = write_header to (header_with (tracker_by c.has_tracker.result file) part.patterns (take (80 + song - 80) (drop 80 file)) file) in
    let header =
    laid_first a.out.now (written_file to a.kept file) head _ {next = 60 + c.least_header-first.result} l.written
    c.requires.file_in_bounds (omega (arith, l.header_long, c.least_header-first.ensures)) c.write_header.ensures in
    let rows =
    laid_part header (pressed_at (each pattern_format) (replicate part.patterns part.channels) file part.start) _
    {next = 60 + c.least_header-first.result + c.write_patterns-reached.result.written} refl refl
    (omega (arith, ap Reached.written c.write_patterns-reached.ensures.value)) c.write_patterns-reached.ensures.out_after in
    laid_last rows (ap (λ (at : ℕ). instruments_as to file at part.instruments) (sym (ap Reached.place c.write_patterns-reached.ensures.value)))
    c.write_instruments.ensures
