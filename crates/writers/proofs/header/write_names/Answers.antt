-- `writers::header::write_names` meets its contract: five pieces. Assumes nothing.
use Prim.Native.Nat.{ℕ}
use mathlib.Core.Path.{refl, sym, ap}
use native.Mathlib.Omega.{arith}
use Rattle.xm.specs.Number.{part, byte, word}
use Rattle.steps.specs.Kind.{kind_of}
use Rattle.xm.specs.Header.{id_text, mark}
use Rattle.xm.proofs.Lay.{laid_first, laid_part, laid_last}
use Rattle.writers.specs.Header.{tracker_by, names_of}
use Rattle.writers.proofs.Kept.{part_length, front_part}
use Rattle.writers.proofs.HeaderLaws.{id_size, tracker_size, names_size}
use Rattle.writers.proofs.header.write_names.Goals as goal

pub returns : goal.returns
returns c =
    let a = c.args in
    let file = a.file.now in
    let kind = kind_of a.kind in
    let tracker = tracker_by a.kept file in
    let named = tracker_size a.kept file (omega arith) in
    let first = laid_first a.out.now (names_of kind tracker file) (id_text kind) _ refl (omega (arith, names_size kind tracker file named (omega arith)))
    (sym (id_size kind)) c.write_id.ensures in
    let second = laid_part first (part 17 20 file) _ {next = 37} refl (front_part 17 20 file) (omega (arith, part_length 17 20 file (omega arith))) c.copy_front.ensures in
    let third = laid_part second (byte (mark kind)) _ refl (ap (λ (n : ℕ). byte n) c.mark.ensures) refl c.put.ensures in
    let fourth = laid_part third tracker _ {next = 58} refl refl (omega (arith, named)) c.write_tracker.ensures in
    laid_last fourth (sym (ap (λ (n : ℕ). word n) c.version.ensures)) c.put-2.ensures
