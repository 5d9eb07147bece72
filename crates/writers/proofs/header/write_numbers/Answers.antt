-- `writers::header::write_numbers` meets its contract: six pieces. Assumes nothing.
use Prim.Native.Nat.{ℕ}
use mathlib.Core.Path.{◌≡◌, refl, sym, ap, ◌∙◌}
use native.Mathlib.Omega.{arith}
use Rattle.xm.specs.Number.{Bytes, word_at, word, long}
use Rattle.steps.specs.Kind.{kind_of}
use Rattle.xm.specs.Answer.{in_front}
use Rattle.xm.specs.Header.{least_header, channels_at, restart_of}
use Rattle.xm.proofs.Lay.{laid_first, laid_part, laid_last}
use Rattle.writers.specs.Header.{header_numbers}
use Rattle.writers.proofs.Kept.{front_part, word_kept}
use Rattle.writers.proofs.HeaderLaws.{four_words}
use Rattle.writers.proofs.header.write_numbers.Goals as goal

pub returns : goal.returns
returns c =
    let a = c.args in
    let file = a.file.now in
    let kind = kind_of a.kind in
    let bytes : Bytes file = record { below = λ i. omega (arith, c.type_inv.file i) } in
    let restart = ap (λ (n : ℕ). word n) (c.restart_of.ensures.value ∙ ap (restart_of a.song_length) c.read-restart.ensures.value) in
    let least : c.least_header.result ≡ least_header kind a.song_length = omega (arith, c.least_header.ensures) in
    let first = laid_first a.out.now (header_numbers kind a.song_length a.patterns file) (long (least_header kind a.song_length)) _ refl
    (omega (arith, c.requires.orders_from_in_bounds, c.requires.song_length_bound, c.requires.patterns_bound, c.requires.in_bounds)) refl (c.put.ensures ∙ ap (λ (n : ℕ). in_front (long n) a.out.now) least) in
    let second = laid_part first (word a.song_length) _ refl refl refl c.put-2.ensures in
    let third = laid_part second (word (restart_of a.song_length (word_at 66 file))) _ refl restart refl c.put-3.ensures in
    let fourth = laid_part third (word (channels_at file)) _ refl (front_part 68 2 file ∙ word_kept 68 bytes (omega (arith, c.requires.orders_from_in_bounds, c.requires.song_length_bound, c.requires.patterns_bound, c.requires.in_bounds))) refl c.copy_front.ensures in
    let fifth = laid_part fourth (word a.patterns) _ refl refl refl c.put-4.ensures in
    laid_last fifth (sym (front_part 72 8 file ∙ four_words bytes (omega (arith, c.requires.orders_from_in_bounds, c.requires.song_length_bound, c.requires.patterns_bound, c.requires.in_bounds)))) c.copy_front-2.ensures
