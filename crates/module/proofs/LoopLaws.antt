-- The loops over patterns and instruments. Assumes nothing.
use Prim.Native.Nat.{ℕ, suc, ◌+◌, ◌-◌, ◌≤◌, ◌<◌}
use mathlib.Core.Bool.{true}
use mathlib.Core.List.{List}
use mathlib.Core.Path.{◌≡◌, refl, sym, ap, ◌∙◌}
use native.Mathlib.Numerals.{add-one}
use native.Mathlib.Omega.{arith}
use lib.ListN.{length, take, drop, replicate}
use borrow.Rule.Slice.PartMut.{put_mid}
use Rattle.std.specs.Prelude.{Result}
use Rattle.std.specs.Result.{result_unwrap_or}
use Rattle.xm.specs.ModuleKind.{ModuleKind}
use Rattle.xm.specs.Got.{got, accepted, Told}
use Rattle.xm.specs.Format.{Format, each}
use Rattle.xm.specs.Answer.{in_front}
use Rattle.xm.specs.Header.{kind_at}
use Rattle.xm.specs.PatternInFile.{least_pattern, PatternFound, pattern_format}
use Rattle.xm.specs.Instrument.{Instrument, InstrumentFound, read_instrument, instrument_format}
use Rattle.mark.specs.declared.Mark.{Mark}
use Rattle.mark.specs.declared.Mark.TheVariants.{Again}
use Rattle.mark.specs.declared.UnknownMark.{UnknownMark}
use Rattle.mark.specs.Mark.{number_of, mark_from, mark_in, Marked, pattern_mark, Marks}
use Rattle.mark.proofs.MarkLaws.{mark_found}
use Rattle.steps.specs.Step.{pattern_head, InstrumentIs}
use Rattle.steps.specs.declared.pattern.PatternHead.{PatternHead}
use Rattle.steps.specs.declared.instrument.InstrumentPart.{InstrumentPart}
use Rattle.xm.proofs.Got.{got_used, told_got, got_told}
use Rattle.steps.proofs.InstrumentLaws.{as_read}
use Rattle.writers.specs.Found.{read_at, pressed_at, end_of, instrument_as}
use Rattle.module.specs.Module.{instruments_read, instruments_as}
use Rattle.module.proofs.EachLaws.{EachLeft, FirstLeft, each_none, each_first, each_room, each_more, each_done, each_end}
use Rattle.writers.proofs.PatternLaws.{pattern_used, head_inside, pattern_inside}

module _ (file lent : List ℕ) (at channels count : ℕ) (marks : List ℕ) where
  abbrev goal : List ℕ
  goal = pressed_at (each pattern_format) (replicate count channels) file at

  abbrev end : ℕ
  end = end_of at (read_at (each pattern_format) (replicate count channels) file at)

  -- The patterns that are left, with their marks
  pub record PatternsLeft (done place : ℕ) (out : List ℕ) (to : ℕ) : Type 0 where
    pub left : ℕ
    pub sum : left + done ≡ count
    pub rest : List PatternFound
    pub writes : EachLeft pattern_format pattern_format channels file lent goal end left place out to rest
    pub marked : Marks file done rest marks

  pub patterns_none : Told (λ is. Marks file 0 is marks) (read_at (each pattern_format) (replicate count channels) file at)
      → length goal ≤ length lent → PatternsLeft 0 at lent 0
  patterns_none t room = told_got (λ is. Marks file 0 is marks) _ t λ is n e m. record {
    left = count;
    sum = omega arith;
    rest = is;
    writes = each_none pattern_format pattern_format channels file lent count at is n e room;
    marked = m;
  }

  module _ {done place : ℕ} {out : List ℕ} {to : ℕ} (w : PatternsLeft done place out to) where
    pub patterns_done : count ≤ done → (place ≡ end) × (to ≡ length goal) × (out ≡ in_front goal lent)
    patterns_done h =
        let none : w.left ≡ 0 = omega (arith, w.sum) in
        let e = each_end pattern_format pattern_format channels file lent goal end w.writes none in
        (e.0, e.1, each_done pattern_format pattern_format channels file lent goal end w.writes none)

    module _ (h : done < count) where
      some : 0 < w.left
      some = omega (arith, w.sum)

      abbrev front : FirstLeft pattern_format pattern_format channels file lent goal end w.left place w.rest w.writes.used
      front = each_first pattern_format pattern_format channels file lent goal end w.writes some

      first_marked : (pattern_mark marks done ≡ number_of (mark_in file front.part)) × Marks file (suc done) front.later marks
      first_marked = rw front.first at w.marked

      marked_so : {mark : Mark} → mark ≡ mark_in file front.part → Told (λ i. Marked file i mark) (read_at pattern_format channels file place)
      marked_so {mark} e = got_told (λ i. Marked file i mark) front.read (record { is = e })

      -- by its mark, which is told by a number
      pub pattern_told : {number : ℕ} {found : Result Mark UnknownMark} {mark : Mark} → number ≡ pattern_mark marks done → found ≡ mark_from number
          → mark ≡ result_unwrap_or found Again → Told (λ i. Marked file i mark) (read_at pattern_format channels file place)
      pattern_told n f m =
          marked_so (m ∙ ap (λ (r : Result Mark UnknownMark). result_unwrap_or r Again) (f ∙ mark_found file marks front.part done n first_marked.0))

      -- it lies inside the file
      pub head_there : place + least_pattern ≤ length file
      head_there = head_inside file place channels _ refl refl refl (marked_so refl)

      pub next_there : {head : PatternHead} → head ≡ pattern_head place (drop place file) → head.place + head.size ≤ length file
      next_there e = omega (arith, pattern_inside file place channels _ (marked_so refl), ap PatternHead.place e, ap PatternHead.size e)

      pub pattern_room : to + length (pressed_at pattern_format channels file place) ≤ length out
      pattern_room = each_room pattern_format pattern_format channels file lent goal end w.writes some

      pub patterns_more : {head : PatternHead} {size : ℕ} {part : List ℕ} → head ≡ pattern_head place (drop place file)
          → size ≡ length (pressed_at pattern_format channels file place)
          → part ≡ in_front (pressed_at pattern_format channels file place) (take (length out - to) (drop to out))
          → PatternsLeft (done + 1) (head.place + head.size) (put_mid to (length out - to) out part) (to + size)
      patterns_more u z e =
          record {
            left = w.left - 1;
            sum = omega (arith, w.sum);
            rest = front.later;
            writes =
                each_more pattern_format pattern_format channels file lent goal end w.writes some
                (omega (arith, ap PatternHead.place u, ap PatternHead.size u, pattern_used file place channels Again front.read)) z e;
            marked = rw add-one first_marked.1;
          }

-- Where an instrument that was read ends, by its part
next_of : (file : List ℕ) (place : ℕ) {piece : InstrumentPart} {i : InstrumentFound} {n : ℕ} → InstrumentIs file place piece
    → read_instrument (kind_at file) place (drop place file) ≡ got i n → piece.next ≡ place + n
next_of file place is e =
    let r = as_read file (kind_at file) place is in
    omega (arith, ap InstrumentPart.next r.same, got_used (sym r.is ∙ e))

-- The instruments that are left
module _ (file lent : List ℕ) (to : ModuleKind) (at count : ℕ) where
  abbrev own : Format (Unit {0}) InstrumentFound Instrument
  own = instrument_format (kind_at file)

  abbrev other : Format (Unit {0}) InstrumentFound Instrument
  other = instrument_format to

  abbrev instruments : List ℕ
  instruments = instruments_as to file at count

  abbrev last : ℕ
  last = end_of at (instruments_read file at count)

  pub record InstrumentsLeft (left place : ℕ) (out : List ℕ) (written : ℕ) : Type 0 where
    pub rest : List InstrumentFound
    pub writes : EachLeft own other tt file lent instruments last left place out written rest

  pub instruments_none : Told (λ is. Unit {0}) (instruments_read file at count) → length instruments ≤ length lent → InstrumentsLeft count at lent 0
  instruments_none t room = told_got (λ is. Unit {0}) _ t λ is n e m. record { rest = is; writes = each_none own other tt file lent count at is n e room }

  module _ {left place : ℕ} {out : List ℕ} {written : ℕ} (w : InstrumentsLeft left place out written) where
    pub instruments_done : left ≡ 0 → out ≡ in_front instruments lent
    instruments_done z = each_done own other tt file lent instruments last w.writes z

    module _ (some : 0 < left) where
      abbrev first : FirstLeft own other tt file lent instruments last left place w.rest w.writes.used
      first = each_first own other tt file lent instruments last w.writes some

      pub instrument-accepted : accepted (read_instrument (kind_at file) place (drop place file)) ≡ true
      instrument-accepted = ap accepted first.read

      pub instrument_room : written + length (instrument_as to file place) ≤ length out
      instrument_room = each_room own other tt file lent instruments last w.writes some

      pub instruments_more : {k : ℕ} {piece : InstrumentPart} {size : ℕ} {part : List ℕ} → k ≡ left - 1 → InstrumentIs file place piece
          → size ≡ length (instrument_as to file place) → part ≡ in_front (instrument_as to file place) (take (length out - written) (drop written out))
          → InstrumentsLeft k piece.next (put_mid written (length out - written) out part) (written + size)
      instruments_more k is n e = rw k (record {
        rest = first.later;
        writes = each_more own other tt file lent instruments last w.writes some (next_of file place is first.read) n e;
      })
