-- The loops that step over patterns and over sample data. Assumes nothing.
use Prim.Native.Nat.{ℕ, zero, suc, ◌+◌, ◌-◌, ◌*◌, ◌≤◌, ◌<◌}
use mathlib.Core.Bool.{true}
use mathlib.Core.List.{List, [], ◌∷◌}
use mathlib.Core.Path.{◌≡◌, refl, sym, ap, ◌∙◌}
use native.Mathlib.Nat.{suc-mul}
use native.Mathlib.Omega.{arith}
use lib.ListN.{length, drop}
use lib.Seq.{drop-drop}
use Rattle.xm.specs.Got.{list_in, accepted}
use Rattle.xm.specs.Stored.{rows_most}
use Rattle.xm.specs.Header.{channels_at, patterns_at, header_end}
use Rattle.xm.specs.PatternInFile.{least_pattern, PatternFound, pattern_format}
use Rattle.xm.specs.Sample.{head_bytes, data_size}
use Rattle.xm.specs.Module.{Found, file_most, read_file}
use Rattle.xm.specs.Table.{pattern_row, pattern_numbers}
use Rattle.steps.specs.Step.{pattern_head}
use Rattle.rows.specs.Accepted.{ReadsFrom, InstrumentsFrom}
use Rattle.rows.specs.Place.{data_before, data_start, data_end, InstrumentHeadStands}
use Rattle.rows.specs.Sought.{SamplesLeft}
use Rattle.steps.specs.declared.pattern.PatternHead.{PatternHead}
use Rattle.steps.specs.declared.instrument.InstrumentHead.{InstrumentHead}
use Rattle.xm.proofs.Got.{accepted-got}
use Rattle.rows.proofs.Reading.{reads_none, reads_next, file_reads}
use Rattle.rows.proofs.PatternLaws.{pattern_stands}

-- So many patterns are still to be stepped over, from a place on; behind them are the instruments
pub record Skipping (file : List ℕ) (left place : ℕ) (parts : List PatternFound) : Type 0 where
  pub small : length file ≤ file_most
  pub from : ℕ
  pub reads : ReadsFrom pattern_format (channels_at file) file left place parts from
  pub after : InstrumentsFrom file from

-- A pattern's fields lie in the file
pub record PatternFits (file : List ℕ) (x : PatternHead) : Type 0 where
  pub inside : x.place + x.size ≤ length file
  pub few : x.rows ≤ rows_most

module _ (file : List ℕ) where
  pub skipping_start : accepted (read_file file) ≡ true
      → Skipping file (patterns_at file) (header_end file) (list_in (λ (found : Found). found.1.0) (read_file file))
  skipping_start h = accepted-got (read_file file) h λ found end e.
      let w = file_reads file found end e in
      record { small = w.small; from = w.from; reads = rw e w.patterns; after = record { end = w.end; reads = rw e w.instruments } }

  module _ {left place : ℕ} {parts : List PatternFound} (w : Skipping file left place parts) where
    pub skipping_end : left ≡ 0 → (parts ≡ []) × InstrumentsFrom file place
    skipping_end z =
        let none = reads_none pattern_format (channels_at file) file (rw z at w.reads) in
        (none.0, rw none.1 w.after)

    pub skipping_left : {other : ℕ} → other ≡ left → Skipping file other place parts
    skipping_left e = rw e w

    module _ (l : 0 < left) where
      pub skipping_room : place + least_pattern ≤ length file
      skipping_room = reads_next pattern_format (channels_at file) file w.reads l λ i n more ei ep rest.
          let p = pattern_stands (channels_at file) file place i n ei in omega (arith, p.used, p.least, p.inside)

      pub skipping_on : {R : Type 0} {x : PatternHead} → x ≡ pattern_head place (drop place file)
          → ((i : PatternFound) (more : List PatternFound) → parts ≡ i ∷ more → i.place ≡ place
          → pattern_numbers (pattern_row i) ≡ x.place ∷ x.size ∷ x.rows ∷ [] → PatternFits file x
          → Skipping file (left - 1) (x.place + x.size) more → R) → R
      skipping_on {x = x} e k = reads_next pattern_format (channels_at file) file w.reads l λ i n more ei ep rest.
          let p = pattern_stands (channels_at file) file place i n ei in
          let next : x.place + x.size ≡ place + n = omega (arith, ap PatternHead.place e, ap PatternHead.size e, p.used) in
          k i more ep p.starts (p.numbers ∙ ap (λ (x : PatternHead). x.place ∷ x.size ∷ x.rows ∷ []) (sym e))
          (record { inside = omega (arith, p.inside); few = omega (arith, p.few, ap PatternHead.rows e) })
          (record { small = w.small; from = w.from; reads = rw next rest; after = w.after })

-- The data of one sample, and of more
before_step : (left size : ℕ) (s : List ℕ) → 0 < left → data_before left size s ≡ data_size (head_bytes size s) + data_before (left - 1) size (drop size s)
unfolding data_before
before_step zero size s l = absurd (omega arith)
before_step (suc left) size s l = let z : suc left - 1 ≡ left = omega arith in rw z

times_step : (left size : ℕ) → 0 < left → left * size ≡ size + (left - 1) * size
times_step zero size l = absurd (omega arith)
times_step (suc left) size l = let z : suc left - 1 ≡ left = omega arith in rw z (omega (arith, suc-mul left size))

-- The samples that are left of an instrument: all of them, and those behind the next one
pub left_start : (file : List ℕ) (x : InstrumentHead) → InstrumentHeadStands file x
    → SamplesLeft file x.head_size (data_end file x) x.samples x.heads (data_start x)
left_start file x w = record { same = refl; fits = omega (arith, w.inside); inside = w.inside }

module _ (file : List ℕ) (size end : ℕ) {left head place : ℕ} (w : SamplesLeft file size end left head place) where
  pub left_end : left ≡ 0 → place ≡ end
  unfolding data_before
  left_end z = let e : place + 0 ≡ end = rw z at w.same in omega arith

  pub left_less : {other : ℕ} → other ≡ left → SamplesLeft file size end other head place
  left_less e = rw e w

  module _ (l : 0 < left) where
    pub left_room : head + size ≤ length file
    left_room = omega (arith, w.fits, times_step left size l)

    pub left_on : {size' : ℕ} → size' ≡ data_size (head_bytes size (drop head file)) → SamplesLeft file size end (left - 1) (head + size) (place + size')
    left_on e = record {
      same = omega (arith, w.same, e, before_step left size (drop head file) l, ap (data_before (left - 1) size) (drop-drop size head file));
      fits = omega (arith, w.fits, times_step left size l);
      inside = w.inside;
    }
