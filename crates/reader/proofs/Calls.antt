-- What holds of every answer and reader that meet the contracts of `from_start`, `next` and `count_structures`. Assumes nothing.
use Prim.Native.Nat.{ℕ, zero, suc, ◌*◌, ◌≤◌, ◌<◌}
use mathlib.Core.List.{List, [], ◌∷◌}
use mathlib.Core.Path.{◌≡◌, refl, sym, ap, ap₂, ◌∙◌}
use native.Mathlib.Omega.{arith}
use lib.ListN.{length, length-map}
use denote.Ref.{Bor}
use Rattle.std.specs.Prelude.{Option, Some, None, Result, Ok, Err}
use Rattle.xm.specs.Number.{Bytes}
use Rattle.xm.specs.ModuleKind.{ModuleKind}
use Rattle.xm.specs.Got.{Got, got, refused}
use Rattle.xm.specs.Got as paper
use Rattle.xm.specs.Format.{Kind, Region, pattern_header, instrument, sample_header, sample_data, joined}
use Rattle.xm.specs.Answer.{Answer, numbers, answered}
use Rattle.xm.specs.PatternInFile.{pattern_format}
use Rattle.xm.specs.Sample.{stretch_region}
use Rattle.xm.specs.Instrument.{InstrumentFound, instrument_format}
use Rattle.xm.specs.Module.{Found, regions_of, read_file}
use Rattle.xm.specs.Asking.{Stretch}
use Rattle.xm.specs.Table.{InstrumentRow, SampleRow, pattern_row, pattern_rows, instrument_rows, sample_rows, checked_as, checking}
use Rattle.xm.specs.Structure.{kind_number, structures, Ahead, started, called, read_on, read_for}
use Rattle.xm.specs.Region.{of_kind, region_at}
use Rattle.xm.specs.Demands.{result_in, ReaderHandsOver}
use Rattle.xm.proofs.Format.{cons_path}
use Rattle.xm.proofs.Structure.{readers_tell}
use Rattle.xm.proofs.Accepted.{accepted_files}
use Rattle.refusal.specs.Refusal.{outcome}
use Rattle.refusal.specs.declared.Refusal.{Refusal}
use Rattle.structures.specs.Handing.{standing_in, kind_in, standing_numbers, reading_numbers, ahead_of, ahead_in, reached_in}
use Rattle.structures.specs.declared.StructureKind.{StructureKind}
use Rattle.structures.specs.declared.StructureKind.TheVariants.{Pattern, Instrument, SampleHeader}
use Rattle.structures.specs.declared.Ahead as code
use Rattle.structures.specs.declared.Structure.{Structure}
use Rattle.structures.proofs.Calls.{reached_back, call_numbers}
use Rattle.structures.proofs.HandingLaws.{hand_none}
use Rattle.tables.proofs.IntoLaws.{rows_counted}
use Rattle.reader.specs.declared.Reader.{Reader}
use Rattle.reader.specs.declared.count.Counts.{Counts}
use Rattle.reader.specs.Count.{structure_counts, counting, counted_numbers, count_results}
use Rattle.reader.proofs.CountLaws.{Called, kind_count}

-- What `from_start` promises; and what `next` does is `Called`
abbrev pub Started : Bor (List ℕ) → Reader → Type 0
Started file r = (r.file ≡ file) × (r.place ≡ outcome ahead_of (started file.now))

same_reader : {a b : Reader} → a.file ≡ b.file → a.place ≡ b.place → a ≡ b
same_reader e p = λ i. record { file = e i; place = p i }

-- No second answer fits, nor another reader after it
pub from_start_once : (file : Bor (List ℕ)) (r other : Reader) → Started file r → Started file other → r ≡ other
from_start_once file r other c d = same_reader (c.0 ∙ sym d.0) (c.1 ∙ sym d.1)

pub next_once : (r r' r'' : Reader) (answer other : Result (Option Structure) Refusal) → Called r answer r' → Called r other r'' → (answer ≡ other) × (r' ≡ r'')
next_once r r' r'' answer other c d = (c.0 ∙ sym d.0, same_reader (c.1 ∙ sym d.1) (c.2 ∙ sym d.2))

pub counted_once : (file : List ℕ) {answer other : Result Counts Refusal} → answer ≡ outcome (λ (c : Counts). c) (counting file)
    → other ≡ outcome (λ (c : Counts). c) (counting file) → answer ≡ other
counted_once file met e = met ∙ sym e

-- A call that hands over no structure leaves the reader as it was, whatever its place
some_kind : (kind : StructureKind) → kind_number (kind_in kind) ≡ 0 → ⊥
some_kind Pattern h = omega arith
some_kind Instrument h = omega arith
some_kind SampleHeader h = omega arith

none_told : (told : Option Structure) → result_in (standing_numbers (Ok told)) 0 ≡ 0 → told ≡ None
none_told (Some structure) h = absurd (some_kind structure.kind h)
none_told None h = refl

place_stays : (file : List ℕ) (place : Result code.Ahead Refusal) → result_in (standing_numbers (outcome standing_in (called file (reached_in place)))) 0 ≡ 0
    → outcome ahead_of (read_on file (reached_in place)) ≡ place
place_stays file (Ok a) h = ap (λ (b : Ahead). Ok (ahead_of b)) (hand_none file (ahead_in a) (none_told _ h))
place_stays file (Err refusal) h = refl

pub next_stays : (r r' : Reader) (answer : Result (Option Structure) Refusal) → Called r answer r' → result_in (standing_numbers answer) 0 ≡ 0 → r' ≡ r
next_stays r r' answer c h =
    same_reader c.1 (c.2 ∙ place_stays r.file.now r.place (sym (ap (λ (s : Result (Option Structure) Refusal). result_in (standing_numbers s) 0) c.0) ∙ h))

-- A reader from the start, and so many calls of it: the readers before and after them, and the answers
pub record ReadFor (file : Bor (List ℕ)) (calls : ℕ) (reader : ℕ → Reader) (answer : ℕ → Result (Option Structure) Refusal) : Type 0 where
  pub starts : Started file (reader 0)
  pub called : (n : ℕ) → n < calls → Called (reader n) (answer n) (reader (suc n))

module _ {file : Bor (List ℕ)} {calls : ℕ} {reader : ℕ → Reader} {answer : ℕ → Result (Option Structure) Refusal} (w : ReadFor file calls reader answer) where
  stands : (n : ℕ) → n ≤ calls → ((reader n).file ≡ file) × ((reader n).place ≡ outcome ahead_of (read_for file.now n))
  stands zero l = w.starts
  stands (suc n) l =
      let c = w.called n (omega arith) in
      let s = stands n (omega arith) in (
        c.1 ∙ s.0,
        c.2
            ∙ ap₂ (λ (f : Bor (List ℕ)) (place : Result code.Ahead Refusal). outcome ahead_of (read_on f.now (reached_in place))) s.0 s.1
            ∙ ap (λ (x : Answer Ahead). outcome ahead_of (read_on file.now x)) (reached_back (read_for file.now n)),
      )

  -- Each call gives what the definition says of its number
  told : (n : ℕ) → n < calls → standing_numbers (answer n) ≡ reading_numbers (called file.now (read_for file.now n))
  told n l =
      let s = stands n (omega arith) in
      ap standing_numbers
      ((w.called n l).0
      ∙ ap₂ (λ (f : Bor (List ℕ)) (place : Result code.Ahead Refusal). outcome standing_in (called f.now (reached_in place))) s.0 s.1
      ∙ ap (λ (x : Answer Ahead). outcome standing_in (called file.now x)) (reached_back (read_for file.now n)))
      ∙ call_numbers file.now (read_for file.now n)

  -- On a refused file that is the check's refusal
  pub refuses : (x : paper.Refusal) → read_file file.now ≡ refused x → (n : ℕ) → n < calls → standing_numbers (answer n) ≡ x.number ∷ x.place ∷ 0 ∷ 0 ∷ []
  refuses x e n l = told n l ∙ ap reading_numbers (readers_tell.refuses_so file.now x n e)

  -- The calls hand over the first structures of the definition's list, none left out; after the last, the end for ever
  module _ (found : Found) (end : ℕ) (plain : Bytes file.now) (reads : read_file file.now ≡ got found end) (n : ℕ) (l : n < calls) where
    tell : ReaderHandsOver file.now found
    tell = readers_tell.hands_over file.now found end plain reads

    pub hands_over_lem : n < length (structures found)
        → standing_numbers (answer n) ≡ 0 ∷ 0 ∷ kind_number (region_at (structures found) n).kind ∷ (region_at (structures found) n).place ∷ []
    hands_over_lem h = told n l ∙ ap reading_numbers (tell.each_one n h)

    pub ends : length (structures found) ≤ n → standing_numbers (answer n) ≡ 0 ∷ 0 ∷ 0 ∷ 0 ∷ []
    ends h = told n l ∙ ap reading_numbers (tell.end_then n h)

-- The numbers counted are those that the check reports
each_count : {A : Type 0} (kind : Kind) (f : A → List Region) (m : ℕ) → ((x : A) → length (of_kind kind (f x)) ≡ m) → (xs : List A)
    → length (of_kind kind (joined f xs)) ≡ m * length xs
each_count kind f m h [] = omega arith
each_count kind f m h (x ∷ xs) = omega (arith, kind_count kind (f x) (joined f xs), h x, each_count kind f m h xs)

instrument_none : (kind : ModuleKind) (i : InstrumentFound) → length (of_kind pattern_header ((instrument_format kind).regions i)) ≡ 0
instrument_none kind i =
    let heads = joined (stretch_region sample_header) i.samples.0 in
    let bytes = joined (stretch_region sample_data) i.samples.1 in
    omega (
      arith,
      kind_count pattern_header heads bytes,
      each_count pattern_header (stretch_region sample_header) 0 (λ x. refl) i.samples.0,
      each_count pattern_header (stretch_region sample_data) 0 (λ x. refl) i.samples.1,
    )

patterns_count : (found : Found) → length (of_kind pattern_header (regions_of found)) ≡ length (pattern_rows found)
patterns_count found =
    let kind = found.0.kind in
    let patterns = joined pattern_format.regions found.1.0 in
    let instruments = joined (instrument_format kind).regions found.1.1 in
    omega (
      arith,
      kind_count pattern_header patterns instruments,
      each_count pattern_header pattern_format.regions 1 (λ p. refl) found.1.0,
      each_count pattern_header (instrument_format kind).regions 0 (instrument_none kind) found.1.1,
      length-map found.1.0 pattern_row,
    )

pub counted_numbers_lem : (file : List ℕ) → Bytes file → {answer : Result Counts Refusal} → answer ≡ outcome (λ (c : Counts). c) (counting file)
    → counted_numbers answer ≡ numbers count_results (checking file)
unfolding counting checking
counted_numbers_lem file plain met = ap counted_numbers met ∙ go (read_file file) refl
  where
    go : (g : Got Found) → read_file file ≡ g
        → counted_numbers (outcome (λ (c : Counts). c) (answered (λ found end. structure_counts (structures found)) g)) ≡ numbers count_results (answered checked_as g)
    go (got found end) e =
        let tell = readers_tell.hands_over file found end plain e in
        let tables = (accepted_files file found end plain e).tables in
        let rows = rows_counted file found end e refl in
        let regions = regions_of found in
        cons_path refl (cons_path refl
        (cons_path (ap length (tell.every_kind pattern_header refl) ∙ patterns_count found ∙ rows.patterns)
        (cons_path (ap length (tell.every_kind instrument refl) ∙ sym (length-map (of_kind instrument regions) Stretch.place) ∙ ap length tables.instruments
        ∙ length-map (instrument_rows found) InstrumentRow.place ∙ rows.instruments)
        (cons_path (ap length (tell.every_kind sample_header refl) ∙ sym (length-map (of_kind sample_header regions) Stretch.place) ∙ ap length tables.heads
        ∙ length-map (sample_rows found) SampleRow.header_place) refl))))
    go (refused r) e = refl
