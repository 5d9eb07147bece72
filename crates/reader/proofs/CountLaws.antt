-- The structures counted one by one, as a reader from the start hands them over. Assumes nothing.
use Prim.Native.Nat.{ℕ, zero, suc, ◌+◌, ◌-◌, ◌*◌, ◌≤◌, ◌<◌, ◌^◌}
use mathlib.Core.Bool.{Bool, true, false}
use mathlib.Core.List.{List, [], ◌∷◌, ◌++◌}
use mathlib.Core.Path.{◌≡◌, refl, sym, ap, ap₂, ◌∙◌}
use native.Mathlib.Omega.{arith}
use borrow.Author.Tests.{ltb-true, ltb-false}
use lib.Dec.{ltb}
use lib.ListN.{length, take, length-append}
use denote.Ref.{Bor}
use Rattle.std.specs.Prelude.{Option, Some, None, Result, Ok, Err}
use Rattle.xm.specs.Number.{Bytes}
use Rattle.xm.specs.Got.{Got, got, refused, list_in}
use Rattle.xm.specs.Got as reading
use Rattle.xm.specs.Format.{Kind, Region, header, pattern_header, pattern_data, instrument, sample_header, sample_data, All}
use Rattle.xm.specs.Answer.{Answer, answered, result}
use Rattle.xm.specs.Module.{Found, regions_of, read_file}
use Rattle.xm.specs.Structure.{structures, called, read_on, read_for}
use Rattle.xm.specs.Structure as paper
use Rattle.xm.specs.Region.{of_kind, region_at}
use Rattle.xm.specs.Demands.{ReaderHandsOver}
use Rattle.xm.proofs.Got.{no_true}
use Rattle.xm.proofs.Format.{cons_path}
use Rattle.xm.proofs.Region.{kind_append}
use Rattle.xm.proofs.Structure.{readers_tell}
use Rattle.refusal.specs.Refusal.{code_refusal, outcome}
use Rattle.refusal.specs.declared.Refusal.{Refusal}
use Rattle.structures.specs.Handing.{standing_at, standing_in, ahead_of, reached_in}
use Rattle.structures.specs.declared.Structure.{Structure}
use Rattle.structures.specs.declared.StructureKind.{StructureKind}
use Rattle.structures.specs.declared.StructureKind.TheVariants.{Pattern, Instrument, SampleHeader}
use Rattle.structures.proofs.FewLaws.{structures_few}
use Rattle.structures.proofs.Calls.{IsStructure, all_structures, reached_back}
use Rattle.structures.proofs.HandingLaws.{stands_some}
use Rattle.reader.specs.declared.Reader.{Reader}
use Rattle.reader.specs.declared.count.Counts.{Counts}
use Rattle.reader.specs.Count.{structure_counts, total, counting, one_more}

-- Lists
take_next : (rs : List Region) (i : ℕ) → i < length rs → take (suc i) rs ≡ take i rs ++ (region_at rs i ∷ [])
take_next [] i l = absurd (omega arith)
take_next (r ∷ rs) zero l = refl
take_next (r ∷ rs) (suc i) l = cons_path refl (take_next rs i (omega arith))

take_whole : (rs : List Region) → take (length rs) rs ≡ rs
take_whole [] = refl
take_whole (r ∷ rs) = cons_path refl (take_whole rs)

pub all_at : (P : Region → Type 0) (rs : List Region) (i : ℕ) → All P rs → i < length rs → P (region_at rs i)
all_at P [] i h l = absurd (omega arith)
all_at P (r ∷ rs) zero h l = h.0
all_at P (r ∷ rs) (suc i) h l = all_at P rs i h.1 (omega arith)

-- One structure more
pub total_next : (counts : Counts) (kind : StructureKind) → total (one_more counts kind) ≡ total counts + 1
total_next counts Pattern = omega arith
total_next counts Instrument = omega arith
total_next counts SampleHeader = omega arith

pub kind_count : (kind : Kind) (xs ys : List Region) → length (of_kind kind (xs ++ ys)) ≡ length (of_kind kind xs) + length (of_kind kind ys)
kind_count kind xs ys = ap length (kind_append kind xs ys) ∙ length-append (of_kind kind xs) (of_kind kind ys)

same_counts : {a b : Counts} → a.patterns ≡ b.patterns → a.instruments ≡ b.instruments → a.samples ≡ b.samples → a ≡ b
same_counts p q r = λ i. record { patterns = p i; instruments = q i; samples = r i }

abbrev plus : Counts → Counts → Counts
plus a b = record { patterns = a.patterns + b.patterns; instruments = a.instruments + b.instruments; samples = a.samples + b.samples }

counts_append : (xs ys : List Region) → structure_counts (xs ++ ys) ≡ plus (structure_counts xs) (structure_counts ys)
counts_append xs ys = same_counts (kind_count pattern_header xs ys) (kind_count instrument xs ys) (kind_count sample_header xs ys)

abbrev only : (kind : Kind) (place size : ℕ) → List Region
only kind place size = record { kind = kind; place = place; size = size } ∷ []

counts_one : (counts : Counts) (kind : Kind) (place size : ℕ) {structure : Structure} → IsStructure kind → Some structure ≡ standing_at kind place
    → one_more counts structure.kind ≡ plus counts (structure_counts (only kind place size))
counts_one counts header place size h e = absurd (no_true h)
counts_one counts pattern_header place size {structure} h e =
    let told : structure.kind ≡ Pattern = cc in
    ap (one_more counts) told ∙ same_counts (omega arith) (omega arith) (omega arith)
counts_one counts pattern_data place size h e = absurd (no_true h)
counts_one counts instrument place size {structure} h e =
    let told : structure.kind ≡ Instrument = cc in
    ap (one_more counts) told ∙ same_counts (omega arith) (omega arith) (omega arith)
counts_one counts sample_header place size {structure} h e =
    let told : structure.kind ≡ SampleHeader = cc in
    ap (one_more counts) told ∙ same_counts (omega arith) (omega arith) (omega arith)
counts_one counts sample_data place size h e = absurd (no_true h)

-- No more are counted than were handed over
total_more : (kind : Kind) (place size : ℕ) (xs : List Region) → total (structure_counts (only kind place size ++ xs)) ≤ total (structure_counts xs) + 1
total_more header place size xs = omega arith
total_more pattern_header place size xs = omega arith
total_more pattern_data place size xs = omega arith
total_more instrument place size xs = omega arith
total_more sample_header place size xs = omega arith
total_more sample_data place size xs = omega arith

counts_few : (rs : List Region) (i : ℕ) → total (structure_counts (take i rs)) ≤ i
counts_few rs zero = omega arith
counts_few [] (suc i) = omega arith
counts_few (r ∷ rs) (suc i) = omega (arith, total_more r.kind r.place r.size (take i rs), counts_few rs i)

pub counted_few : (file : List ℕ) → Bytes file → result total (counting file) ≤ 256 + 17 * 128
unfolding counting
counted_few file plain = go (read_file file) refl
  where
    go : (g : Got Found) → read_file file ≡ g → result total (answered (λ found end. structure_counts (structures found)) g) ≤ 256 + 17 * 128
    go (got found end) e =
        let rs = structures found in
        omega (arith, ap (λ (xs : List Region). total (structure_counts xs)) (take_whole rs), counts_few rs (length rs), structures_few file found end plain e)
    go (refused r) e = omega arith

-- What `next` promises of a reader, of its answer and of the reader after it
abbrev pub Called : Reader → Result (Option Structure) Refusal → Reader → Type 0
Called r answer r' =
    (answer ≡ outcome standing_in (called r.file.now (reached_in r.place))) × (r'.file ≡ r.file)
    × (r'.place ≡ outcome ahead_of (read_on r.file.now (reached_in r.place)))

-- Before a call: so many structures are counted, and a reader from the start has read just these
pub record Turned (file : List ℕ) (r : Reader) (counts : Counts) : Type 0 where
  pub turns : ℕ
  pub most : turns ≤ length (list_in structures (read_file file))
  pub holds : r.file.now ≡ file
  pub reached : reached_in r.place ≡ read_for file turns
  pub counted : counts ≡ structure_counts (take turns (list_in structures (read_file file)))

-- What the call gives: a structure of an accepted file, the end of one, or the refusal
module _ (file : List ℕ) (plain : Bytes file) {r : Reader} {counts : Counts} (t : Turned file r counts)
    {answer : Result (Option Structure) Refusal} {r' : Reader} (told : Called r answer r') where
  abbrev all : List Region
  all = list_in structures (read_file file)

  call_gives : {R : Type 0}
      → ((region : Region) → IsStructure region.kind → total counts + 1 < 2 ^ 64 → t.turns < length all → take (suc t.turns) all ≡ take t.turns all ++ (region ∷ [])
      → answer ≡ Ok (standing_at region.kind region.place) → R)
      → (t.turns ≡ length all → Ok counts ≡ outcome (λ (c : Counts). c) (counting file) → answer ≡ Ok None → R)
      → ((why : reading.Refusal) → t.turns ≡ length all → outcome (λ (c : Counts). c) (counting file) ≡ Err (code_refusal why) → answer ≡ Err (code_refusal why) → R) → R
  unfolding counting
  call_gives {R} next ends refuses = go (read_file file) refl
    where
      said : answer ≡ outcome standing_in (called file (read_for file t.turns))
      said = told.0 ∙ ap₂ (λ (bytes : List ℕ) (x : Answer paper.Ahead). outcome standing_in (called bytes x)) t.holds t.reached

      go : (g : Got Found) → read_file file ≡ g → R
      go (got found end) q = by (ltb t.turns (length rs)) refl
        where
          rs : List Region
          rs = structures found

          same : all ≡ rs
          same = ap (list_in structures) q

          tell : ReaderHandsOver file found
          tell = readers_tell.hands_over file found end plain q

          by : (b : Bool) → ltb t.turns (length rs) ≡ b → R
          by true h =
              let l = ltb-true _ _ h in
              next (region_at rs t.turns) (all_at (λ (r : Region). IsStructure r.kind) rs t.turns (all_structures (regions_of found)) l)
              (omega (arith, ap total t.counted, counts_few all t.turns, structures_few file found end plain q))
              (rw same l) (rw same (take_next rs t.turns l))
              (said ∙ ap (outcome standing_in) (tell.each_one t.turns l))
          by false h =
              let most : t.turns ≤ length rs = rw same at t.most in
              let last : t.turns ≡ length rs = omega (arith, ltb-false _ _ h) in
              ends (rw same last)
              (ap Ok (t.counted ∙ ap structure_counts (ap₂ (λ (n : ℕ) (xs : List Region). take n xs) last same ∙ take_whole rs)) ∙ sym (ap (λ (g : Got Found). outcome (λ (c : Counts). c) (answered (λ found end. structure_counts (structures found)) g)) q))
              (said ∙ ap (outcome standing_in) (tell.end_then t.turns (omega arith)))
      go (refused why) q =
          let none : length all ≡ 0 = ap (λ (g : Got Found). length (list_in structures g)) q in
          refuses why (omega (arith, t.most)) (ap (λ (g : Got Found). outcome (λ (c : Counts). c) (answered (λ found end. structure_counts (structures found)) g)) q)
          (said ∙ ap (outcome standing_in) (readers_tell.refuses_so file why t.turns q))

  pub turned_inside : {structure : Structure} → answer ≡ Ok (Some structure) → t.turns < length all
  turned_inside e = call_gives (λ region k fits l more given. l) (λ last ends given. absurd (no_true (cc))) (λ why last refuses given. absurd (no_true (cc)))

  pub turned_last : answer ≡ Ok None → t.turns ≡ length all
  turned_last e = call_gives (λ region k fits l more given. absurd (stands_some region.kind region.place k (cc)))
      (λ last ends given. last) (λ why last refuses given. absurd (no_true (cc)))

  pub turned_out : {refusal : Refusal} → answer ≡ Err refusal → t.turns ≡ length all
  turned_out e = call_gives (λ region k fits l more given. absurd (no_true (cc))) (λ last ends given. last) (λ why last refuses given. last)

  -- after a structure one more is counted, and a reader from the start has read just these;
  pub turned_fits : {structure : Structure} → answer ≡ Ok (Some structure) → total counts + 1 < 2 ^ 64
  turned_fits e = call_gives (λ region k fits l more given. fits) (λ last ends given. absurd (no_true (cc))) (λ why last refuses given. absurd (no_true (cc)))

  pub turned_less : {structure : Structure} → answer ≡ Ok (Some structure) → {next : Counts} → next ≡ one_more counts structure.kind
      → length all - total next < length all - total counts
  turned_less {structure} e n = call_gives
      (λ region k fits l more given. omega (arith, ap total n, total_next counts structure.kind, ap total t.counted, counts_few all t.turns))
      (λ last ends given. absurd (no_true (cc))) (λ why last refuses given. absurd (no_true (cc)))

  pub turned_on : {structure : Structure} → answer ≡ Ok (Some structure) → {counts' : Counts} → counts' ≡ one_more counts structure.kind → Turned file r' counts'
  turned_on {structure} e c = call_gives
      (λ region k fits l more given. record {
        turns = suc t.turns;
        most = l;
        holds = ap (λ (b : Bor (List ℕ)). b.now) told.1 ∙ t.holds;
        reached = ap reached_in told.2 ∙ reached_back (read_on r.file.now (reached_in r.place))
            ∙ ap₂ (λ (bytes : List ℕ) (x : Answer paper.Ahead). read_on bytes x) t.holds t.reached;
        counted = c ∙ ap (λ (x : Counts). one_more x structure.kind) t.counted
            ∙ counts_one (structure_counts (take t.turns all)) region.kind region.place region.size {structure = structure} k (cc)
            ∙ sym (ap structure_counts more ∙ counts_append (take t.turns all) (region ∷ []));
      })
      (λ last ends given. absurd (no_true (cc))) (λ why last refuses given. absurd (no_true (cc)))

  -- at the end all are counted; and a refusal is the check's
  pub turned_done : answer ≡ Ok None → Ok counts ≡ outcome (λ (c : Counts). c) (counting file)
  turned_done e = call_gives
      (λ region k fits l more given. absurd (stands_some region.kind region.place k (cc)))
      (λ last ends given. ends) (λ why last refuses given. absurd (no_true (cc)))

  pub turned_refused : {refusal : Refusal} → answer ≡ Err refusal → Err refusal ≡ outcome (λ (c : Counts). c) (counting file)
  turned_refused e = call_gives
      (λ region k fits l more given. absurd (no_true (cc)))
      (λ last ends given. absurd (no_true (cc))) (λ why last refuses given. cc)
