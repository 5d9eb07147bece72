-- Laws of the loops over patterns and instruments. Assumes nothing.
use Prim.Native.Nat.{ℕ, ◌+◌, ◌-◌, ◌*◌, ◌≤◌, ◌<◌}
use mathlib.Core.List.{List, [], ◌∷◌, ◌++◌}
use mathlib.Core.Path.{◌≡◌, refl, sym, ap, ◌∙◌, subst}
use native.Mathlib.Omega.{arith}
use lib.ListN.{length, drop, replicate, length-append, length-drop, length-map, length-replicate, get_or-replicate}
use Rattle.xm.specs.Number.{Bytes}
use Rattle.xm.specs.ModuleKind.{ModuleKind, normal, stripped}
use Rattle.xm.specs.Got.{Got, got, refused, Told}
use Rattle.xm.specs.Format.{Format, each, joined}
use Rattle.xm.specs.Stored.{write_stored}
use Rattle.xm.specs.Header.{kind_at}
use Rattle.xm.specs.PatternInFile.{PatternFound, read_pattern, pattern_format}
use Rattle.xm.specs.Sample.{StretchFound}
use Rattle.xm.specs.Instrument.{Instrument, InstrumentFound, read_instrument, instrument_view, write_instrument, instrument_format}
use Rattle.xm.specs.Table.{sample_rows_in}
use Rattle.xm.proofs.Number.{bytes_drop}
use Rattle.xm.proofs.Got.{no_true, got_carry}
use Rattle.xm.proofs.Format.{joined-append}
use Rattle.xm.proofs.PatternInFile.{pattern_size, pattern_keeps}
use Rattle.xm.proofs.Instrument.{instrument_tells}
use Rattle.xm.proofs.Stripped.{instrument_keeps}
use Rattle.xm.proofs.Accepted.{rows_length}
use Rattle.refusal.specs.Refusal.{paper_refusal, step_by, place_step, step_refusal}
use Rattle.refusal.specs.declared.Refusal.{Refusal}
use Rattle.refusal.specs.declared.Step.{Step}
use Rattle.refusal.specs.declared.Step.TheVariants.{Given, Refused}
use Rattle.refusal.proofs.Steps.{given_got, next_got, step_refused}
use Rattle.mark.specs.declared.Mark.{Mark}
use Rattle.mark.specs.Mark.{number_of, mark_by, Put, Marks}
use Rattle.steps.specs.Step.{pattern_given, instrument_given}
use Rattle.steps.specs.declared.pattern.PatternPart.{PatternPart}
use Rattle.steps.specs.declared.instrument.InstrumentPart.{InstrumentPart}
use Rattle.forms.specs.Form.{form_by, FormIs}
use Rattle.forms.specs.declared.Form.{Form}
use Rattle.walk.specs.File.{run_given, count_given}
use Rattle.mark.proofs.MarkLaws.{mark_told, marks_more}
use Rattle.refusal.proofs.Walking.{refused_on, Reached, reached_start, reached_on, reached_out, reached_end, reached_place}

-- One more is written behind what is written
written_more : {H I A : Type 0} (F : Format H I A) (done : List I) (i : I)
    → length ((each F).write ((each F).view (done ++ (i ∷ [])))) ≡ length ((each F).write ((each F).view done)) + length (F.write (F.view i))
written_more F [] i = rw length-append (omega arith)
written_more F (x ∷ done) i = rw (length-append, length-append, written_more F done i) (omega arith)

-- The loop over the patterns: what is told of those read is the length of their pressed forms, and their marks
pub record PatternsTold (file : List ℕ) (pressed : ℕ) (marks : List ℕ) (done : List PatternFound) : Type 0 where
  pub written : pressed ≡ length ((each pattern_format).write ((each pattern_format).view done))
  pub marked : Marks file 0 done marks

pub record PatternsRead (file : List ℕ) (start channels count j place pressed : ℕ) (marks : List ℕ) : Type 0 where
  pub reached : Reached pattern_format (replicate count channels) file start (PatternsTold file pressed marks) j place
  pub inside : place ≤ length file
  pub short : start + pressed ≤ place

module _ (file : List ℕ) (start channels count : ℕ) where
  abbrev patterns : Got (List PatternFound)
  patterns = (each pattern_format).read (replicate count channels) start (drop start file)

  pub patterns_start : (marks : List ℕ) → start ≤ length file → PatternsRead file start channels count 0 start 0 marks
  patterns_start marks l = record {
    reached = reached_start pattern_format _ file start (PatternsTold file 0 marks) (record { written = refl; marked = tt });
    inside = l;
    short = omega arith;
  }

  module _ {j place pressed : ℕ} {marks : List ℕ} (w : PatternsRead file start channels count j place pressed marks) where
    pub patterns_end : count ≤ j → (Given (record { next = place; pressed = pressed }) ≡ step_by (run_given pattern_format start) patterns)
        × ((is : List PatternFound) (n : ℕ) → patterns ≡ got is n → Marks file 0 is marks)
    patterns_end h =
        let e = reached_end pattern_format _ file start w.reached (rw length-replicate h) in
        let on : place ≡ start + (place - start) = omega (arith, w.reached.left.from) in (
          cc (e, w.reached.told.written),
          λ is n q. got_carry (λ (r : List PatternFound) (u : ℕ). Marks file 0 r marks) (sym e ∙ q) w.reached.told.marked,
        )

    module _ (h : j < count) where
      -- A refusal leaves nothing to mark
      pub patterns_out : {step : Step PatternPart} {f r : Refusal}
          → step ≡ step_by (pattern_given file place) (read_pattern channels place (drop place file))
          → step ≡ Refused f → r ≡ step_refusal step
          → (Refused r ≡ step_by (run_given pattern_format start) patterns) × ((is : List PatternFound) (n : ℕ) → patterns ≡ got is n → Marks file 0 is marks)
      patterns_out e told passed =
          let out =
          reached_out pattern_format _ file start w.reached channels (rw length-replicate h) (get_or-replicate count j channels channels h)
          (step_refused (pattern_given file place) _ e told passed) in
          (sym (ap (step_by (run_given pattern_format start)) out), λ is n q. absurd (no_true (cc)))

      module _ (b : Bytes file) (c : 1 ≤ channels) {part : PatternPart}
          (e : Given part ≡ step_by (pattern_given file place) (read_pattern channels place (drop place file))) where
        pub patterns_on : {mark : Mark} {number : ℕ} {after : List ℕ} → mark ≡ mark_by part.shortest part.same → number ≡ number_of mark
            → Put marks j number after
            → PatternsRead file start channels count (j + 1) part.next (pressed + (9 + part.shortest)) after
        patterns_on {after = after} by told put = given_got (pattern_given file place) _ e λ i n ei is.
            let k = (pattern_keeps channels c).keeps place (drop place file) i n (bytes_drop place b) ei in
            let size = pattern_size channels i.content k.good in
            let long : part.shortest ≡ length (write_stored i.content) = ap PatternPart.shortest is in
            let on = ap PatternPart.next is in
            let done = w.reached.done in
            let count = w.reached.left.count in
            record {
              reached =
                  reached_on pattern_format _ file start w.reached channels (rw length-replicate h) (get_or-replicate _ j channels channels h)
                  (PatternsTold file _ _) ei (ap PatternPart.next is)
                  (λ t. record {
                    written = omega (arith, t.written, size, long, written_more pattern_format done i);
                    marked =
                        marks_more file 0 done (omega (arith, count)) (subst (λ (n : ℕ). Put marks j n after) told put) t.marked
                        (mark_told file i long (ap PatternPart.same is) by);
                  });
              inside = omega (arith, w.inside, k.inside, on, length-drop place file);
              short = omega (arith, w.short, k.short, size, on, long);
            }

-- The same, where patterns are only tried
pub record PatternsTried (file : List ℕ) (start channels count j place : ℕ) : Type 0 where
  pub reached : Reached pattern_format (replicate count channels) file start (λ done. Unit {0}) j place
  pub inside : place ≤ length file

module _ (file : List ℕ) (start channels count : ℕ) where
  pub tried_start : start ≤ length file → PatternsTried file start channels count 0 start
  tried_start l = record { reached = reached_start pattern_format _ file start (λ done. Unit {0}) tt; inside = l }

  module _ {j place : ℕ} (w : PatternsTried file start channels count j place) where
    pub tried_end : count ≤ j → Given place ≡ place_step start ((each pattern_format).read (replicate count channels) start (drop start file))
    tried_end h = reached_place pattern_format _ file start w.reached (rw length-replicate h)

    module _ (h : j < count) where
      pub tried_out : {step : Step ℕ} {f : Refusal} → step ≡ place_step place (read_pattern channels place (drop place file)) → step ≡ Refused f
          → step ≡ place_step start ((each pattern_format).read (replicate count channels) start (drop start file))
      tried_out e told = refused_on place start _ _ e told λ r er.
          reached_out pattern_format _ file start w.reached channels (rw length-replicate h) (get_or-replicate count j channels channels h) er

      pub tried_on : Bytes file → 1 ≤ channels → {next : ℕ} → Given next ≡ place_step place (read_pattern channels place (drop place file))
          → PatternsTried file start channels count (j + 1) next
      tried_on b c e = next_got place _ e λ i n ei q.
          let k = (pattern_keeps channels c).keeps place (drop place file) i n (bytes_drop place b) ei in
          record {
            reached = reached_on pattern_format _ file start w.reached channels (rw length-replicate h) (get_or-replicate count j channels channels h)
                (λ done. Unit {0}) ei q (λ t. tt);
            inside = omega (arith, w.inside, k.inside, length-drop place file);
          }

-- The loop over instruments that are counted
pub record InstrumentsTried (file : List ℕ) (start count j place samples : ℕ) : Type 0 where
  pub reached : Reached (instrument_format (kind_at file)) (replicate count tt) file start (λ done. samples ≡ length (joined sample_rows_in done)) j place
  pub inside : place ≤ length file
  pub few : samples ≤ 16 * j

-- and over those that are measured: written in a kind of module, they are longer by no more than fields and headers take
pub record InstrumentsRead (file : List ℕ) (to : ModuleKind) (start count j place pressed : ℕ) : Type 0 where
  pub reached : Reached (instrument_format (kind_at file)) (replicate count tt) file start
      (λ done. pressed ≡ length ((each (instrument_format to)).write ((each (instrument_format to)).view done))) j place
  pub inside : place ≤ length file
  pub short : start + pressed ≤ place + 903 * j

form_length : (to : ModuleKind) (x : Instrument) → (form_by to x).length ≡ length (write_instrument to x)
form_length normal x = refl
form_length stripped x = refl

module _ (file : List ℕ) (start count : ℕ) where
  abbrev kind : ModuleKind
  kind = kind_at file

  abbrev instruments : Got (List InstrumentFound)
  instruments = (each (instrument_format kind)).read (replicate count tt) start (drop start file)

  pub counted_start : start ≤ length file → InstrumentsTried file start count 0 start 0
  counted_start l = record { reached = reached_start (instrument_format kind) _ file start _ refl; inside = l; few = omega arith }

  pub instruments_start : (to : ModuleKind) → start ≤ length file → InstrumentsRead file to start count 0 start 0
  instruments_start to l = record { reached = reached_start (instrument_format kind) _ file start _ refl; inside = l; short = omega arith }

  module _ {j place : ℕ} {Told : List InstrumentFound → Type 0} (w : Reached (instrument_format kind) (replicate count tt) file start Told j place)
      (h : j < count) where
    pub instruments_out : {step : Step InstrumentPart} {f r : Refusal}
        → step ≡ step_by (instrument_given place) (read_instrument kind place (drop place file))
        → step ≡ Refused f → r ≡ step_refusal step
        → instruments ≡ refused (paper_refusal r)
    instruments_out e told passed =
        reached_out (instrument_format kind) _ file start w tt (rw length-replicate h) (get_or-replicate count j tt tt h)
        (step_refused (instrument_given place) _ e told passed)

  module _ {j place samples : ℕ} (w : InstrumentsTried file start count j place samples) where
    pub counted_end : count ≤ j → Given (record { next = place; samples = samples }) ≡ step_by (count_given start) instruments
    counted_end h =
        let on : place ≡ start + (place - start) = omega (arith, w.reached.left.from) in
        cc (reached_end (instrument_format kind) _ file start w.reached (rw length-replicate h), w.reached.told)

    pub counted_on : j < count → Bytes file → {part : InstrumentPart}
        → Given part ≡ step_by (instrument_given place) (read_instrument kind place (drop place file))
        → InstrumentsTried file start count (j + 1) part.next (samples + part.samples)
    counted_on h b e = given_got (instrument_given place) _ e λ i n ei is.
        let k = (instrument_keeps kind).keeps place (drop place file) i n (bytes_drop place b) ei in
        let on = ap InstrumentPart.next is in
        let counted = ap InstrumentPart.samples is in
        let heads = length-map i.samples.0 StretchFound.bytes in
        let rows = rows_length i.samples.0 i.samples.1 ((instrument_tells kind).tells place file i n b ei).sizes in
        record {
          reached =
              reached_on (instrument_format kind) _ file start w.reached tt (rw length-replicate h) (get_or-replicate count j tt tt h) _ ei (ap InstrumentPart.next is)
              (λ t. rw (joined-append, length-append, length-append) (omega (arith, t, rows, counted)));
          inside = omega (arith, w.inside, k.inside, on, length-drop place file);
          few = omega (arith, w.few, k.good.few, heads, counted);
        }

  module _ {to : ModuleKind} {j place pressed : ℕ} (w : InstrumentsRead file to start count j place pressed) where
    pub instruments_short : pressed ≤ length file + 903 * count
    instruments_short = omega (arith, w.short, w.inside, w.reached.left.some, length-replicate {A = Unit {0}} count tt)

    pub instruments_end : count ≤ j → Given (record { next = place; pressed = pressed }) ≡ step_by (run_given (instrument_format to) start) instruments
    instruments_end h =
        let on : place ≡ start + (place - start) = omega (arith, w.reached.left.from) in
        cc (reached_end (instrument_format kind) _ file start w.reached (rw length-replicate h), w.reached.told)

    pub instruments_on : j < count → Bytes file → {part : InstrumentPart} (form : Form)
        → Given part ≡ step_by (instrument_given place) (read_instrument kind place (drop place file))
        → Told (λ i. FormIs to place part.next (instrument_view i) form) (read_instrument kind place (drop place file))
        → InstrumentsRead file to start count (j + 1) part.next (pressed + form.length)
    instruments_on h b {part} form e told = given_got (instrument_given place) _ e λ i n ei is.
        let k = (instrument_keeps kind).keeps place (drop place file) i n (bytes_drop place b) ei in
        let on = ap InstrumentPart.next is in
        let f : FormIs to place part.next (instrument_view i) form = rw ei at told in
        let long : form.length ≡ length (write_instrument to (instrument_view i)) = ap Form.length f.is ∙ form_length to (instrument_view i) in
        record {
          reached =
              reached_on (instrument_format kind) _ file start w.reached tt (rw length-replicate h) (get_or-replicate count j tt tt h) _ ei (ap InstrumentPart.next is)
              (λ t. omega (arith, t, written_more (instrument_format to) w.reached.done i));
          inside = omega (arith, w.inside, k.inside, on, length-drop place file);
          short = omega (arith, w.short, f.most);
        }
