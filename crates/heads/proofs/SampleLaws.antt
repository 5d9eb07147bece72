-- Laws of the steps over sample headers and sample data. Assumes nothing.
use borrow.Author.Rules.{rules}
use Prim.Native.Nat.{ℕ, zero, suc, ◌+◌, ◌-◌, ◌*◌, ◌≤◌, ◌<◌}
use mathlib.Core.Bool.{Bool, true, false, cond}
use mathlib.Core.List.{List, [], ◌∷◌}
use mathlib.Core.Path.{◌≡◌, refl, sym, ap, ap₂, ◌∙◌}
use native.Mathlib.Nat.{add_assoc, add-sub_cancel_left, zero-mul}
use native.Mathlib.Omega.{arith}
use lib.Dec.{eqb}
use lib.ListN.{length, get_or, take, drop, replicate, length-take, length-drop, length-append, length-replicate, get_or-replicate}
use lib.Seq.{drop-drop, length-take-le}
use Rattle.std.specs.Prelude.{Ok, Err}
use Rattle.xm.specs.ModuleKind.{padded}
use Rattle.xm.specs.Answer.{in_front}
use Rattle.xm.specs.Got.{Got, got, refused, ◌>>=◌, ◌>>◌, checked, ◌at◌}
use Rattle.xm.specs.Format.{each}
use Rattle.xm.specs.Sample.{least_head, head_bytes, adpcm, adpcm_size, data_size_by, data_size, StretchFound, read_head, read_data, head_format, data_format}
use Rattle.xm.specs.Sample.{SamplesFound}
use Rattle.xm.specs.Sample.{samples_format, size_of_first}
use Rattle.xm.proofs.Number.{Agree, agree_byte, agree_long}
use Rattle.xm.proofs.Cut.{padded-length, take-padded, front_padded, padded_zeros}
use Rattle.xm.proofs.Got.{pass, step, test_holds, test_fails, step_refused, passed, bind_got, got_value, got_used, got_carry}
use Rattle.xm.proofs.Format.{cons_path, read_length}
use Rattle.xm.proofs.Instrument.{heads_used}
use Rattle.refusal.specs.Refusal.{code_refusal, refusal_at, place_step}
use Rattle.refusal.specs.declared.Cause.{Cause}
use Rattle.refusal.specs.declared.Refusal.{Refusal}
use Rattle.refusal.specs.declared.Step.{Step}
use Rattle.refusal.specs.declared.Step.TheVariants.{Given, Refused}
use Rattle.refusal.proofs.Steps.{next_got}
use Rattle.refusal.specs.Test.{tested}
use Rattle.heads.specs.Sample.{fields_end, HeadAt, head_tests_of, heads_from}
use Rattle.heads.specs.declared.SampleHead.{SampleHead}
use Rattle.refusal.proofs.TestLaws.{tested_holds, tested_refuses}
use Rattle.refusal.proofs.Walking.{refused_on, Reached, reached_start, reached_on, reached_out, reached_place}

-- A header's fields are the same of any bytes that begin alike
pub head_alike : {s t : List ℕ} → Agree fields_end s t → {r : SampleHead} → HeadAt s r → HeadAt t r
head_alike a v = record {
  value = v.value ∙ cc (
    agree_long a 0 (omega arith),
    agree_long a 4 (omega arith),
    agree_long a 8 (omega arith),
    agree_byte a 13 (omega arith),
    agree_byte a 14 (omega arith),
    agree_byte a 16 (omega arith),
    agree_byte a 17 (omega arith),
  );
  length_small = v.length_small;
  start_small = v.start_small;
  looped_small = v.looped_small;
}

-- as those of a header do and what is there of it, be it long enough or filled up with zeros
pub whole_alike : (size : ℕ) (s : List ℕ) → fields_end ≤ size → size ≤ length s → Agree fields_end s (head_bytes size s)
whole_alike size s h there = record {
  long = omega (arith, padded-length least_head (take size s));
  same = sym (front_padded fields_end least_head size s (omega arith) h there);
}

pub cut_alike : (size : ℕ) (s : List ℕ) → Agree fields_end (padded fields_end (take size s)) (head_bytes size s)
cut_alike size s = record {
  long = omega (arith, padded-length least_head (take size s));
  same = take-padded fields_end fields_end (take size s) (omega arith) ∙ sym (take-padded fields_end least_head (take size s) (omega arith));
}

-- What is there of it, copied over zeros
pub cut_filled : (file : List ℕ) (place size : ℕ) → size ≤ fields_end → {bytes : List ℕ}
    → bytes ≡ in_front (take (place + size - place) (drop place file)) (replicate fields_end 0) → bytes ≡ padded fields_end (take size (drop place file))
cut_filled file place size few e =
    e ∙ ap (λ (n : ℕ). in_front (take n (drop place file)) (replicate fields_end 0)) (add-sub_cancel_left place size)
    ∙ padded_zeros fields_end (take size (drop place file)) (omega (arith, length-take size (drop place file)))

-- A header's tests, by the fields that the code has
same_refusal : (place : ℕ) (head : SampleHead) → tested (head_tests_of 0 head) ≡ tested (head_tests_of place head)
same_refusal place head = search rules

module _ (file : List ℕ) (place size : ℕ) {head : SampleHead} (v : HeadAt (head_bytes size (drop place file)) head) (there : place + size ≤ length file) where
  abbrev found : Got StretchFound
  found = got (record { place = place; size = size; bytes = head_bytes size (drop place file) }) size

  read_by : read_head size place (drop place file) ≡ (checked (head_tests_of place head) >> found)
  unfolding read_head
  read_by =
      test_holds _ _ found (omega (arith, length-drop place file)) ∙ ap (λ (h : SampleHead). checked (head_tests_of place h) >> found) (sym v.value)

  pub head_fails : {cause : Cause} → tested (head_tests_of 0 head) ≡ Err cause → Refused (refusal_at cause place) ≡ place_step place (read_head size place (drop place file))
  head_fails e =
      sym (ap (place_step place) (read_by ∙ tested_refuses place (head_tests_of place head) found (omega arith) (sym (same_refusal place head) ∙ e)))

  pub head_passed : tested (head_tests_of 0 head) ≡ Ok tt → Given (place + size) ≡ place_step place (read_head size place (drop place file))
  head_passed e =
      sym (ap (place_step place) (read_by ∙ pass (head_tests_of place head) (tested_holds (head_tests_of place head) (sym (same_refusal place head) ∙ e)) refl))

-- Sample data: as many bytes as the header says, which are no more than a length can say
module _ {bytes : List ℕ} {head : SampleHead} (v : HeadAt bytes head) where
  pub head_size : data_size_by head.kind head.length ≡ data_size bytes
  unfolding data_size
  head_size = ap (λ (h : SampleHead). data_size_by h.kind h.length) v.value

  pub size_small : data_size_by head.kind head.length < 4294967296
  size_small = go (eqb head.kind adpcm) head.length v.length_small
    where
      go : (b : Bool) (n : ℕ) → n < 4294967296 → cond b (adpcm_size n) n < 4294967296
      go true zero h = omega arith
      go true (suc n) h = omega arith
      go false n h = h

module _ (file : List ℕ) (head_place size place : ℕ) {head : SampleHead} (v : HeadAt (head_bytes size (drop head_place file)) head) {bytes : ℕ}
    (said : bytes ≡ data_size_by head.kind head.length) where
  same_size : bytes ≡ data_size (head_bytes size (drop head_place file))
  same_size = said ∙ head_size v

  pub data_cut : length file < place + bytes → place ≤ length file
      → Refused (code_refusal (1 at place)) ≡ place_step place (read_data (head_bytes size (drop head_place file)) place (drop place file))
  unfolding read_data
  data_cut h l = sym (ap (place_step place) (test_fails _ _ _ (λ q. omega (arith, same_size, length-drop place file))))

  pub data_there : place + bytes ≤ length file
      → Given (place + bytes) ≡ place_step place (read_data (head_bytes size (drop head_place file)) place (drop place file))
  unfolding read_data
  data_there h = ap (λ (n : ℕ). Given (place + n)) same_size ∙ sym (ap (place_step place) (pass _ (omega (arith, same_size, length-drop place file), tt) refl))

-- The loop over the headers
head_used : (size place : ℕ) (s : List ℕ) {i : StretchFound} {n : ℕ} → read_head size place s ≡ got i n → (i.bytes ≡ head_bytes size s) × (n ≡ size)
unfolding read_head
head_used size place s e = passed _ _ e λ h e. (ap StretchFound.bytes (sym (got_value e)), sym (got_used e))

pub record HeadsRead (file : List ℕ) (start size count j place : ℕ) : Type 0 where
  pub reached : Reached head_format (replicate count size) file start (λ done. Unit {0}) j place
  pub there : place ≡ start + j * size

module _ (file : List ℕ) (start size count : ℕ) where
  pub heads_start : HeadsRead file start size count 0 start
  heads_start = record { reached = reached_start head_format _ file start (λ done. Unit {0}) tt; there = omega arith }

  module _ {j place : ℕ} (w : HeadsRead file start size count j place) where
    pub heads_on : j < count → {next : ℕ} → Given next ≡ place_step place (read_head size place (drop place file)) → HeadsRead file start size count (j + 1) next
    heads_on h e = next_got place _ e λ i n ei q. record {
      reached = reached_on head_format _ file start w.reached size (rw length-replicate h) (get_or-replicate count j size size h) (λ done. Unit {0}) ei q
          (λ t. tt);
      there = omega (arith, w.there, (head_used size place (drop place file) ei).1);
    }

    pub heads_out : j < count → {step : Step ℕ} {f : Refusal} → step ≡ place_step place (read_head size place (drop place file)) → step ≡ Refused f
        → step ≡ place_step start ((each head_format).read (replicate count size) start (drop start file))
    heads_out h e told =
        refused_on place start _ _ e told λ r er.
        reached_out head_format _ file start w.reached size (rw length-replicate h) (get_or-replicate count j size size h) er

    pub heads_end : count ≤ j → Given place ≡ place_step start ((each head_format).read (replicate count size) start (drop start file))
    heads_end h = reached_place head_format _ file start w.reached (rw length-replicate h)

-- The bytes of a run of headers: the j-th stands j times a header's size on
length_heads : (count size : ℕ) (s : List ℕ) → length (heads_from count size s) ≡ count
unfolding heads_from
length_heads zero size s = refl
length_heads (suc count) size s = ap suc (length_heads count size (drop size s))

get_or_heads : (count size j : ℕ) (s d : List ℕ) → j < count → get_or (heads_from count size s) j d ≡ head_bytes size (drop (j * size) s)
unfolding heads_from
get_or_heads zero size j s d h = absurd (omega arith)
get_or_heads (suc count) size zero s d h = ap (λ (n : ℕ). head_bytes size (drop n s)) (sym (zero-mul size))
get_or_heads (suc count) size (suc j) s d h =
    let e : size + j * size ≡ suc j * size = omega arith in
    get_or_heads count size j (drop size s) d (omega arith) ∙ ap (head_bytes size) (drop-drop (j * size) size s ∙ ap (λ (n : ℕ). drop n s) e)

-- The loop over the data
data_inside : (head : List ℕ) (place : ℕ) (s : List ℕ) {i : StretchFound} {n : ℕ} → read_data head place s ≡ got i n → n ≤ length s
unfolding read_data
data_inside head place s e = passed _ _ e λ h e. omega (arith, h.0, got_used e)

pub record DataRead (file : List ℕ) (heads size count start j place : ℕ) : Type 0 where
  pub reached : Reached data_format (heads_from count size (drop heads file)) file start (λ done. Unit {0}) j place
  pub inside : place ≤ length file

module _ (file : List ℕ) (heads size count start : ℕ) where
  pub data_start_lem : start ≤ length file → DataRead file heads size count start 0 start
  data_start_lem l = record { reached = reached_start data_format _ file start (λ done. Unit {0}) tt; inside = l }

  module _ {j place : ℕ} (w : DataRead file heads size count start j place) where
    module _ (h : j < count) where
      same_head : (d : List ℕ) → get_or (heads_from count size (drop heads file)) j d ≡ head_bytes size (drop (heads + j * size) file)
      same_head d = get_or_heads count size j (drop heads file) d h ∙ ap (head_bytes size) (drop-drop (j * size) heads file)

      pub data_on : {next : ℕ} → Given next ≡ place_step place (read_data (head_bytes size (drop (heads + j * size) file)) place (drop place file))
          → DataRead file heads size count start (j + 1) next
      data_on e = next_got place _ e λ i n ei q. record {
        reached =
            reached_on data_format _ file start w.reached (head_bytes size (drop (heads + j * size) file)) (rw length_heads h) (same_head _) (λ done. Unit {0}) ei q
            (λ t. tt);
        inside = omega (arith, w.inside, data_inside _ place (drop place file) ei, length-drop place file);
      }

      pub data_out : {step : Step ℕ} {f : Refusal} → step ≡ place_step place (read_data (head_bytes size (drop (heads + j * size) file)) place (drop place file))
          → step ≡ Refused f
          → step ≡ place_step start ((each data_format).read (heads_from count size (drop heads file)) start (drop start file))
      data_out e told = refused_on place start _ _ e told λ r er.
          reached_out data_format _ file start w.reached (head_bytes size (drop (heads + j * size) file)) (rw length_heads h) (same_head _) er

    pub data_end_lem : count ≤ j → Given place ≡ place_step start ((each data_format).read (heads_from count size (drop heads file)) start (drop start file))
    data_end_lem h = reached_place data_format _ file start w.reached (rw length_heads h)

-- All headers, and then the data of each
pub heads_viewed : (count size place : ℕ) (s : List ℕ) (is : List StretchFound) (n : ℕ) → (each head_format).read (replicate count size) place s ≡ got is n
    → (each head_format).view is ≡ heads_from count size s
unfolding heads_from
heads_viewed zero size place s is n e = got_carry (λ (r : List StretchFound) (u : ℕ). (each head_format).view r ≡ []) e refl
heads_viewed (suc count) size place s is n e =
    bind_got _ _ e λ i k ei e₁. bind_got _ _ e₁ λ js m ej e₂.
    let u = head_used size place s ei in
    got_carry (λ (r : List StretchFound) (t : ℕ). (each head_format).view r ≡ head_bytes size s ∷ heads_from count size (drop size s)) e₂
    (cons_path u.0 (heads_viewed count size (place + k) (drop k s) js m ej ∙ ap (λ (o : ℕ). heads_from count size (drop o s)) u.1))

place_then : {A B : Type 0} (a : A) (start n : ℕ) (g : Got B) → place_step (start + n) g ≡ place_step {A = A × B} start (g >>= (λ (b, m). got (a, b) (n + m)))
unfolding ◌>>=◌
place_then a start n (got b m) = ap Given (add_assoc start n m)
place_then a start n (refused r) = refl

module _ (file : List ℕ) (start size count : ℕ) where
  abbrev heads : Got (List StretchFound)
  heads = (each head_format).read (replicate count size) start (drop start file)

  abbrev samples : Got SamplesFound
  samples = samples_format.read (replicate count size) start (drop start file)

  pub samples_out : {step : Step ℕ} {f : Refusal} → step ≡ place_step start heads → step ≡ Refused f → step ≡ place_step start samples
  samples_out e told = refused_on start start heads samples e told λ r er. step_refused _ er

  pub samples_on : {next : ℕ} → Given next ≡ place_step start heads
      → place_step next ((each data_format).read (heads_from count size (drop start file)) next (drop next file)) ≡ place_step start samples
  samples_on e = next_got start heads e λ hs n eh q.
      rw q
      (ap₂ (λ (views : List (List ℕ)) (s : List ℕ). place_step (start + n) ((each data_format).read views (start + n) s))
      (sym (heads_viewed count size start (drop start file) hs n eh)) (sym (drop-drop n start file))
      ∙ place_then hs start n _
      ∙ ap (place_step start) (sym (step _ eh refl)))

  pub heads_behind : {next : ℕ} → Given next ≡ place_step start heads → next ≡ start + count * size
  heads_behind e = next_got start heads e λ hs n eh q. omega (arith, heads_used count size start (drop start file) hs n eh)

-- What the samples take, and what they are written in: 40 bytes a header, and the data as they are
heads_written : (count size place : ℕ) (s : List ℕ) (is : List StretchFound) (n : ℕ) → (each head_format).read (replicate count size) place s ≡ got is n
    → length ((each head_format).write ((each head_format).view is)) ≡ count * least_head
unfolding read_head
heads_written zero size place s is n e =
    got_carry (λ (r : List StretchFound) (u : ℕ). length ((each head_format).write ((each head_format).view r)) ≡ 0 * least_head) e refl
heads_written (suc count) size place s is n e =
    bind_got _ _ e λ i k ei e₁. bind_got _ _ e₁ λ js m ej e₂.
    passed _ _ ei λ h ei.
    let one : length i.bytes ≡ least_head = ap (λ (t : StretchFound). length t.bytes) (sym (got_value ei)) ∙ padded-length least_head (take size s) in
    got_carry (λ (r : List StretchFound) (u : ℕ). length ((each head_format).write ((each head_format).view r)) ≡ suc count * least_head) e₂
    (rw length-append (omega (arith, one, heads_written count size (place + k) (drop k s) js m ej)))

data_written : (heads : List (List ℕ)) (place : ℕ) (s : List ℕ) (ds : List StretchFound) (n : ℕ) → (each data_format).read heads place s ≡ got ds n
    → length ((each data_format).write ((each data_format).view ds)) ≡ n
unfolding read_data
data_written [] place s ds n e = got_carry (λ (r : List StretchFound) (u : ℕ). length ((each data_format).write ((each data_format).view r)) ≡ u) e refl
data_written (h ∷ hs) place s ds n e =
    bind_got _ _ e λ i k ei e₁. bind_got _ _ e₁ λ js m ej e₂.
    passed _ _ ei λ t ei.
    let one : length i.bytes ≡ data_size h = ap (λ (t : StretchFound). length t.bytes) (sym (got_value ei)) ∙ length-take-le (data_size h) s t.0 in
    got_carry (λ (r : List StretchFound) (u : ℕ). length ((each data_format).write ((each data_format).view r)) ≡ u) e₂
    (rw length-append (omega (arith, one, got_used ei, data_written hs (place + k) (drop k s) js m ej)))

first_size : (count size place : ℕ) (s : List ℕ) (is : List StretchFound) (n : ℕ) → (each head_format).read (replicate (suc count) size) place s ≡ got is n
    → size_of_first is ≡ size
unfolding read_head
first_size count size place s is n e =
    bind_got _ _ e λ i k ei e₁. bind_got _ _ e₁ λ js m ej e₂.
    passed _ _ ei λ h ei.
    got_carry (λ (r : List StretchFound) (u : ℕ). size_of_first r ≡ size) e₂ (ap StretchFound.size (sym (got_value ei)))

pub record SamplesSize (count size : ℕ) (v : SamplesFound) (n : ℕ) : Type 0 where
  pub counted : length v.0 ≡ count
  pub first : 1 ≤ count → size_of_first v.0 ≡ size
  pub heads : count * size ≤ n
  pub headed : length ((each head_format).write ((each head_format).view v.0)) ≡ count * least_head
  pub behind : length ((each data_format).write ((each data_format).view v.1)) + count * size ≡ n

pub samples_size : (count size place : ℕ) (s : List ℕ) (v : SamplesFound) (n : ℕ) → samples_format.read (replicate count size) place s ≡ got v n
    → SamplesSize count size v n
samples_size count size place s v n e =
    bind_got _ _ e λ hs m eh e₁. bind_got _ _ e₁ λ ds k ed e₂.
    let used = heads_used count size place s hs m eh in
    got_carry (λ (r : SamplesFound) (u : ℕ). SamplesSize count size r u) e₂
    (record {
      counted = read_length head_format (replicate count size) place s hs m eh ∙ length-replicate count size;
      first = one count eh;
      heads = omega (arith, used);
      headed = heads_written count size place s hs m eh;
      behind = omega (arith, used, data_written ((each head_format).view hs) (place + m) (drop m s) ds k ed);
    })
  where
    one : (count : ℕ) {hs : List StretchFound} {m : ℕ} → (each head_format).read (replicate count size) place s ≡ got hs m → 1 ≤ count → size_of_first hs ≡ size
    one zero e h = absurd (omega arith)
    one (suc count) e h = first_size count size place s _ _ e
