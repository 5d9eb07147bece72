-- What an accepted instrument says of the bytes at its place: its samples' rows, and where the next structure starts. Assumes nothing.
use Prim.Native.Nat.{ℕ, zero, suc, ◌+◌, ◌-◌, ◌*◌, ◌≤◌, ◌<◌}
use mathlib.Core.Bool.{true}
use mathlib.Core.List.{List, ◌∷◌, map}
use mathlib.Core.Path.{◌≡◌, refl, sym, ap, ◌∙◌}
use native.Mathlib.Nat.{zero-mul}
use native.Mathlib.Omega.{arith}
use lib.ListN.{length, drop, replicate, length-drop, length-replicate}
use lib.Seq.{drop-drop}
use Rattle.xm.specs.Number.{Bytes}
use Rattle.xm.specs.ModuleKind.{ModuleKind}
use Rattle.xm.specs.Got.{got, AllHold, accepted}
use Rattle.xm.specs.Format.{each}
use Rattle.xm.specs.Header.{kind_at}
use Rattle.xm.specs.Sample.{head_bytes, data_size, StretchFound, read_head, read_data, head_format, data_format, SamplesFound}
use Rattle.xm.specs.Instrument.{instrument_size_at, count_at, sample_head_size_at, fields_of, instrument_tests, InstrumentFound, read_instrument, instrument_format}
use Rattle.xm.specs.Module.{file_most}
use Rattle.xm.specs.Table.{sample_count, sample_row_at, sample_row, sample_rows_of, sample_rows_in}
use Rattle.xm.proofs.Number.{bytes_drop}
use Rattle.xm.proofs.Got.{accepted-got, passed, bind_got, got_value, got_used, got_carry}
use Rattle.xm.proofs.Format.{cons_path, read_length}
use Rattle.xm.proofs.Instrument.{heads_used}
use Rattle.xm.proofs.Stripped.{instrument_keeps}
use Rattle.xm.proofs.Structure.{some_size}
use Rattle.rows.specs.Accepted.{ReadsFrom}
use Rattle.steps.specs.Step.{head_size_of, instrument_head, InstrumentIs}
use Rattle.steps.specs.declared.instrument.InstrumentHead.{InstrumentHead}
use Rattle.steps.proofs.InstrumentLaws.{fields_pass, found, instrument-part}
use Rattle.rows.specs.Place.{data_before, data_start, data_end, InstrumentHeadStands, rows_from}
use Rattle.rows.proofs.Reading.{reads_next}

-- One header, and the data that it says
pub head_found : (size place : ℕ) (s : List ℕ) {i : StretchFound} {n : ℕ} → read_head size place s ≡ got i n
    → (i ≡ record { place = place; size = size; bytes = head_bytes size s }) × (n ≡ size)
unfolding read_head
head_found size place s e = passed _ _ e λ h e. (sym (got_value e), sym (got_used e))

data_found : (head : List ℕ) (place : ℕ) (s : List ℕ) {i : StretchFound} {n : ℕ} → read_data head place s ≡ got i n → (i.place ≡ place) × (n ≡ data_size head)
unfolding read_data
data_found head place s e = passed _ _ e λ h e. (ap StretchFound.place (sym (got_value e)), sym (got_used e))

row_first : (h d : StretchFound) (place bytes_place size : ℕ) (head : List ℕ) → h ≡ record { place = place; size = size; bytes = head } → d.place ≡ bytes_place
    → sample_row h d ≡ sample_row_at place bytes_place head
row_first h d place bytes_place size head p q = rw (p, q)

rows_path : (k H : ℕ) {a b c e : ℕ} {s t : List ℕ} → a ≡ b → c ≡ e → s ≡ t → rows_from k H a c s ≡ rows_from k H b e t
rows_path k H p q r = cc

-- All headers, and then the data of each: the rows, and the bytes of the data
record SamplesRead (k H place bytes_place : ℕ) (s : List ℕ) (heads bytes : List StretchFound) (used : ℕ) : Type 0 where
  rows : sample_rows_of heads bytes ≡ rows_from k H place bytes_place s
  long : used ≡ data_before k H s

samples_more : (k H place bytes_place : ℕ) (s t : List ℕ) (h d : StretchFound) (hs ds : List StretchFound) (a c f : ℕ) → read_head H place s ≡ got h a
    → read_data h.bytes bytes_place t ≡ got d c
    → SamplesRead k H (place + a) (bytes_place + c) (drop a s) hs ds f → SamplesRead (suc k) H place bytes_place s (h ∷ hs) (d ∷ ds) (c + f)
unfolding data_before rows_from
samples_more k H place bytes_place s t h d hs ds a c f eh ed w =
    let u = head_found H place s eh in
    let v = data_found h.bytes bytes_place t ed in
    let size : c ≡ data_size (head_bytes H s) = v.1 ∙ ap (λ (x : StretchFound). data_size x.bytes) u.0 in
    let behind : drop a s ≡ drop H s = ap (λ (n : ℕ). drop n s) u.1 in
    record {
      rows = cons_path (row_first h d place bytes_place H (head_bytes H s) u.0 v.0)
          (w.rows ∙ rows_path k H (omega (arith, u.1)) (omega (arith, size)) behind);
      long = omega (arith, size, w.long, ap (data_before k H) behind);
    }

samples_read : (k H place bytes_place : ℕ) (s t : List ℕ) (heads bytes : List StretchFound) (n m : ℕ)
    → (each head_format).read (replicate k H) place s ≡ got heads n
    → (each data_format).read (map StretchFound.bytes heads) bytes_place t ≡ got bytes m → SamplesRead k H place bytes_place s heads bytes m
unfolding data_before rows_from
samples_read zero H place bytes_place s t heads bytes n m eh ed =
    got_carry (λ (hs : List StretchFound) (u : ℕ). (each data_format).read (map StretchFound.bytes hs) bytes_place t ≡ got bytes m
    → SamplesRead 0 H place bytes_place s hs bytes m) eh
    (λ e. record { rows = refl; long = sym (got_used e) }) ed
samples_read (suc k) H place bytes_place s t heads bytes n m eh ed =
    bind_got _ _ eh λ h a ea e₁. bind_got _ _ e₁ λ hs b eb e₂.
    got_carry (λ (hs : List StretchFound) (u : ℕ). (each data_format).read (map StretchFound.bytes hs) bytes_place t ≡ got bytes m
    → SamplesRead (suc k) H place bytes_place s hs bytes m) e₂
    (λ ed. bind_got _ _ ed λ d c ec e₃. bind_got _ _ e₃ λ ds f ef e₄.
    got_carry (λ (ds : List StretchFound) (u : ℕ). SamplesRead (suc k) H place bytes_place s (h ∷ hs) ds u) e₄
    (samples_more k H place bytes_place s t h d hs ds a c f ea ec (samples_read k H (place + a) (bytes_place + c) (drop a s) (drop c t) hs ds b f eb ef))) ed

-- Of an instrument without samples no H matters
size_times : (k : ℕ) (s : List ℕ) → k * head_size_of k s ≡ k * sample_head_size_at s
size_times zero s = zero-mul 0 ∙ sym (zero-mul (sample_head_size_at s))
size_times (suc k) s = refl

size_before : (k : ℕ) (s t : List ℕ) → data_before k (head_size_of k s) t ≡ data_before k (sample_head_size_at s) t
unfolding data_before
size_before zero s t = refl
size_before (suc k) s t = refl

size_rows : (k : ℕ) (s : List ℕ) (place bytes_place : ℕ) (t : List ℕ)
    → rows_from k (head_size_of k s) place bytes_place t ≡ rows_from k (sample_head_size_at s) place bytes_place t
unfolding rows_from
size_rows zero s place bytes_place t = refl
size_rows (suc k) s place bytes_place t = refl

-- What the fields at a place tell, in a file of its own kind
abbrev pub instrument_at : (file : List ℕ) (place : ℕ) → InstrumentHead
instrument_at file place = instrument_head (kind_at file) place (drop place file)

-- An instrument's fields stand in the file, its rows are those of its sample headers, and the next structure starts behind their data
pub record InstrumentStands (file : List ℕ) (place : ℕ) (i : InstrumentFound) (n : ℕ) : Type 0 where
  pub tests : AllHold (instrument_tests (kind_at file) place (drop place file))
  pub stands : InstrumentHeadStands file (instrument_at file place)
  pub starts : i.place ≡ place
  pub counted : sample_count i ≡ (instrument_at file place).samples
  pub rows : let x = instrument_at file place in sample_rows_in i ≡ rows_from x.samples x.head_size x.heads (data_start x) (drop x.heads file)
  pub next : place + n ≡ data_end file (instrument_at file place)
  pub behind : place < (instrument_at file place).heads
  pub inside : place + n ≤ length file

module _ (file : List ℕ) (place : ℕ) where
  abbrev from : List ℕ
  from = drop place file

  abbrev kind : ModuleKind
  kind = kind_at file

  abbrev fields : List ℕ
  fields = fields_of kind from

  abbrev I : ℕ
  I = instrument_size_at from

  abbrev k : ℕ
  k = count_at fields

  abbrev H : ℕ
  H = sample_head_size_at fields

  stands_rows : {hs ds : List StretchFound} {b : ℕ} → SamplesRead k H (place + I) (place + I + k * H) (drop I from) hs ds b
      → sample_rows_of hs ds ≡ rows_from k (head_size_of k fields) (place + I) (place + I + k * head_size_of k fields) (drop (place + I) file)
  stands_rows w =
      w.rows
      ∙ rows_path k H refl (ap (λ (n : ℕ). place + I + n) (sym (size_times k fields))) (drop-drop I place file)
      ∙ sym (size_rows k fields (place + I) (place + I + k * head_size_of k fields) (drop (place + I) file))

  stands_next : {hs ds : List StretchFound} {b : ℕ} → SamplesRead k H (place + I) (place + I + k * H) (drop I from) hs ds b
      → place + (I + (k * H + b)) ≡ data_end file (instrument_at file place)
  stands_next w =
      let last : data_before k (head_size_of k fields) (drop (place + I) file) ≡ data_before k H (drop I from) =
      size_before k fields (drop (place + I) file) ∙ ap (data_before k H) (sym (drop-drop I place file)) in
      omega (arith, w.long, last, size_times k fields)

  pub instrument-stands : length file ≤ file_most → Bytes file → (i : InstrumentFound) (n : ℕ)
      → read_instrument kind place from ≡ got i n → InstrumentStands file place i n
  unfolding read_instrument
  instrument-stands small bytes i n e =
      passed _ _ e λ h e₁. bind_got _ _ e₁ λ v m ev e₂. bind_got _ _ ev λ hs a eh e₃. bind_got _ _ e₃ λ ds b ed e₄.
      let used : a ≡ k * H = heads_used k H (place + I) (drop I from) hs a eh in
      let read = samples_read k H (place + I) (place + I + a) (drop I from) (drop a (drop I from)) hs ds a b eh ed in
      let w : SamplesRead k H (place + I) (place + I + k * H) (drop I from) hs ds b = rw used at read in
      let next = stands_next w in
      let pass = fields_pass kind place from h in
      let some = some_size kind place from h in
      let inside : place + (I + (k * H + b)) ≤ length file =
      omega (
        arith,
        some,
        used,
        got_used e₂,
        got_used e₄,
        length-drop place file,
        ((instrument_keeps kind).keeps place from i n (bytes_drop place bytes) e).inside,
      ) in
      got_carry (λ (r : InstrumentFound) (t : ℕ). InstrumentStands file place r t) e₂
      (got_carry (λ (v : SamplesFound) (t : ℕ). InstrumentStands file place (found file kind place v) (I + t)) e₄
      (record {
        tests = h;
        stands = record { small = small; few = pass.few; inside = omega (arith, next) };
        starts = refl;
        counted = read_length head_format (replicate k H) (place + I) (drop I from) hs a eh ∙ length-replicate k H;
        rows = stands_rows w;
        next = omega (arith, used, next);
        behind = omega (arith, some);
        inside = omega (arith, used);
      }))

-- An instrument that its step accepts: it stands so, and what the step gives is read off its fields
module _ (file : List ℕ) (place : ℕ) (small : length file ≤ file_most) (bytes : Bytes file)
    (h : accepted (read_instrument (kind_at file) place (drop place file)) ≡ true) where
  pub accepted_tests : AllHold (instrument_tests (kind_at file) place (drop place file))
  accepted_tests = accepted-got _ h λ i n e. (instrument-stands file place small bytes i n e).tests

  module _ {head : InstrumentHead} (eh : head ≡ instrument_at file place) where
    pub accepted-stands : InstrumentHeadStands file head
    accepted-stands = rw eh (accepted-got _ h λ i n e. (instrument-stands file place small bytes i n e).stands)

    pub accepted-part : {next size : ℕ} → next ≡ data_end file head → size ≡ head.heads - place
        → InstrumentIs file place (record { size = size; samples = head.samples; head_size = head.head_size; next = next })
    accepted-part l z = accepted-got _ h λ i n e.
        let w = instrument-stands file place small bytes i n e in
        instrument-part file (kind_at file) place eh e (l ∙ ap (data_end file) eh ∙ sym w.next) (omega (arith, ap InstrumentHead.heads eh))

-- The first of the instruments that are left
pub instruments_next : {R : Type 0} (file : List ℕ) → length file ≤ file_most → Bytes file → {count place end : ℕ} {parts : List InstrumentFound}
    → ReadsFrom (instrument_format (kind_at file)) tt file count place parts end → 0 < count
    → ((i : InstrumentFound) (n : ℕ) (more : List InstrumentFound) → read_instrument (kind_at file) place (drop place file) ≡ got i n
    → InstrumentStands file place i n → parts ≡ i ∷ more
    → ReadsFrom (instrument_format (kind_at file)) tt file (count - 1) (place + n) more end → R) → R
instruments_next file small bytes {place = place} w l k = reads_next (instrument_format (kind_at file)) tt file w l λ i n more ei ep rest.
    k i n more ei (instrument-stands file place small bytes i n ei) ep rest
