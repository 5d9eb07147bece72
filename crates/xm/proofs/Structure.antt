-- The small reader hands over the structures one by one. Assumes nothing.
use Prim.Native.Nat.{ℕ, zero, suc, ◌+◌, ◌-◌, ◌*◌, ◌≤◌, ◌<◌}
use mathlib.Core.Bool.{Bool, true, false, cond}
use mathlib.Core.List.{List, [], ◌∷◌, ◌++◌, map, map-append, append-nil}
use mathlib.Core.Path.{◌≡◌, refl, sym, ap, ap₂, ◌∙◌, subst}
use native.Mathlib.Nat.{zero-add, add-zero, suc-mul, zero-mul}
use native.Mathlib.Numerals.{add-one}
use native.Mathlib.Omega.{arith}
use lib.Dec.{leb, ltb, eqb}
use borrow.Author.Tests.{le-leb, lt-ltb, eqb-true}
use lib.ListN.{length, drop, get_or, replicate, length-drop}
use lib.Seq.{drop-drop, get_or-drop}
use Rattle.xm.specs.Number.{Bytes, byte_at, part}
use Rattle.xm.specs.ModuleKind.{ModuleKind, normal, stripped}
use Rattle.xm.specs.Got.{Refusal, Got, got, refused, AllHold}
use Rattle.xm.specs.Format.{Kind, header, pattern_header, pattern_data, instrument, sample_header, sample_data, Region, Format, joined, each, each_read}
use Rattle.xm.specs.Answer.{gives, refuses, answered}
use Rattle.xm.specs.Header.{HeaderFound, channels_at, header_end, kind_at, read_header}
use Rattle.xm.specs.PatternInFile.{least_pattern, pattern_head_size_at, data_size_at, PatternFound, read_pattern, pattern_format}
use Rattle.xm.specs.Sample.{StretchFound, size_of_first, stretch_region, read_head, head_format}
use Rattle.xm.specs.Instrument.{instrument_size_at, count_at, sample_head_size_at, fields_of, instrument_tests}
use Rattle.xm.specs.Instrument.{InstrumentFound, voice_of, read_instrument, instrument_format}
use Rattle.xm.specs.Module.{Found, patterns_for, instruments_for, module_format, regions_of, file_most, read_file}
use Rattle.xm.specs.Structure.{is_structure, kind_number, structures_of, structures, Standing, stands, ended, handed, reading, Ahead, Handed}
use Rattle.xm.specs.Structure.{ends_at, hand_head, hand_pattern, hand_instrument, hand_over, ahead_at_first, started, called, read_on, read_for}
use Rattle.xm.specs.Asking.{Stretch}
use Rattle.xm.specs.Region.{of_kind, region_at}
use Rattle.xm.specs.Demands.{ReadersTell}
use Rattle.xm.proofs.Number.{bytes_drop}
use Rattle.xm.proofs.Got.{no_true, passed, bind_got, got_value, got_used, got_carry}
use Rattle.xm.proofs.Answer.{answer_gives, answer_refuses, gives_same}
use Rattle.xm.proofs.Format.{cons_path}
use Rattle.xm.proofs.Instrument.{heads_used}
use Rattle.xm.proofs.Stripped.{instrument_keeps}
use Rattle.xm.proofs.Module.{whole_read}

-- A kind is known by its number, so no structure of a kind is left out
kind_of : ℕ → Kind
kind_of zero = header
kind_of (suc zero) = pattern_header
kind_of (suc (suc zero)) = pattern_data
kind_of (suc (suc (suc zero))) = instrument
kind_of (suc (suc (suc (suc zero)))) = sample_header
kind_of (suc (suc (suc (suc (suc n))))) = sample_data

kind_back : (kind : Kind) → kind_of (kind_number kind) ≡ kind
unfolding kind_of
kind_back header = refl
kind_back pattern_header = refl
kind_back pattern_data = refl
kind_back instrument = refl
kind_back sample_header = refl
kind_back sample_data = refl

none_left_out : (kind : Kind) (rs : List Region) → is_structure kind ≡ true → of_kind kind (structures_of rs) ≡ of_kind kind rs
none_left_out kind [] h = refl
none_left_out kind (r ∷ rs) h = go (is_structure r.kind) refl (eqb (kind_number kind) (kind_number r.kind)) refl (none_left_out kind rs h)
  where
    lies : Stretch
    lies = record { place = r.place; size = r.size }

    go : (t : Bool) → is_structure r.kind ≡ t → (u : Bool) → eqb (kind_number kind) (kind_number r.kind) ≡ u
        → of_kind kind (structures_of rs) ≡ of_kind kind rs
        → of_kind kind (cond t (r ∷ structures_of rs) (structures_of rs)) ≡ cond u (lies ∷ of_kind kind rs) (of_kind kind rs)
    go true p true q w = rw q (cons_path refl w)
    go true p false q w = rw q w
    go false p true q w =
        let same : kind ≡ r.kind = sym (kind_back kind) ∙ ap kind_of (eqb-true (kind_number kind) (kind_number r.kind) q) ∙ kind_back r.kind in
        absurd (no_true (sym p ∙ ap is_structure (sym same) ∙ h))
    go false p false q w = w

-- The structures among regions, by kind and place
abbrev pub structures_told : List Region → List Standing
structures_told rs = map handed (structures_of rs)

structures-append : (xs ys : List Region) → structures_of (xs ++ ys) ≡ structures_of xs ++ structures_of ys
structures-append [] ys = refl
structures-append (r ∷ xs) ys = go (is_structure r.kind) (structures-append xs ys)
  where
    go : (t : Bool) → structures_of (xs ++ ys) ≡ structures_of xs ++ structures_of ys
        → cond t (r ∷ structures_of (xs ++ ys)) (structures_of (xs ++ ys)) ≡ cond t (r ∷ structures_of xs) (structures_of xs) ++ structures_of ys
    go true e = cons_path refl e
    go false e = e

told_append : (xs ys : List Region) → structures_told (xs ++ ys) ≡ structures_told xs ++ structures_told ys
told_append xs ys = ap (map handed) (structures-append xs ys) ∙ map-append handed (structures_of xs) (structures_of ys)

-- Parts that are read one after the other: none, and the first of them
module _ {H I A : Type 0} (F : Format H I A) (h : H) where
  each_next : {R : Type 0} (count place : ℕ) (s : List ℕ) {parts : List I} {used : ℕ} → (each F).read (replicate (suc count) h) place s ≡ got parts used
      → ((i : I) (n : ℕ) (more : List I) (m : ℕ)
      → F.read h place s ≡ got i n → (each F).read (replicate count h) (place + n) (drop n s) ≡ got more m → parts ≡ i ∷ more → used ≡ n + m → R)
      → R
  each_next count place s e k =
      bind_got (F.read h place s) _ e λ i n ei e₁. bind_got (each_read F (replicate count h) (place + n) (drop n s)) _ e₁ λ more m em e₂.
      k i n more m ei em (sym (got_value e₂)) (sym (got_used e₂))

-- A pattern
record PatternTold (place : ℕ) (s : List ℕ) (i : PatternFound) (n : ℕ) : Type 0 where
  starts : i.place ≡ place
  used : n ≡ pattern_head_size_at s + data_size_at s
  least : least_pattern ≤ length s

pattern_told : (channels place : ℕ) (s : List ℕ) (i : PatternFound) (n : ℕ) → read_pattern channels place s ≡ got i n → PatternTold place s i n
unfolding read_pattern
pattern_told channels place s i n e =
    passed _ _ e λ h e₁. bind_got _ _ e₁ λ p m ep e₂.
    got_carry (λ (r : PatternFound) (t : ℕ). PatternTold place s r t) e₂ (record { starts = refl; used = refl; least = h.0 })

-- An instrument, and its sample headers
abbrev pub heads_standing : (k size head : ℕ) → List Standing
heads_standing zero size head = []
heads_standing (suc k) size head = stands sample_header head ∷ heads_standing k size (head + size)

head_found : (size place : ℕ) (s : List ℕ) {i : StretchFound} {n : ℕ} → read_head size place s ≡ got i n → (i.place ≡ place) × (i.size ≡ size) × (n ≡ size)
unfolding read_head
head_found size place s e = passed _ _ e λ h e. (ap StretchFound.place (sym (got_value e)), ap StretchFound.size (sym (got_value e)), sym (got_used e))

record HeadsTold (k size head : ℕ) (hs : List StretchFound) : Type 0 where
  all : structures_told (joined (stretch_region sample_header) hs) ≡ heads_standing k size head
  count : length hs ≡ k
  first : 0 < k → size_of_first hs ≡ size

heads_told : (k size head : ℕ) (s : List ℕ) (hs : List StretchFound) (n : ℕ) → (each head_format).read (replicate k size) head s ≡ got hs n
    → HeadsTold k size head hs
heads_told zero size head s hs n e =
    got_carry (λ (hs : List StretchFound) (u : ℕ). HeadsTold zero size head hs) e (record { all = refl; count = refl; first = λ l. absurd (omega (arith, l)) })
heads_told (suc k) size head s hs n e =
    bind_got _ _ e λ h a ea e₁. bind_got _ _ e₁ λ hs b eb e₂.
    let u = head_found size head s ea in
    let w = heads_told k size (head + a) (drop a s) hs b eb in
    got_carry (λ (hs : List StretchFound) (u : ℕ). HeadsTold (suc k) size head hs) e₂ (record {
      all = cons_path (ap (stands sample_header) u.0) (w.all ∙ ap (λ (o : ℕ). heads_standing k size (head + o)) u.2);
      count = ap suc w.count;
      first = λ l. u.1;
    })

data_told : (ds : List StretchFound) → structures_told (joined (stretch_region sample_data) ds) ≡ []
data_told [] = refl
data_told (d ∷ ds) = data_told ds

-- The size of a header does not matter where there are none
heads_by_lem : (k size head : ℕ) (hs : List StretchFound) → HeadsTold k size head hs
    → (structures_told (joined (stretch_region sample_header) hs) ≡ heads_standing (length hs) (size_of_first hs) head) × (length hs * size_of_first hs ≡ k * size)
heads_by_lem zero size head hs w =
    let first = size_of_first hs in
    let none : length hs * first ≡ 0 * size = ap (λ (n : ℕ). n * first) w.count ∙ zero-mul first ∙ sym (zero-mul size) in
    (w.all ∙ ap (λ (n : ℕ). heads_standing n first head) (sym w.count), none)
heads_by_lem (suc k) size head hs w = (
  w.all ∙ sym (ap₂ (λ (n m : ℕ). heads_standing n m head) w.count (w.first (omega arith))),
  ap₂ (λ (n m : ℕ). n * m) w.count
      (w.first (omega arith)),
)

pub record InstrumentTold (kind : ModuleKind) (place : ℕ) (i : InstrumentFound) (n : ℕ) : Type 0 where
  pub all :
      let heads = i.samples.0 in
      structures_told ((instrument_format kind).regions i) ≡ stands instrument place ∷ heads_standing (length heads) (size_of_first heads) (place + i.size)
  pub fits : i.size + length i.samples.0 * size_of_first i.samples.0 ≤ n
  pub some : 1 ≤ n

-- of either kind, an instrument is of some bytes
pub some_size : (kind : ModuleKind) (place : ℕ) (s : List ℕ) → AllHold (instrument_tests kind place s) → 1 ≤ instrument_size_at s
some_size normal place s h = omega (arith, h.1.0)
some_size stripped place s h = omega (arith, h.1.0)

pub instrument_told : (kind : ModuleKind) (place : ℕ) (s : List ℕ) (i : InstrumentFound) (n : ℕ) → read_instrument kind place s ≡ got i n
    → InstrumentTold kind place i n
unfolding read_instrument
instrument_told kind place s i n e =
    passed _ _ e λ h e₁. bind_got _ _ e₁ λ v m ev e₂. bind_got _ _ ev λ hs a eh e₃. bind_got _ _ e₃ λ ds b ed e₄.
    let f = fields_of kind s in
    let w = heads_by_lem _ _ _ hs (heads_told (count_at f) (sample_head_size_at f) (place + instrument_size_at s) (drop (instrument_size_at s) s) hs a eh) in
    let found : List StretchFound × List StretchFound → InstrumentFound = λ v. record {
      place = place;
      size = instrument_size_at s;
      name = part 4 22 f;
      type = byte_at 26 f;
      voice = voice_of (count_at f) f;
      samples = v;
    } in
    got_carry (λ (r : InstrumentFound) (u : ℕ). InstrumentTold kind place r u) e₂
    (got_carry (λ (v : List StretchFound × List StretchFound) (u : ℕ). InstrumentTold kind place (found v) (instrument_size_at s + u)) e₄
    (record {
      all =
          let apart = told_append (joined (stretch_region sample_header) hs) (joined (stretch_region sample_data) ds) in
          cons_path refl (apart ∙ ap₂ ◌++◌ w.0 (data_told ds) ∙ append-nil _);
      fits = omega (arith, w.1, heads_used (count_at f) (sample_head_size_at f) (place + instrument_size_at s) (drop (instrument_size_at s) s) hs a eh);
      some = omega (arith, some_size kind place s h);
    }))

-- What a reader has still to hand over
abbrev told_patterns : List PatternFound → List Standing
told_patterns ps = structures_told (joined pattern_format.regions ps)

abbrev told_instruments : ModuleKind → List InstrumentFound → List Standing
told_instruments kind is = structures_told (joined (instrument_format kind).regions is)

record StructuresLeft (file : List ℕ) (a : Ahead) (all : List Standing) : Type 0 where
  small : length file ≤ file_most
  fits : a.head + a.heads * a.head_size ≤ length file
  channels : ℕ
  patterns : List PatternFound
  used : ℕ
  patterns_read : (each pattern_format).read (replicate a.patterns channels) a.place (drop a.place file) ≡ got patterns used
  instruments : List InstrumentFound
  end : ℕ
  instruments_read :
      let next = a.place + used in
      (each (instrument_format (kind_at file))).read (replicate a.instruments tt) next (drop next file) ≡ got instruments end
  same : all ≡ heads_standing a.heads a.head_size a.head ++ (told_patterns patterns ++ told_instruments (kind_at file) instruments)

-- One call
record OneCall (file : List ℕ) (a : Ahead) (all : List Standing) : Type 0 where
  next : Ahead
  gives_it : hand_over file a ≡ record { standing = get_or all 0 ended; ahead = next }
  left : StructuresLeft file next (drop 1 all)

module _ (file : List ℕ) (bytes : Bytes file) where
  abbrev ahead : (p i place k head size : ℕ) → Ahead
  ahead p i place k head size = record { patterns = p; instruments = i; place = place; heads = k; head = head; head_size = size }

  abbrev gave : Ahead → Standing → Handed
  gave next s = record { standing = s; ahead = next }

  first_is : {all : List Standing} {s : Standing} {rest : List Standing} (next : Ahead) → all ≡ s ∷ rest → gave next s ≡ gave next (get_or all 0 ended)
  first_is next e = ap (gave next) (sym (ap (λ (l : List Standing). get_or l 0 ended) e))

  one_call : (p i place k head size : ℕ) (all : List Standing) → StructuresLeft file (ahead p i place k head size) all
      → OneCall file (ahead p i place k head size) all
  unfolding hand_over
  one_call p i place (suc k) head size all w =
      let z : suc k - 1 ≡ k = omega arith in
      let next = ahead p i place k (head + size) size in
      let long : head + size + k * size ≤ length file = omega (arith, w.fits, suc-mul k size) in
      record {
        next = next;
        gives_it =
            rw (le-leb (length file) file_most w.small, lt-ltb 0 (suc k) (omega arith), le-leb (head + size) (length file) (omega (arith, long)), z)
            (first_is next w.same);
        left = record {
          small = w.small;
          fits = long;
          channels = w.channels;
          patterns = w.patterns;
          used = w.used;
          patterns_read = w.patterns_read;
          instruments = w.instruments;
          end = w.end;
          instruments_read = w.instruments_read;
          same = ap (drop 1) w.same;
        };
      }
  one_call (suc p) i place zero head size all w =
      each_next pattern_format w.channels p place (drop place file) w.patterns_read λ x n more m ex em parts used.
      let t = pattern_told w.channels place (drop place file) x n ex in
      let s = drop place file in
      let z : suc p - 1 ≡ p = omega arith in
      let there : place + n ≡ place + pattern_head_size_at s + data_size_at s = omega (arith, t.used) in
      let next = ahead p i (place + pattern_head_size_at s + data_size_at s) 0 0 0 in
      let later : place + w.used ≡ place + pattern_head_size_at s + data_size_at s + m = omega (arith, there, used) in
      let later_told = told_instruments (kind_at file) w.instruments in
      let is : all ≡ stands pattern_header place ∷ (told_patterns more ++ later_told) =
      w.same
      ∙ ap (λ (l : List PatternFound). told_patterns l ++ later_told) parts
      ∙ cons_path (ap (stands pattern_header) t.starts) refl in
      record {
        next = next;
        gives_it =
            let whole : place + least_pattern ≤ length file = omega (arith, t.least, length-drop place file) in
            rw (le-leb (length file) file_most w.small, lt-ltb 0 (suc p) (omega arith), le-leb (place + least_pattern) (length file) whole, z)
            (first_is next is);
        left = record {
          small = w.small;
          fits = omega arith;
          channels = w.channels;
          patterns = more;
          used = m;
          patterns_read = rw (drop-drop n place file, there) at em;
          instruments = w.instruments;
          end = w.end;
          instruments_read = rw later at w.instruments_read;
          same = ap (drop 1) is;
        };
      }
  one_call zero (suc i) place zero head size all w =
      let here : place + w.used ≡ place = omega (arith, got_used w.patterns_read) in
      each_next (instrument_format (kind_at file)) tt i place (drop place file) (rw here at w.instruments_read) λ x n more m ex em parts used.
      let t = instrument_told (kind_at file) place (drop place file) x n ex in
      let inside = ((instrument_keeps (kind_at file)).keeps place (drop place file) x n (bytes_drop place bytes) ex).inside in
      let z : suc i - 1 ≡ i = omega arith in
      let k = length x.samples.0 in
      let next = ahead 0 i (place + n) k (place + x.size) (size_of_first x.samples.0) in
      let more_told = told_instruments (kind_at file) more in
      let is : all ≡ stands instrument place ∷ (heads_standing k (size_of_first x.samples.0) (place + x.size) ++ more_told) =
      w.same
      ∙ ap₂ (λ (l : List PatternFound) (r : List InstrumentFound). told_patterns l ++ told_instruments (kind_at file) r)
      (sym (got_value w.patterns_read)) parts
      ∙ told_append ((instrument_format (kind_at file)).regions x) (joined (instrument_format (kind_at file)).regions more)
      ∙ ap (λ (l : List Standing). l ++ more_told) t.all in
      record {
        next = next;
        gives_it =
            let within : place ≤ length file = omega (arith, inside, t.some, length-drop place file) in
            rw (le-leb (length file) file_most w.small, lt-ltb 0 (suc i) (omega arith), le-leb place (length file) within, ex, z) (first_is next is);
        left = record {
          small = w.small;
          fits = omega (arith, inside, t.fits, t.some, length-drop place file);
          channels = w.channels;
          patterns = [];
          used = 0;
          patterns_read = refl;
          instruments = more;
          end = m;
          instruments_read = rw (drop-drop n place file, ← add-zero (place + n)) at em;
          same = ap (drop 1) is;
        };
      }
  one_call zero zero place zero head size all w =
      let here : place + w.used ≡ place = omega (arith, got_used w.patterns_read) in
      let is : all ≡ [] =
      w.same
      ∙ ap₂ (λ (l : List PatternFound) (r : List InstrumentFound). told_patterns l ++ told_instruments (kind_at file) r)
      (sym (got_value w.patterns_read)) (sym (got_value w.instruments_read)) in
      let next = ahead 0 0 place 0 head size in
      record {
        next = next;
        gives_it = rw (le-leb (length file) file_most w.small) (ap (gave next) (sym (ap (λ (l : List Standing). get_or l 0 ended) is)));
        left = record {
          small = w.small;
          fits = w.fits;
          channels = w.channels;
          patterns = w.patterns;
          used = w.used;
          patterns_read = w.patterns_read;
          instruments = w.instruments;
          end = w.end;
          instruments_read = w.instruments_read;
          same = ap (drop 1) is ∙ sym is ∙ w.same;
        };
      }

-- A call that hands over no structure leaves the reader as it was, whatever its numbers
abbrev is_end : Standing → Bool
is_end (stands kind place) = false
is_end ended = true

module _ (file : List ℕ) (a : Ahead) where
  abbrev by : (size heads there patterns whole instruments within : Bool) → Got InstrumentFound → Handed
  by size heads there patterns whole instruments within g =
      cond size
      (cond heads (cond there (hand_head a) (ends_at a))
      (cond patterns (cond whole (hand_pattern (drop a.place file) a) (ends_at a))
      (cond instruments (cond within (hand_instrument g a) (ends_at a)) (ends_at a))))
      (ends_at a)

  ended_stays : (size heads there patterns whole instruments within : Bool) (g : Got InstrumentFound)
      → (by size heads there patterns whole instruments within g).standing ≡ ended → (by size heads there patterns whole instruments within g).ahead ≡ a
  ended_stays false b c d e f i g h = refl
  ended_stays true true true d e f i g h = absurd (no_true (ap is_end h))
  ended_stays true true false d e f i g h = refl
  ended_stays true false c true true f i g h = absurd (no_true (ap is_end h))
  ended_stays true false c true false f i g h = refl
  ended_stays true false c false e true true (got x n) h = absurd (no_true (ap is_end h))
  ended_stays true false c false e true true (refused r) h = refl
  ended_stays true false c false e true false g h = refl
  ended_stays true false c false e false i g h = refl

  pub hand_stays : (hand_over file a).standing ≡ ended → (hand_over file a).ahead ≡ a
  unfolding hand_over
  hand_stays =
      ended_stays (leb (length file) file_most) (ltb 0 a.heads) (leb (a.head + a.head_size) (length file)) (ltb 0 a.patterns)
      (leb (a.place + least_pattern) (length file)) (ltb 0 a.instruments) (leb a.place (length file))
      (read_instrument (kind_at file) a.place (drop a.place file))

-- Before the first call
module _ (file : List ℕ) (found : Found) (end : ℕ) (reads : read_file file ≡ got found end) where
  abbrev all : List Standing
  all = map handed (structures found)

  first_left : StructuresLeft file (ahead_at_first file) all
  unfolding read_header
  first_left =
      whole_read (module_format (kind_at file)) file found end reads λ small e.
      bind_got (read_header (kind_at file) 0 file) _ e λ i n eh e₁. bind_got _ _ e₁ λ v m ev e₂.
      bind_got _ _ ev λ ps k ep e₃. bind_got _ _ e₃ λ is j ei e₄.
      passed _ _ eh λ tests eh.
      let patterns =
      got_carry (λ (i : HeaderFound) (n : ℕ). (each pattern_format).read (patterns_for i.content) (0 + n) (drop n file) ≡ got ps k) (sym eh) ep in
      let F = instrument_format (kind_at file) in
      let instruments =
      got_carry (λ (i : HeaderFound) (n : ℕ). (each F).read (instruments_for i.content []) (0 + n + k) (drop k (drop n file)) ≡ got is j) (sym eh) ei in
      got_carry (λ (r : Found) (u : ℕ). StructuresLeft file (ahead_at_first file) (map handed (structures r))) e₂
      (got_carry (λ (r : List PatternFound × List InstrumentFound) (u : ℕ). StructuresLeft file (ahead_at_first file) (map handed (structures (i, r)))) e₄
      (record {
        small = small;
        fits = omega arith;
        channels = channels_at file;
        patterns = ps;
        used = k;
        patterns_read = rw (zero-add (header_end file)) at patterns;
        instruments = is;
        end = j;
        instruments_read = rw (zero-add (header_end file), drop-drop k (header_end file) file) at instruments;
        same = told_append (joined pattern_format.regions ps) (joined (instrument_format (kind_at file)).regions is);
      }))

  module _ (bytes : Bytes file) where
    call : (a : Ahead) (rest : List Standing) → StructuresLeft file a rest → OneCall file a rest
    call a rest w = one_call file bytes a.patterns a.instruments a.place a.heads a.head a.head_size rest w

    -- after n calls
    record After (n : ℕ) : Type 0 where
      at : Ahead
      reached : read_for file n ≡ gives at
      left : StructuresLeft file at (drop n all)

    after : (n : ℕ) → After n
    unfolding started
    after zero = record { at = ahead_at_first file; reached = answer_gives _ reads; left = first_left }
    after (suc n) =
        let w = after n in
        let c = call w.at (drop n all) w.left in
        record {
          at = c.next;
          reached = ap (read_on file) w.reached ∙ ap (λ (h : Handed). gives h.ahead) c.gives_it;
          left = subst (StructuresLeft file c.next) (drop-drop 1 n all ∙ ap (λ (k : ℕ). drop k all) (add-one n)) c.left;
        }

    answers : (n : ℕ) → called file (read_for file n) ≡ gives (get_or all n ended)
    answers n =
        let w = after n in
        ap (called file) w.reached
        ∙ ap (λ (h : Handed). gives h.standing) (call w.at (drop n all) w.left).gives_it
        ∙ ap gives (get_or-drop n all 0 ended ∙ ap (λ (k : ℕ). get_or all k ended) (add-zero n))

    stays : (n : ℕ) → get_or all n ended ≡ ended → read_for file (n + 1) ≡ read_for file n
    stays n e =
        let w = after n in
        let none : (hand_over file w.at).standing ≡ ended = gives_same (sym (ap (called file) w.reached) ∙ answers n) ∙ e in
        ap (read_for file) (add-one n) ∙ ap (read_on file) w.reached ∙ ap gives (hand_stays file w.at none) ∙ sym w.reached

-- The list by its numbers
handed_at : (rs : List Region) (n : ℕ) → n < length rs → get_or (map handed rs) n ended ≡ handed (region_at rs n)
handed_at [] n l = absurd (omega arith)
handed_at (r ∷ rs) zero l = refl
handed_at (r ∷ rs) (suc n) l = handed_at rs n (omega arith)

handed_none : (rs : List Region) (n : ℕ) → length rs ≤ n → get_or (map handed rs) n ended ≡ ended
handed_none [] n l = refl
handed_none (r ∷ rs) zero l = absurd (omega arith)
handed_none (r ∷ rs) (suc n) l = handed_none rs n (omega arith)

-- On a refused file each call gives the check's refusal
refused_for : (file : List ℕ) (r : Refusal) (n : ℕ) → read_file file ≡ refused r → read_for file n ≡ refuses r
unfolding started
refused_for file r zero e = answer_refuses _ e
refused_for file r (suc n) e = ap (read_on file) (refused_for file r n e)

by_number : (file : List ℕ) → Bytes file → (n : ℕ) → called file (read_for file n) ≡ reading file n
unfolding reading
by_number file bytes n = go (read_file file) refl
  where
    go : (g : Got Found) → read_file file ≡ g → called file (read_for file n) ≡ answered (λ found end. get_or (map handed (structures found)) n ended) g
    go (got found end) e = answers file found end e bytes n
    go (refused r) e = ap (called file) (refused_for file r n e)

pub readers_tell : ReadersTell
readers_tell = record {
  by_number = by_number;
  hands_over = λ file found end bytes e. record {
    every_kind = λ kind h. none_left_out kind (regions_of found) h;
    three_kinds = (refl, refl, refl);
    each_one = λ n l. answers file found end e bytes n ∙ ap gives (handed_at (structures found) n l);
    end_then = λ n l. answers file found end e bytes n ∙ ap gives (handed_none (structures found) n l);
    stays = λ n l. stays file found end e bytes n (handed_none (structures found) n l);
  };
  refuses_so = λ file r n e. ap (called file) (refused_for file r n e);
}
