-- The demands and the paper's further claims hold: each is put together from the laws. Assumes nothing.
use Prim.Native.Nat.{ℕ, zero, suc, ◌+◌, ◌*◌, ◌%◌, ◌^◌, ◌≤◌, ◌<◌}
use mathlib.Core.List.{List, [], ◌∷◌, map}
use mathlib.Core.Path.{◌≡◌, refl, sym, ap, ap₂, ◌∙◌, subst}
use native.Mathlib.Omega.{arith}
use borrow.Author.Tests.{lt-ltb, le-ltb}
use lib.IntN.{ℤ}
use lib.ListN.{length, get_or, drop, length-append, length-drop, length-map, get_or-eq_default}
use Rattle.xm.specs.Number.{Bytes}
use Rattle.xm.specs.ModuleKind.{ModuleKind}
use Rattle.xm.specs.Got.{Refusal, got, refused, AllHold}
use Rattle.xm.specs.Format.{joined, All}
use Rattle.xm.specs.Answer.{Answer, gives, refuses, behind, numbers, in_front, loader_number}
use Rattle.xm.specs.Header.{Header, song_length_at, restart_at, restart_inside, restart_of, header_of, read_header, kind_at}
use Rattle.xm.specs.Sample.{StretchFound}
use Rattle.xm.specs.Instrument.{Instrument, InstrumentFound, instrument_view}
use Rattle.xm.specs.Module.{Found, Content, module_format, file_most, read_file, plays}
use Rattle.xm.specs.Delta.{stored_numbers, decoded, decoding, coding, count_written, delta_most, limit_test}
use Rattle.xm.specs.Adpcm.{chosen, adpcm_decoded, adpcm_decoding, adpcm_most}
use Rattle.xm.specs.Table.{CheckReport, checked_as, check_results, checking, check_numbers, check_loader, checking_into, check_into_loader, Tables}
use Rattle.xm.specs.Table.{Room, room_of, room_tests, tables_after, pattern_rows, instrument_rows, sample_rows_in, sample_rows, pattern_stride}
use Rattle.xm.specs.Table.{instrument_stride, sample_stride, tune_stride, pattern_numbers, instrument_numbers, sample_numbers, sample_tunes}
use Rattle.xm.specs.Press.{pressed, pressing_as, pressing, press_loader, content_of, pressed_length}
use Rattle.xm.specs.Demands.{KeepsPromise, TablesKept, Demand₁, Demand₂, Demand₃, CheckTells, counts_of, RunningSums, AdpcmTells, PressesWhole}
use Rattle.xm.specs.Demands.{SameBytes, KeptElse, ConvertsKeep, HasRoom, TablesTell, RestIgnored, RestartsRead, PlaysOrders}
use Rattle.xm.specs.Demands.{LoaderTells, Limited, LoadersTell, FileOf}
use Rattle.xm.proofs.Got.{refused_tests, refused_bind, got_never, pass, passed, step, step_refused, bind_got}
use Rattle.xm.proofs.Answer.{answer_gives, answer_refuses, gives-got, gives_passed, gives_bound, gives_same, gives-refuses}
use Rattle.xm.proofs.Answer.{refuses-refused, tests_fail, behind-holds, behind_fails, behind_gave, behind-refused}
use Rattle.xm.proofs.Answer.{SoundRefusal, read_sound, promise_kept, loader_tells, accepted-gives, reported_written}
use Rattle.xm.proofs.Format.{joined_length}
use Rattle.xm.specs.Convert.{converted, converting, convert_loader}
use Rattle.xm.proofs.Number.{Agree}
use Rattle.xm.proofs.Packing.{unpack_promise, pack_promise, unpacks_to_cells, pack_shortest, unpack_tells, pack_tells, pack_apart}
use Rattle.xm.proofs.Delta.{values_from, values_none, values_step, decoded_most, coded_most}
use Rattle.xm.proofs.Delta.{decoding_gave, coding_gave, coding-decoding, decoding-coding}
use Rattle.xm.proofs.Adpcm.{chosen_at, adpcm-length, adpcm_unfit, adpcm_room, adpcm_given, adpcm_gave}
use Rattle.xm.proofs.Refusal.{FileRefusal, module_refusals, whole_refusals}
use Rattle.xm.proofs.Sample.{SamplesTold}
use Rattle.xm.proofs.Module.{module_back, module_keeps, module_firm, module_tells, whole_read, whole_firm}
use Rattle.xm.proofs.Kind.{kind_fits, kind_reads, kinds_told}
use Rattle.xm.proofs.Accepted.{rows_length}
use Rattle.xm.proofs.Convert.{kept_else, converts_shortest}
use Rattle.xm.proofs.Press.{content_one, pressed-exactly, pressed_shortest, pressed-reads, pressed_ends, pressed_back, same_bytes_lem}

-- Check: its refusals, where it ends, and what it counts
file_refusal : (file : List ℕ) (r : Refusal) → Bytes file → checking file ≡ refuses r → FileRefusal file r
unfolding checking
file_refusal file r b e = whole_refusals (module_format (kind_at file)) (module_refusals (kind_at file)) file r b (refuses-refused _ _ e)

end_inside : (file : List ℕ) (found : Found) (end : ℕ) → Bytes file → read_file file ≡ got found end → (end ≤ length file) × (length file ≤ file_most)
end_inside file found end b e =
    whole_read (module_format (kind_at file)) file found end e λ size e. (((module_keeps (kind_at file)).keeps 0 file found end b e).inside, size)

samples_counted : (file : List ℕ) (is : List InstrumentFound) → All (λ (i : InstrumentFound). SamplesTold file i.samples) is
    → length (joined sample_rows_in is) ≡ length (joined (λ (x : Instrument). x.samples.0) (map instrument_view is))
samples_counted file [] t = refl
samples_counted file (i ∷ is) t =
    length-append (sample_rows_in i) (joined sample_rows_in is)
    ∙ ap₂ ◌+◌ (rows_length i.samples.0 i.samples.1 t.0.sizes ∙ sym (length-map i.samples.0 StretchFound.bytes))
    (samples_counted file is t.1)
    ∙ sym (length-append (map StretchFound.bytes i.samples.0) (joined (λ (x : Instrument). x.samples.0) (map instrument_view is)))

found_counts : (file : List ℕ) (found : Found) (end : ℕ) → Bytes file → read_file file ≡ got found end
    → check_numbers file ≡ 0 ∷ 0 ∷ end ∷ counts_of (content_of found)
unfolding checking
found_counts file found end b e =
    whole_read (module_format (kind_at file)) file found end e λ size q.
    rw e (ap {B = List ℕ} (λ (n : ℕ). 0 ∷ 0 ∷ end ∷ found.0.content.channels ∷ found.0.content.patterns ∷ found.0.content.instruments ∷ n ∷ [])
    (samples_counted file found.1.1 (module_tells (kind_at file) file found end b q).instruments))

check_tells : CheckTells
unfolding checking
check_tells = record {
  accepted = λ kind content file f.
      found_counts file f.found f.end f.plain (((kinds_told file).by_kind kind content f).reads ∙ f.reads)
      ∙ ap {B = List ℕ} (λ (c : Content). 0 ∷ 0 ∷ f.end ∷ counts_of c) f.same;
  refused_so = λ file r e. ap (numbers check_results) (answer_refuses checked_as e);
  acceptable = λ file b n.
      accepted-gives (checking file) (λ r e. (file_refusal file r b e).numbered.0) n λ c e.
      gives-got _ (read_file file) e λ found end q d. (kind_at file, content_of found, record { plain = b; found = found; end = end; reads = q; same = refl });
}

check_loads : (file : List ℕ) → Bytes file → LoaderTells CheckReport.end (checking file) (check_loader file)
unfolding checking
check_loads file b =
    loader_tells CheckReport.end (checking file) (check_loader file) refl
    (λ c e. gives-got _ (read_file file) e λ found end q d. let h = end_inside file found end b q in omega (arith, ap CheckReport.end (gives_same d)))
    (λ r e. let f = file_refusal file r b e in (f.numbered.0, omega (arith, f.small)))

-- A refusal with a place that a loader's number has room for: a file's own, and with it those of the calls
record OwnRefusal (r : Refusal) : Type 0 where
  sound : SoundRefusal r
  small : r.place ≤ file_most

own_sound : (file : List ℕ) (r : Refusal) → Bytes file → read_file file ≡ refused r → OwnRefusal r
own_sound file r b e =
    let f = whole_refusals (module_format (kind_at file)) (module_refusals (kind_at file)) file r b e in
    record { sound = read_sound f.numbered; small = f.small }

-- The tables: what is filled is no longer than what was lent
front_length : {B : Type 0} (written lent : List B) → length written ≤ length lent → length (in_front written lent) ≡ length lent
front_length written lent h = length-append written (drop (length written) lent) ∙ omega (arith, length-drop (length written) lent)

rows_front : {R B : Type 0} (stride : ℕ) (numbers : R → List B) → ((row : R) → length (numbers row) ≡ stride)
    → (rows : List R) (lent : List B) → stride * length rows ≤ length lent
    → length (in_front (joined numbers rows) lent) ≡ length lent
rows_front stride numbers wide rows lent h = front_length (joined numbers rows) lent (omega (arith, joined_length stride numbers wide rows))

record Lengths (answer : Answer CheckReport) (lent : Tables) : Type 0 where
  patterns : length (tables_after answer lent).patterns ≡ length lent.patterns
  instruments : length (tables_after answer lent).instruments ≡ length lent.instruments
  samples : length (tables_after answer lent).samples ≡ length lent.samples
  tunes : length (tables_after answer lent).tunes ≡ length lent.tunes

lengths : (answer : Answer CheckReport) (lent : Tables) → ((c : CheckReport) → answer ≡ gives c → AllHold (room_tests (room_of lent) c.found))
    → Lengths answer lent
unfolding tables_after
lengths (gives c) lent h =
    let r = h c refl in
    record {
      patterns = rows_front pattern_stride pattern_numbers (λ row. refl) (pattern_rows c.found) lent.patterns (omega (arith, r.0));
      instruments = rows_front instrument_stride instrument_numbers (λ row. refl) (instrument_rows c.found) lent.instruments (omega (arith, r.1.0));
      samples = rows_front sample_stride sample_numbers (λ row. refl) (sample_rows c.found) lent.samples (omega (arith, r.1.1.0));
      tunes = rows_front tune_stride sample_tunes (λ row. refl) (sample_rows c.found) lent.tunes (omega (arith, r.1.1.0));
    }
lengths (refuses r) lent h = record { patterns = refl; instruments = refl; samples = refl; tunes = refl }

room_held : (room : Room) (file : List ℕ) (c : CheckReport) → checking_into room file ≡ gives c → AllHold (room_tests room c.found)
unfolding checking_into
room_held room file c e =
    gives_bound _ (read_file file) _ e λ found end er e. gives_passed _ _ _ e λ hs e.
    subst (λ (c : CheckReport). AllHold (room_tests room c.found)) (gives_same e) hs

into_refusal : (room : Room) (file : List ℕ) (r : Refusal) → Bytes file → checking_into room file ≡ refuses r → OwnRefusal r
unfolding checking_into
into_refusal room file r b e =
    refused_bind (read_file file) _ (refuses-refused _ _ e) (own_sound file r b)
    λ found end er e. refused_tests OwnRefusal _ _ e (omega arith) λ hs e. absurd (got_never e)

into_end : (room : Room) (file : List ℕ) (c : CheckReport) → Bytes file → checking_into room file ≡ gives c → c.end ≤ file_most
unfolding checking_into
into_end room file c b e =
    gives_bound _ (read_file file) _ e λ found end q e. gives_passed _ _ _ e λ hs e.
    let h = end_inside file found end b q in omega (arith, ap CheckReport.end (gives_same e))

into_loads : (room : Room) (file : List ℕ) → Bytes file → LoaderTells CheckReport.end (checking_into room file) (check_into_loader room file)
into_loads room file b =
    loader_tells CheckReport.end (checking_into room file) (check_into_loader room file) refl (λ c e. omega (arith, into_end room file c b e))
    (λ r e. let f = into_refusal room file r b e in (f.sound.numbered.0, omega (arith, f.small)))

tables_kept : (file : List ℕ) (lent : Tables) → Bytes file → TablesKept file lent
unfolding tables_after
tables_kept file lent b =
    let l = lengths (checking_into (room_of lent) file) lent (room_held (room_of lent) file) in
    record {
      numbered = λ r e. (into_refusal (room_of lent) file r b e).sound.numbered;
      placed = λ r e. (into_refusal (room_of lent) file r b e).sound.placed;
      unchanged = λ r e. ap (λ (a : Answer CheckReport). tables_after a lent) e;
      patterns = l.patterns;
      instruments = l.instruments;
      samples = l.samples;
      tunes = l.tunes;
    }

-- Delta coding
module _ (width : ℕ) (bytes : List ℕ) where
  decode_refusal : (room : ℕ) (r : Refusal) → decoding width bytes room ≡ refuses r → OwnRefusal r
  unfolding decoding
  decode_refusal room r e = refused_tests OwnRefusal _ _ (refuses-refused _ _ e) (omega arith) λ hs e. absurd (got_never e)

  decode_fits : (room : ℕ) (values : List ℤ) → decoding width bytes room ≡ gives values → (length values ≤ room) × (length values ≤ 2 * length bytes)
  decode_fits room values e = decoding_gave width bytes room e λ h p l q. (omega (arith, ap length q), omega (arith, ap length q, decoded_most width h bytes))

  decode_promise : KeepsPromise (λ (values : List ℤ). values) (decoding width bytes)
  decode_promise = promise_kept _ (decoding width bytes) (λ room r e. (decode_refusal room r e).sound) (λ room values e. (decode_fits room values e).0)

module _ (width : ℕ) (values : List ℤ) where
  code_refusal : (room : ℕ) (r : Refusal) → coding width values room ≡ refuses r → OwnRefusal r
  unfolding coding
  code_refusal room r e = refused_tests OwnRefusal _ _ (refuses-refused _ _ e) (omega arith) λ hs e. absurd (got_never e)

  code_fits : (room : ℕ) (bytes : List ℕ) → coding width values room ≡ gives bytes → (length bytes ≤ room) × (length bytes ≤ 2 * length values)
  code_fits room bytes e = coding_gave width values room e λ h p l q. (omega (arith, ap length q), omega (arith, ap length q, coded_most width h values))

  code_promise : KeepsPromise (λ (bytes : List ℕ). bytes) (coding width values)
  code_promise = promise_kept _ (coding width values) (λ room r e. (code_refusal room r e).sound) (λ room bytes e. (code_fits room bytes e).0)

module _ (count : ℕ) (bytes : List ℕ) where
  adpcm_refusal : (room : ℕ) (r : Refusal) → adpcm_decoding count bytes room ≡ refuses r → OwnRefusal r
  unfolding adpcm_decoding
  adpcm_refusal room r e = refused_tests OwnRefusal _ _ (refuses-refused _ _ e) (omega arith) λ hs e. absurd (got_never e)

  adpcm-fits : (room : ℕ) (values : List ℤ) → adpcm_decoding count bytes room ≡ gives values → (length values ≤ room) × (length values ≤ 2 * count)
  adpcm-fits room values e = adpcm_gave count bytes room e λ fit l q. (omega (arith, ap length q), omega (arith, ap length q, adpcm-length count bytes fit))

  adpcm_promise : KeepsPromise (λ (values : List ℤ). values) (adpcm_decoding count bytes)
  adpcm_promise = promise_kept _ (adpcm_decoding count bytes) (λ room r e. (adpcm_refusal room r e).sound) (λ room values e. (adpcm-fits room values e).0)

-- and with the loader's limit, of any call that writes at most two for each that is counted
limited : {A : Type 0} (most count : ℕ) (own : Answer A) → Limited most count own (behind (limit_test most count) own)
limited most count own = record {
  above = λ h. behind_fails (limit_test most count) own (λ l. omega arith);
  within = λ h. behind-holds (limit_test most count) own (omega arith);
}

module _ {B : Type 0} (most : ℕ) (small : 2 * most < 2 ^ 32) (count : ℕ) (own : ℕ → Answer (List B))
    (refusal : (room : ℕ) (r : Refusal) → own room ≡ refuses r → OwnRefusal r)
    (fits : (room : ℕ) (xs : List B) → own room ≡ gives xs → (length xs ≤ room) × (length xs ≤ 2 * count)) where
  limited_refusal : (room : ℕ) (r : Refusal) → behind (limit_test most count) (own room) ≡ refuses r → OwnRefusal r
  limited_refusal room r e = behind-refused (limit_test most count) (own room) e (λ same. subst OwnRefusal same (omega arith)) (refusal room r)

  limited_promise : KeepsPromise (λ (xs : List B). xs) (λ room. behind (limit_test most count) (own room))
  limited_promise =
      promise_kept _ (λ room. behind (limit_test most count) (own room)) (λ room r e. (limited_refusal room r e).sound)
      (λ room xs e. behind_gave (limit_test most count) (own room) e λ l e. (fits room xs e).0)

  limited_loads : (room : ℕ)
      → let answer = behind (limit_test most count) (own room) in
      LoaderTells length answer (loader_number count_written answer)
  limited_loads room =
      let answer = behind (limit_test most count) (own room) in
      loader_tells length answer (loader_number count_written answer) refl
      (λ xs e. behind_gave (limit_test most count) (own room) e λ l e. omega (arith, l, (fits room xs e).1))
      (λ r e. let f = limited_refusal room r e in (f.sound.numbered.0, omega (arith, f.small)))

running_sums : (width before : ℕ) (stored : List ℕ) → RunningSums width before stored (values_from width before stored)
running_sums width before [] = ends
  where
    ends : RunningSums width before [] (values_from width before [])
    ends = rw (values_none width before) tt
running_sums width before (d ∷ ds) = rw (values_step width before d ds) (refl, running_sums width ((before + d) % 2 ^ width) ds)

decoded-sums : (width : ℕ) (bytes : List ℕ) (values : List ℤ) (room : ℕ) → decoding width bytes room ≡ gives values
    → RunningSums width 0 (stored_numbers width bytes) values
unfolding decoded
decoded-sums width bytes values room e = decoding_gave width bytes room e λ h p l q. rw (← q) (running_sums width 0 (stored_numbers width bytes))

-- ADPCM: the same running sums, of the chosen deltas
adpcm_tells : (count : ℕ) (bytes : List ℕ) (room : ℕ) → AdpcmTells count bytes room
unfolding adpcm_decoded decoded stored_numbers
adpcm_tells count bytes room = record {
  unfit = adpcm_unfit count bytes room;
  no_room = adpcm_room count bytes room;
  given_else = adpcm_given count bytes room;
  as_many = adpcm-length count bytes;
  deltas = chosen_at count bytes;
  sums = running_sums 8 0 (chosen count bytes);
}

-- Pressing, of any file, and conversion
press_refusal : (file : List ℕ) (room : ℕ) (r : Refusal) → Bytes file → pressing file room ≡ refuses r → OwnRefusal r
unfolding pressing_as
press_refusal file room r b e =
    refused_bind (read_file file) _ (refuses-refused _ _ e) (own_sound file r b)
    λ found end er e. refused_tests OwnRefusal _ _ e (omega arith) λ hs e. absurd (got_never e)

press_file : (file : List ℕ) (room : ℕ) (bytes : List ℕ) → Bytes file → pressing file room ≡ gives bytes → (length bytes ≤ room) × (length bytes ≤ file_most)
unfolding pressing_as
press_file file room bytes b e =
    gives_bound _ (read_file file) _ e λ found end er e. gives_passed _ _ _ e λ hs e.
    let kind = kind_at file in
    let h = end_inside file found end b er in
    let s = pressed_shortest (module_format kind) (module_back kind) (module_keeps kind)
    (record { plain = b; found = found; end = end; reads = er; same = refl }) in
    let q = ap length (gives_same e) in
    (omega (arith, hs.0), omega arith)

press_promise : (file : List ℕ) → Bytes file → KeepsPromise (λ (bytes : List ℕ). bytes) (pressing file)
press_promise file b = promise_kept _ (pressing file) (λ room r e. (press_refusal file room r b e).sound) (λ room bytes e. (press_file file room bytes b e).0)

press_loads : (file : List ℕ) (room : ℕ) → Bytes file → LoaderTells length (pressing file room) (press_loader file room)
press_loads file room b =
    loader_tells length (pressing file room) (press_loader file room) refl (λ bytes e. omega (arith, (press_file file room bytes b e).1))
    (λ r e. let f = press_refusal file room r b e in (f.sound.numbered.0, omega (arith, f.small)))

convert_refusal : (to : ModuleKind) (file : List ℕ) (room : ℕ) (r : Refusal) → Bytes file → converting to file room ≡ refuses r → OwnRefusal r
unfolding converting
convert_refusal to file room r b e =
    refused_bind (read_file file) _ (refuses-refused _ _ e) (own_sound file r b)
    λ found end er e. refused_tests OwnRefusal _ _ e (omega arith) λ hs e. absurd (got_never e)

convert_file : (to : ModuleKind) (file : List ℕ) (room : ℕ) (bytes : List ℕ) → converting to file room ≡ gives bytes
    → (length bytes ≤ room) × (length bytes ≤ file_most)
unfolding converting
convert_file to file room bytes e =
    gives_bound _ (read_file file) _ e λ found end er e. gives_passed _ _ _ e λ hs e.
    let q = ap length (gives_same e) in (omega (arith, hs.1.0), omega (arith, hs.0))

convert_promise : (to : ModuleKind) (file : List ℕ) → Bytes file → KeepsPromise (λ (bytes : List ℕ). bytes) (converting to file)
convert_promise to file b =
    promise_kept _ (converting to file) (λ room r e. (convert_refusal to file room r b e).sound)
    (λ room bytes e. (convert_file to file room bytes e).0)

convert_loads : (to : ModuleKind) (file : List ℕ) (room : ℕ) → Bytes file → LoaderTells length (converting to file room) (convert_loader to file room)
convert_loads to file room b =
    loader_tells length (converting to file room) (convert_loader to file room) refl (λ bytes e. omega (arith, (convert_file to file room bytes e).1))
    (λ r e. let f = convert_refusal to file room r b e in (f.sound.numbered.0, omega (arith, f.small)))

-- The demands
pub demand₁ : Demand₁
demand₁ = record {
  check = λ file r b e. let f = file_refusal file r b e in (f.numbered, f.place);
  tables = tables_kept;
  unpack = unpack_promise;
  pack = pack_promise;
  decode = decode_promise;
  code = code_promise;
  decode_limited = λ width bytes.
      limited_promise delta_most (omega arith) (length bytes) (decoding width bytes) (decode_refusal width bytes) (decode_fits width bytes);
  code_limited = λ width values. limited_promise delta_most (omega arith) (length values) (coding width values) (code_refusal width values)
      (code_fits width values);
  adpcm = adpcm_promise;
  adpcm_limited = λ count bytes. limited_promise adpcm_most (omega arith) count (adpcm_decoding count bytes) (adpcm_refusal count bytes)
      (adpcm-fits count bytes);
  press = press_promise;
  convert = convert_promise;
}

pub demand₃ : Demand₃
demand₃ = record {
  patterns = pack_shortest;
  modules = λ kind. pressed-exactly (module_format kind) (module_back kind) (module_keeps kind);
  conversions = converts_shortest;
}

pub demand₂ : Demand₂
demand₂ = record {
  check = check_tells;
  press = λ kind. pressed_back (module_format kind) (module_back kind) (module_keeps kind);
  convert = λ kind to content file out f n.
      let answer = converting to file (length out) in
      accepted-gives answer (λ r e. (convert_refusal to file (length out) r f.plain e).sound.numbered.0) n λ bytes e.
      let d = demand₃.conversions kind to content file (length out) f in
      let same = gives_same (sym (d.given_else (λ q. gives-refuses e q) (λ q. gives-refuses e q)) ∙ e) in
      let stands = reported_written pressed_length (λ bytes. bytes) answer out bytes e (omega arith) in
      subst (FileOf (module_format to) (converted content)) (same ∙ sym stands) (d.written (λ q. gives-refuses e q));
  unpack = unpacks_to_cells;
  decode = λ width values out room f n l.
      accepted-gives (coding width values (length out)) (λ r e. ((code_promise width values).numbered (length out) r e).0) n λ bytes e.
      let stands = reported_written count_written (λ bytes. bytes) (coding width values (length out)) out bytes e (omega arith) in
      ap (λ (s : List ℕ). decoding width s room) stands ∙ coding-decoding width values bytes (length out) room f e l;
  code = λ width bytes out room b n l.
      accepted-gives (decoding width bytes (length out)) (λ r e. ((decode_promise width bytes).numbered (length out) r e).0) n λ values e.
      let stands = reported_written count_written (λ values. values) (decoding width bytes (length out)) out values e (omega arith) in
      ap (λ (s : List ℤ). coding width s room) stands ∙ decoding-coding width bytes values (length out) room b e l;
  sums = decoded-sums;
  adpcm = adpcm_tells;
}

-- The further claims: `fifteen` stands in Packing, `twelve_exactly` in Adpcm, `thirteen_exactly` in Sample, `accepted_files` and `asks_exactly` in
-- Accepted, `readers_tell` in Structure, `kinds_told` in Kind, `kinds_refused` in Never, `smallest_sizes` in Stripped, `own_refusals_first`
-- and `kept_else` in Convert, `converts_back` and `converts_within` in Growth
pub presses_whole : PressesWhole
presses_whole kind content file f =
    let back = module_back kind in
    let keeps = module_keeps kind in
    record {
      no_longer = pressed_shortest (module_format kind) back keeps f;
      ends =
          check_tells.accepted kind content (pressed kind content) (pressed-reads (module_format kind) back keeps f)
          ∙ ap {B = List ℕ} (λ (n : ℕ). 0 ∷ 0 ∷ n ∷ counts_of content) (pressed_ends (module_format kind) back keeps f);
    }

pub converts_keep : ConvertsKeep
converts_keep kind to content other file out f a g =
    subst (KeptElse content) (content_one (module_format to) (demand₂.convert kind to content file out f a) g) (kept_else content)

pub module_bytes : (kind : ModuleKind) → SameBytes (module_format kind)
module_bytes kind = same_bytes_lem (module_format kind) (module_back kind) (module_keeps kind)

pub tables_tell : (file : List ℕ) (room : Room) → TablesTell file room
unfolding checking_into
tables_tell file room = record {
  own_first = λ r e. answer_refuses _ (step_refused _ e);
  no_room_exactly = λ found end e. (
    λ q h. gives-refuses (filled found end e h) q,
    λ h. answer_refuses _ (step _ e (tests_fail (room_tests room found) _ (refl, (refl, (refl, tt))) (λ all. h (all.0, all.1.0, all.1.1.0)))),
  );
  filled_else = filled;
}
  where
    filled : (found : Found) (end : ℕ) → read_file file ≡ got found end → HasRoom room found → checking_into room file ≡ gives (checked_as found end)
    filled found end e h = answer_gives _ (step _ e (pass (room_tests room found) (h.0, (h.1, (h.2, tt))) refl))

pub rest_ignored : RestIgnored
rest_ignored file other found end e size l same =
    let kind = kind_at file in
    let agree : Agree end file other = record { long = l; same = same } in
    let r = whole_firm (module_format kind) (module_firm kind) file other found end e agree size in
    kind_reads kind other (kind_fits kind other found end r) ∙ r

default_free : {A : Type 0} (xs : List A) (k : ℕ) (a b : A) → k < length xs → get_or xs k a ≡ get_or xs k b
default_free [] k a b h = absurd (omega arith)
default_free (x ∷ xs) zero a b h = refl
default_free (x ∷ xs) (suc k) a b h = default_free xs k a b (omega arith)

pub restarts_read : RestartsRead
unfolding read_header restart_of restart_inside
restarts_read file found end e =
    whole_read (module_format (kind_at file)) file found end e λ h e. bind_got _ _ e λ header n eh e. bind_got _ _ e λ body m eb e.
    passed _ _ eh λ hs eh.
    let same : found.0.content ≡ header_of (kind_at file) file = cc in
    record {
      beyond = λ l. ap Header.restart same ∙ rw (le-ltb (restart_at file) (song_length_at file) l);
      inside = λ l. ap Header.restart same ∙ rw (lt-ltb (restart_at file) (song_length_at file) l);
    }

pub plays_orders : (content : Content) → PlaysOrders content
unfolding plays
plays_orders content = record {
  named = λ position number p inside e h. rw e (default_free content.1.0 number _ p h);
  nameless = λ position inside h. get_or-eq_default content.1.0 _ h;
}

pub loaders_tell : LoadersTell
loaders_tell = record {
  check = check_loads;
  unpack = unpack_tells;
  pack = pack_tells;
  pack_apart = pack_apart;
  press = press_loads;
  convert = convert_loads;
  tables = into_loads;
  decode = λ width bytes. limited_loads delta_most (omega arith) (length bytes) (decoding width bytes) (decode_refusal width bytes) (decode_fits width bytes);
  decode_limited = λ width bytes room. limited delta_most (length bytes) (decoding width bytes room);
  code = λ width values. limited_loads delta_most (omega arith) (length values) (coding width values) (code_refusal width values) (code_fits width values);
  code_limited = λ width values room. limited delta_most (length values) (coding width values room);
  adpcm = λ count bytes. limited_loads adpcm_most (omega arith) count (adpcm_decoding count bytes) (adpcm_refusal count bytes) (adpcm-fits count bytes);
  adpcm_limited = λ count bytes room. limited adpcm_most count (adpcm_decoding count bytes room);
}
