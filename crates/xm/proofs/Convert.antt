-- Conversion: the converted content is good in either kind, and what is written of it is the shortest file of it. Assumes nothing.
use Prim.Native.Nat.{ℕ, zero, suc, ◌≤◌, ◌<◌}
use mathlib.Core.List.{List, [], ◌∷◌}
use mathlib.Core.Path.{◌≡◌, refl, sym, ap, ◌∙◌}
use native.Mathlib.Decide.{dec_le}
use native.Mathlib.Omega.{arith}
use lib.ListN.{length, replicate}
use Rattle.xm.specs.ModuleKind.{ModuleKind, normal, stripped}
use Rattle.xm.specs.Got.{Refusal, got, present, ◌at◌}
use Rattle.xm.specs.Format.{EachGood}
use Rattle.xm.specs.Answer.{Answer, gives, refuses, answered, number_of}
use Rattle.xm.specs.Header.{Header, no_tracker, GoodTracker, GoodHeader}
use Rattle.xm.specs.Instrument.{Instrument, instrument_format}
use Rattle.xm.specs.Module.{Content, module_format, file_most, read_file}
use Rattle.xm.specs.Press.{content_of, pressed, pressing_as}
use Rattle.xm.specs.Convert.{without_tracker, converted, converting}
use Rattle.xm.specs.Demands.{FileOf, OwnRefusalsFirst, KeptElse, ConvertsShortest}
use Rattle.xm.proofs.Number.{bytes_zeros}
use Rattle.xm.proofs.Got.{pass, step, step_refused, test_holds, test_fails}
use Rattle.xm.proofs.Answer.{answer_refuses, gives-refuses}
use Rattle.xm.proofs.Module.{module_back, module_keeps}
use Rattle.xm.proofs.Kind.{kind_fits, kind_reads}
use Rattle.xm.proofs.Press.{pressed_file, pressed_shortest, file_size, file_good}

-- The converted content is good
no_tracker_good : (kind : ModuleKind) → GoodTracker kind no_tracker
no_tracker_good normal = (refl, bytes_zeros 20)
no_tracker_good stripped = refl

pub header_good : (kind to : ModuleKind) (x : Header) → GoodHeader kind x → GoodHeader to (without_tracker x)
header_good kind to x g = record {
  name_size = g.name_size;
  name_plain = g.name_plain;
  tracker_good = no_tracker_good to;
  counts = g.counts;
  restart_low = g.restart_low;
  flags_high = g.flags_high;
  tempo_high = g.tempo_high;
  bpm_high = g.bpm_high;
  orders_size = g.orders_size;
  orders_plain = g.orders_plain;
}

instruments_good : (kind to : ModuleKind) (n : ℕ) (xs : List Instrument) → EachGood (instrument_format kind) (replicate n tt) xs
    → EachGood (instrument_format to) (replicate n tt) xs
instruments_good kind to zero [] g = tt
instruments_good kind to zero (x ∷ xs) g = absurd g
instruments_good kind to (suc n) [] g = absurd g
instruments_good kind to (suc n) (x ∷ xs) g = (g.0, instruments_good kind to n xs g.1)

pub converted_good : (kind to : ModuleKind) (x : Content) → (module_format kind).Good tt x → (module_format to).Good tt (converted x)
converted_good kind to x g = (header_good kind to x.0 g.0, (g.1.0, instruments_good kind to x.0.instruments x.1.1 g.1.1))

-- and keeps all but the tracker name
pub kept_else : (x : Content) → KeptElse x (converted x)
kept_else x = record {
  module_name = refl;
  tracker_null = refl;
  song_length = refl;
  restart = refl;
  channels = refl;
  patterns = refl;
  instruments = refl;
  flags = refl;
  tempo = refl;
  bpm = refl;
  orders = refl;
  body = refl;
}

-- A refused file
pub own_refusals_first : (file : List ℕ) (r : Refusal) → OwnRefusalsFirst file r
unfolding pressing_as converting
own_refusals_first file r = record {
  press = λ room e. answer_refuses _ (step_refused _ e);
  convert = λ to room e. answer_refuses _ (step_refused _ e);
}

-- Of a file of a kind
module _ (kind to : ModuleKind) {content : Content} {file : List ℕ} (f : FileOf (module_format kind) content file) where
  abbrev written : List ℕ
  written = pressed to (converted content)

  file_reads : read_file file ≡ got f.found f.end
  file_reads = kind_reads kind file (kind_fits kind file f.found f.end f.reads) ∙ f.reads

  found_written : pressed to (converted (content_of f.found)) ≡ written
  found_written = ap (λ (x : Content). pressed to (converted x)) f.same

  pub converted_file_lem : length written ≤ file_most → FileOf (module_format to) (converted content) written
  converted_file_lem h =
      pressed_file (module_format to) (module_back to) (module_keeps to) (converted content)
      (converted_good kind to content (file_good (module_format kind) (module_back kind) (module_keeps kind) f)) h

  -- the three answers
  pub convert_gives : (room : ℕ) → length written ≤ file_most → length written ≤ room → converting to file room ≡ gives written
  unfolding converting
  convert_gives room h l =
      let size = ap length found_written in
      ap (answered (λ bytes used. bytes))
      (step _ file_reads
      (pass _ {r = got (pressed to (converted (content_of f.found))) f.end} (omega (arith, size), (omega (arith, size), tt)) refl))
      ∙ ap {B = Answer (List ℕ)} (λ (bytes : List ℕ). gives bytes) found_written

  pub convert_large : (room : ℕ) → file_most < length written → converting to file room ≡ refuses (2 at 0)
  unfolding converting
  convert_large room h = ap (answered (λ bytes used. bytes)) (step _ file_reads (test_fails _ _ _ (λ l. omega (arith, l, ap length found_written))))

  pub convert_narrow : (room : ℕ) → length written ≤ file_most → room < length written → converting to file room ≡ refuses (14 at 0)
  unfolding converting
  convert_narrow room h l =
      ap (answered (λ bytes used. bytes))
      (step _ file_reads
      (test_holds _ (present (length (pressed to (converted (content_of f.found)))) room (14 at 0) ∷ []) _ (omega (arith, ap length found_written))
      ∙ test_fails _ _ _ (λ q. omega (arith, q, ap length found_written))))

  -- and what each says of the length
  module _ (room : ℕ) where
    too_large : converting to file room ≡ refuses (2 at 0) → file_most < length written
    too_large q = go (dec_le (length written) file_most) (dec_le (length written) room)
      where
        go : Dec (length written ≤ file_most) → Dec (length written ≤ room) → file_most < length written
        go (yes h) (yes l) = absurd (gives-refuses (convert_gives room h l) q)
        go (yes h) (no l) = absurd (omega (arith, sym (ap number_of q) ∙ ap number_of (convert_narrow room h (omega arith))))
        go (no h) d = omega arith

    small_enough : (converting to file room ≡ refuses (2 at 0) → ⊥) → length written ≤ file_most
    small_enough q = go (dec_le (length written) file_most)
      where
        go : Dec (length written ≤ file_most) → length written ≤ file_most
        go (yes h) = h
        go (no h) = absurd (q (convert_large room (omega arith)))

    too_narrow : length written ≤ file_most → converting to file room ≡ refuses (14 at 0) → room < length written
    too_narrow h q = go (dec_le (length written) room)
      where
        go : Dec (length written ≤ room) → room < length written
        go (yes l) = absurd (gives-refuses (convert_gives room h l) q)
        go (no l) = omega arith

    wide_enough : length written ≤ file_most → (converting to file room ≡ refuses (14 at 0) → ⊥) → length written ≤ room
    wide_enough h q = go (dec_le (length written) room)
      where
        go : Dec (length written ≤ room) → length written ≤ room
        go (yes l) = l
        go (no l) = absurd (q (convert_narrow room h (omega arith)))

    none_fits : ((other : List ℕ) → FileOf (module_format to) (converted content) other → ⊥) → file_most < length written
    none_fits none = go (dec_le (length written) file_most)
      where
        go : Dec (length written ≤ file_most) → file_most < length written
        go (yes h) = absurd (none written (converted_file_lem h))
        go (no h) = omega arith

-- demand 3
pub converts_shortest : ConvertsShortest
converts_shortest kind to content file room f = record {
  too_large_exactly = (
    λ q other o. omega (arith, too_large kind to f room q, no_shorter other o, file_size (module_format to) (module_back to) (module_keeps to) o),
    λ none. convert_large kind to f room (none_fits kind to f room none),
  );
  over_exactly = (too_large kind to f room, convert_large kind to f room);
  no_room_exactly = λ small.
      let h = small_enough kind to f room small in (
        λ q other o. omega (arith, too_narrow kind to f room h q, no_shorter other o),
        λ q. convert_narrow kind to f room h (q (pressed to (converted content)) (converted_file_lem kind to f h)),
      );
  given_else = λ small wide. let h = small_enough kind to f room small in convert_gives kind to f room h (wide_enough kind to f room h wide);
  written = λ small. converted_file_lem kind to f (small_enough kind to f room small);
  shortest = no_shorter;
}
  where
    no_shorter : (other : List ℕ) → FileOf (module_format to) (converted content) other → length (pressed to (converted content)) ≤ length other
    no_shorter other o = pressed_shortest (module_format to) (module_back to) (module_keeps to) o

-- A stripped file has no tracker name to lose, so that its content comes back
pub stripped_content : (x : Content) → (module_format stripped).Good tt x → converted x ≡ x
stripped_content x g = ap (λ (name : List ℕ). (named name, x.1)) (sym g.0.tracker_good)
  where
    named : List ℕ → Header
    named name = record {
      module_name = x.0.module_name;
      tracker_name = name;
      song_length = x.0.song_length;
      restart = x.0.restart;
      channels = x.0.channels;
      patterns = x.0.patterns;
      instruments = x.0.instruments;
      flags = x.0.flags;
      tempo = x.0.tempo;
      bpm = x.0.bpm;
      orders = x.0.orders;
    }
