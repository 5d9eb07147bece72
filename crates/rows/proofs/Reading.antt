-- A second pass over an accepted file: what is left of an accepted reading is accepted, part by part. Assumes nothing.
use Prim.Native.Nat.{ℕ, zero, suc, ◌+◌, ◌-◌, ◌≤◌, ◌<◌}
use mathlib.Core.Bool.{true}
use mathlib.Core.List.{List, [], ◌∷◌}
use mathlib.Core.Path.{◌≡◌, refl, sym, ap}
use native.Mathlib.Nat.{zero-add}
use native.Mathlib.Omega.{arith}
use lib.ListN.{length, drop, replicate}
use lib.Seq.{drop-drop}
use Rattle.xm.specs.Got.{Got, got, refused, AllHold, list_in, accepted}
use Rattle.xm.specs.Format.{Format, each, each_read}
use Rattle.xm.specs.Header.{header_of, HeaderFound, header_tests, channels_at, patterns_at, instruments_at, header_end, kind_at, read_header}
use Rattle.xm.specs.PatternInFile.{PatternFound, pattern_format}
use Rattle.xm.specs.Instrument.{InstrumentFound, instrument_format}
use Rattle.xm.specs.Module.{Found, patterns_for, instruments_for, module_format, file_most, read_file}
use Rattle.xm.proofs.Got.{accepted-got, passed, bind_got, got_value, got_used, got_carry}
use Rattle.xm.proofs.Module.{whole_read}
use Rattle.rows.specs.Accepted.{ReadsFrom}

-- A list that is not empty is of an accepted reading
pub some_accepted : {A B : Type 0} (rows : A → List B) (g : Got A) {number : ℕ} → number < length (list_in rows g) → accepted g ≡ true
some_accepted rows (got a n) h = refl
some_accepted rows (refused r) h = absurd (omega arith)

-- Parts that are read one after the other: none, and the first of them
module _ {H I A : Type 0} (F : Format H I A) (h : H) (file : List ℕ) where
  pub reads_none : {place end : ℕ} {parts : List I} → ReadsFrom F h file 0 place parts end → (parts ≡ []) × (place ≡ end)
  reads_none w = (sym (got_value w.reads), omega (arith, got_used w.reads, w.ends))

  pub reads_next : {R : Type 0} {count place end : ℕ} {parts : List I} → ReadsFrom F h file count place parts end → 0 < count
      → ((i : I) (n : ℕ) (more : List I) → F.read h place (drop place file) ≡ got i n → parts ≡ i ∷ more
      → ReadsFrom F h file (count - 1) (place + n) more end → R)
      → R
  reads_next {count = zero} w l k = absurd (omega arith)
  reads_next {count = suc count} {place} w l k =
      bind_got (F.read h place (drop place file)) _ w.reads λ i n ei e.
      bind_got (each_read F (replicate count h) (place + n) (drop n (drop place file))) _ e λ more m em e.
      let z : suc count - 1 ≡ count = omega arith in
      k i n more ei (sym (got_value e)) (record { used = m; reads = rw (z, ← drop-drop n place file) em; ends = omega (arith, got_used e, w.ends) })

-- A whole file, of its own kind: its header's tests, its patterns and its instruments
pub record FileReads (file : List ℕ) (found : Found) : Type 0 where
  pub small : length file ≤ file_most
  pub tests : AllHold (header_tests (kind_at file) 0 file)
  pub header : found.0.content ≡ header_of (kind_at file) file
  pub from : ℕ
  pub end : ℕ
  pub patterns : ReadsFrom pattern_format (channels_at file) file (patterns_at file) (header_end file) found.1.0 from
  pub instruments : ReadsFrom (instrument_format (kind_at file)) tt file (instruments_at file) from found.1.1 end

pub file_reads : (file : List ℕ) (found : Found) (end : ℕ) → read_file file ≡ got found end → FileReads file found
unfolding read_header
file_reads file found end e =
    whole_read (module_format (kind_at file)) file found end e λ small e.
    bind_got (read_header (kind_at file) 0 file) _ e λ i n eh e₁. bind_got _ _ e₁ λ v m ev e₂.
    bind_got _ _ ev λ ps k ep e₃. bind_got _ _ e₃ λ is j ei e₄.
    passed _ _ eh λ tests eh.
    let patterns = got_carry (λ (i : HeaderFound) (n : ℕ). (each pattern_format).read (patterns_for i.content) (0 + n) (drop n file) ≡ got ps k) (sym eh) ep in
    let instruments = got_carry (λ (i : HeaderFound) (n : ℕ).
    (each (instrument_format (kind_at file))).read (instruments_for i.content []) (0 + n + k) (drop k (drop n file)) ≡ got is j) (sym eh) ei in
    got_carry (λ (r : Found) (u : ℕ). FileReads file r) e₂
    (got_carry (λ (r : List PatternFound × List InstrumentFound) (u : ℕ). FileReads file (i, r)) e₄
    (record {
      small = small;
      tests = tests;
      header = ap HeaderFound.content (sym (got_value eh));
      from = header_end file + k;
      end = header_end file + k + j;
      patterns = record { used = k; reads = rw (zero-add (header_end file)) at patterns; ends = refl };
      instruments = record { used = j; reads = rw (zero-add (header_end file), drop-drop k (header_end file) file) at instruments; ends = refl };
    }))

-- and of one that was accepted
module _ (file : List ℕ) (h : accepted (read_file file) ≡ true) where
  pub accepted-small : length file ≤ file_most
  accepted-small = accepted-got (read_file file) h λ found end e. (file_reads file found end e).small

  pub accepted-header : AllHold (header_tests (kind_at file) 0 file)
  accepted-header = accepted-got (read_file file) h λ found end e. (file_reads file found end e).tests
