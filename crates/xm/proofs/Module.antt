-- The laws of a whole module, and of what is read of a file. Assumes nothing.
use Prim.Native.Nat.{ℕ, ◌≤◌}
use mathlib.Core.List.{List}
use mathlib.Core.Path.{◌≡◌}
use native.Mathlib.Nat.{zero-add}
use lib.ListN.{length}
use Rattle.xm.specs.Number.{Bytes}
use Rattle.xm.specs.ModuleKind.{ModuleKind}
use Rattle.xm.specs.Got.{got}
use Rattle.xm.specs.Format.{Format, All}
use Rattle.xm.specs.Header.{Header, GoodHeader}
use Rattle.xm.specs.PatternInFile.{pattern_format}
use Rattle.xm.specs.Instrument.{InstrumentFound, instrument_format}
use Rattle.xm.specs.Module.{patterns_for, instruments_for, body_format, Found, module_format, file_most, read_whole}
use Rattle.xm.proofs.Number.{Agree}
use Rattle.xm.proofs.Got.{pass, passed, bind_got, got_carry}
use Rattle.xm.proofs.Format.{Back, Keeps, Adjoins, Firm, Tells, over_back, over_keeps, over_adjoins, over_firm, over_tells, then_back}
use Rattle.xm.proofs.Format.{then_keeps, then_adjoins, then_firm, then_tells, many_back, many_keeps, many_adjoins, many_firm, many_tells}
use Rattle.xm.proofs.Header.{header_back, header_keeps, header_adjoins, header_firm}
use Rattle.xm.proofs.PatternInFile.{PatternTold, pattern_back, pattern_keeps, pattern_adjoins, pattern_firm, pattern_tells}
use Rattle.xm.proofs.Sample.{SamplesTold}
use Rattle.xm.proofs.Instrument.{instrument_adjoins, instrument_tells}
use Rattle.xm.proofs.Stripped.{instrument_back, instrument_keeps, instrument_firm}

-- The patterns and the instruments, after a header
body_back : (kind : ModuleKind) (x : Header) → Back (body_format kind) x
body_back kind x =
    then_back instruments_for (over_back patterns_for x (many_back pattern_format x.patterns (pattern_back x.channels)))
    (λ patterns g. many_back (instrument_format kind) x.instruments (instrument_back kind))

body_keeps : (kind : ModuleKind) (x : Header) → GoodHeader kind x → Keeps (body_format kind) x
body_keeps kind x g =
    then_keeps instruments_for (over_keeps patterns_for x (many_keeps pattern_format x.patterns (pattern_keeps x.channels g.counts.1.1.0.0)))
    (λ patterns g'. many_keeps (instrument_format kind) x.instruments (instrument_keeps kind))

body_adjoins : (kind : ModuleKind) (x : Header) → Adjoins (body_format kind) x
body_adjoins kind x =
    then_adjoins instruments_for (over_adjoins patterns_for x (many_adjoins pattern_format x.patterns (pattern_adjoins x.channels)))
    (λ patterns. many_adjoins (instrument_format kind) x.instruments (instrument_adjoins kind))

body_firm : (kind : ModuleKind) (x : Header) → Firm (body_format kind) x
body_firm kind x =
    then_firm instruments_for (over_firm patterns_for x (many_firm pattern_format x.patterns (pattern_firm x.channels)))
    (λ patterns. many_firm (instrument_format kind) x.instruments (instrument_firm kind))

-- A module
pub module_back : (kind : ModuleKind) → Back (module_format kind) tt
module_back kind = then_back (λ u x. x) (header_back kind) (λ x g. body_back kind x)

pub module_keeps : (kind : ModuleKind) → Keeps (module_format kind) tt
module_keeps kind = then_keeps (λ u x. x) (header_keeps kind) (body_keeps kind)

pub module_adjoins : (kind : ModuleKind) → Adjoins (module_format kind) tt
module_adjoins kind = then_adjoins (λ u x. x) (header_adjoins kind) (body_adjoins kind)

pub module_firm : (kind : ModuleKind) → Firm (module_format kind) tt
module_firm kind = then_firm (λ u x. x) (header_firm kind) (body_firm kind)

-- What the patterns and samples found say of the file
pub record ModuleTold (file : List ℕ) (found : Found) : Type 0 where
  pub patterns : All (PatternTold found.0.content.channels file) found.1.0
  pub instruments : All (λ (i : InstrumentFound). SamplesTold file i.samples) found.1.1

module _ (kind : ModuleKind) {P : List ℕ → InstrumentFound → Type 0} (told : Tells (instrument_format kind) tt P) where
  body_tells : (x : Header) → Tells (body_format kind) x (λ file v. All (PatternTold x.channels file) v.0 × All (P file) v.1)
  body_tells x =
      then_tells instruments_for (over_tells patterns_for x (many_tells pattern_format x.patterns (pattern_tells x.channels)))
      (λ patterns. many_tells (instrument_format kind) x.instruments told)

  pub module_told : (file : List ℕ) (found : Found) (end : ℕ) → Bytes file → (module_format kind).read tt 0 file ≡ got found end
      → All (PatternTold found.0.content.channels file) found.1.0 × All (P file) found.1.1
  module_told file found end b e =
      bind_got _ _ e λ i k ei e₁. bind_got _ _ e₁ λ v m ev e₂.
      got_carry (λ (r : Found) (u : ℕ). All (PatternTold r.0.content.channels file) r.1.0 × All (P file) r.1.1) e₂
      ((body_tells i.content).tells k file v m b (rw (zero-add k) at ev))

pub module_tells : (kind : ModuleKind) (file : List ℕ) (found : Found) (end : ℕ) → Bytes file → (module_format kind).read tt 0 file ≡ got found end
    → ModuleTold file found
module_tells kind file found end b e =
    let t = module_told kind (instrument_tells kind) file found end b e in record { patterns = t.0; instruments = t.1 }

-- A file of a format
module _ {I A : Type 0} (F : Format (Unit {0}) I A) where
  pub whole_reads : (file : List ℕ) (found : I) (end : ℕ) → length file ≤ file_most → F.read tt 0 file ≡ got found end → read_whole F file ≡ got found end
  unfolding read_whole
  whole_reads file found end h e = pass _ (h, tt) e

  pub whole_read : {R : Type 0} (file : List ℕ) (found : I) (end : ℕ) → read_whole F file ≡ got found end
      → (length file ≤ file_most → F.read tt 0 file ≡ got found end → R) → R
  unfolding read_whole
  whole_read file found end e k = passed _ _ e λ h e. k h.0 e

  -- Bytes after the end do not matter
  pub whole_firm : Firm F tt → (file other : List ℕ) (found : I) (end : ℕ) → read_whole F file ≡ got found end → Agree end file other → length other ≤ file_most
      → read_whole F other ≡ got found end
  whole_firm b file other found end e a h = whole_read file found end e λ l e₁. whole_reads other found end h (b.firm 0 file other found end e₁ a)
