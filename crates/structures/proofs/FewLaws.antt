-- How many structures a file has at most: 256 patterns, and 128 instruments with 16 sample headers each. Assumes nothing.
use Prim.Native.Nat.{ℕ, zero, suc, ◌+◌, ◌-◌, ◌*◌, ◌≤◌}
use mathlib.Core.Bool.{Bool, true, false, cond}
use mathlib.Core.List.{List, [], ◌∷◌, ◌++◌}
use mathlib.Core.Path.{◌≡◌, refl, ap}
use native.Mathlib.Omega.{arith}
use lib.ListN.{length, drop, replicate, length-replicate}
use Rattle.xm.specs.Number.{Bytes}
use Rattle.xm.specs.Got.{got}
use Rattle.xm.specs.Format.{Region, sample_header, sample_data, joined}
use Rattle.xm.specs.ModuleKind.{ModuleKind}
use Rattle.xm.specs.Header.{channels_at, patterns_at, instruments_at, header_end, kind_at}
use Rattle.xm.specs.PatternInFile.{PatternFound, pattern_format}
use Rattle.xm.specs.Sample.{StretchFound, stretch_region}
use Rattle.xm.specs.Instrument.{InstrumentFound, instrument_format}
use Rattle.xm.specs.Module.{Found, file_most, read_file}
use Rattle.xm.specs.Structure.{is_structure, structures_of, structures}
use Rattle.xm.proofs.Format.{read_length}
use Rattle.rows.specs.Accepted.{ReadsFrom}
use Rattle.rows.proofs.Reading.{reads_none, file_reads}
use Rattle.rows.proofs.InstrumentLaws.{instruments_next}

abbrev count : List Region → ℕ
count rs = length (structures_of rs)

count_append : (xs ys : List Region) → count (xs ++ ys) ≡ count xs + count ys
count_append [] ys = omega arith
count_append (r ∷ xs) ys = go (is_structure r.kind) (count_append xs ys)
  where
    go : (t : Bool) → count (xs ++ ys) ≡ count xs + count ys
        → length (cond t (r ∷ structures_of (xs ++ ys)) (structures_of (xs ++ ys))) ≡ length (cond t (r ∷ structures_of xs) (structures_of xs)) + count ys
    go true e = omega (arith, e)
    go false e = e

heads_count : (hs : List StretchFound) → count (joined (stretch_region sample_header) hs) ≡ length hs
heads_count [] = refl
heads_count (h ∷ hs) = ap suc (heads_count hs)

data_count : (ds : List StretchFound) → count (joined (stretch_region sample_data) ds) ≡ 0
data_count [] = refl
data_count (d ∷ ds) = data_count ds

patterns_count : (ps : List PatternFound) → count (joined pattern_format.regions ps) ≡ length ps
patterns_count [] = refl
patterns_count (p ∷ ps) = ap suc (patterns_count ps)

instrument_count : (kind : ModuleKind) (i : InstrumentFound) → count ((instrument_format kind).regions i) ≡ 1 + length i.samples.0
instrument_count kind i =
    omega (
      arith,
      count_append (joined (stretch_region sample_header) i.samples.0) (joined (stretch_region sample_data) i.samples.1),
      heads_count i.samples.0,
      data_count i.samples.1,
    )

instruments_few : (file : List ℕ) → length file ≤ file_most → Bytes file → (n place end : ℕ) (is : List InstrumentFound)
    → ReadsFrom (instrument_format (kind_at file)) tt file n place is end
    → count (joined (instrument_format (kind_at file)).regions is) ≤ 17 * n
instruments_few file small bytes zero place end is w =
    omega (
      arith,
      ap (λ (l : List InstrumentFound). count (joined (instrument_format (kind_at file)).regions l))
          (reads_none (instrument_format (kind_at file)) tt file w).0,
    )
instruments_few file small bytes (suc n) place end is w =
    instruments_next file small bytes w (omega arith) λ i m more ei s ep rest.
    let z : suc n - 1 ≡ n = omega arith in
    omega (
      arith,
      ap (λ (l : List InstrumentFound). count (joined (instrument_format (kind_at file)).regions l)) ep,
      count_append ((instrument_format (kind_at file)).regions i) (joined (instrument_format (kind_at file)).regions more),
      instrument_count (kind_at file) i,
      s.counted,
      s.stands.few,
      instruments_few file small bytes n (place + m) end more (rw z at rest),
    )

pub structures_few : (file : List ℕ) (found : Found) (end : ℕ) → Bytes file → read_file file ≡ got found end → length (structures found) ≤ 256 + 17 * 128
structures_few file found end bytes e =
    let w = file_reads file found end e in
    let few = instruments_few file w.small bytes (instruments_at file) w.from w.end found.1.1 w.instruments in
    let many = read_length pattern_format (replicate (patterns_at file) (channels_at file)) (header_end file) (drop (header_end file) file) found.1.0
    w.patterns.used w.patterns.reads in
    omega (
      arith,
      few,
      many,
      length-replicate (patterns_at file) (channels_at file),
      patterns_count found.1.0,
      count_append (joined pattern_format.regions found.1.0) (joined (instrument_format (kind_at file)).regions found.1.1),
      w.tests.1.1.1.1.1.0.1,
      w.tests.1.1.1.1.1.1.1.0,
    )
