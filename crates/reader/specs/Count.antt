-- How many structures of each kind a file has.
use Rattle.std.specs.Prelude.{ℕ, ◌+◌, List, [], ◌∷◌, length, drop, Result, Ok, Err}
use Rattle.xm.specs.Format.{Region, pattern_header, instrument, sample_header}
use Rattle.xm.specs.Answer.{Answer, answered}
use Rattle.xm.specs.Module.{read_file}
use Rattle.xm.specs.Table.{CheckReport, check_results}
use Rattle.xm.specs.Structure.{structures}
use Rattle.xm.specs.Region.{of_kind}
use Rattle.refusal.specs.declared.Refusal.{Refusal}
use Rattle.structures.specs.declared.StructureKind.{StructureKind}
use Rattle.structures.specs.declared.StructureKind.TheVariants.{Pattern, Instrument, SampleHeader}
use Rattle.reader.specs.declared.count.Counts.{Counts}

-- Of each kind, how many there are among some structures.
abbrev pub structure_counts : List Region → Counts
structure_counts rs = record {
  patterns = length (of_kind pattern_header rs);
  instruments = length (of_kind instrument rs);
  samples = length (of_kind sample_header rs);
}

-- Of all kinds together.
abbrev pub total : Counts → ℕ
total counts = counts.patterns + counts.instruments + counts.samples

-- With one more of a kind.
abbrev pub one_more : Counts → StructureKind → Counts
one_more counts Pattern = record { patterns = counts.patterns + 1; instruments = counts.instruments; samples = counts.samples }
one_more counts Instrument = record { patterns = counts.patterns; instruments = counts.instruments + 1; samples = counts.samples }
one_more counts SampleHeader = record { patterns = counts.patterns; instruments = counts.instruments; samples = counts.samples + 1 }

-- Among those of a file; or the check's refusal.
unfoldable pub counting : (file : List ℕ) → Answer Counts
counting file = answered (λ found end. structure_counts (structures found)) (read_file file)

-- This paper's numbers for each case: number, place, patterns, instruments, samples.
abbrev pub counted_numbers : Result Counts Refusal → List ℕ
counted_numbers (Ok counts) = 0 ∷ 0 ∷ counts.patterns ∷ counts.instruments ∷ counts.samples ∷ []
counted_numbers (Err refusal) = refusal.number ∷ refusal.place ∷ 0 ∷ 0 ∷ 0 ∷ []

-- The results of the check that these are to equal: behind the end and the channels, patterns, instruments and samples.
abbrev pub count_results : List (CheckReport → ℕ)
count_results = drop 2 check_results
