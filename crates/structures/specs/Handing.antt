-- What a reader hands over and how far it has read, as the code has them: by this paper's kinds, the end, and the refusal.
use Rattle.std.specs.Prelude.{ℕ, List, [], ◌∷◌, Option, Some, None, Result, Ok, Err}
use Rattle.std.specs.Option.{option_map}
use Rattle.xm.specs.Format.{Kind, header, pattern_header, pattern_data, instrument, sample_header, sample_data}
use Rattle.xm.specs.Answer.{Answer, gives, refuses, numbers}
use Rattle.xm.specs.Structure as paper
use Rattle.xm.specs.Structure.{kind_number, called, read_on}
use Rattle.refusal.specs.Refusal.{paper_refusal, outcome}
use Rattle.refusal.specs.declared.Refusal.{Refusal}
use Rattle.structures.specs.declared.StructureKind.{StructureKind}
use Rattle.structures.specs.declared.StructureKind.TheVariants.{Pattern, Instrument, SampleHeader}
use Rattle.structures.specs.declared.Structure.{Structure}
use Rattle.structures.specs.declared.Ahead.{Ahead}
use Rattle.structures.specs.declared.Handed.{Handed}

-- Of the regions only these three kinds are structures.
abbrev pub standing_at : Kind → (place : ℕ) → Option Structure
standing_at header place = None
standing_at pattern_header place = Some (record { kind = Pattern; place = place })
standing_at pattern_data place = None
standing_at instrument place = Some (record { kind = Instrument; place = place })
standing_at sample_header place = Some (record { kind = SampleHeader; place = place })
standing_at sample_data place = None

abbrev pub standing_in : paper.Standing → Option Structure
standing_in (paper.stands kind place) = standing_at kind place
standing_in paper.ended = None

-- The kind in the definitions.
abbrev pub kind_in : StructureKind → Kind
kind_in Pattern = pattern_header
kind_in Instrument = instrument
kind_in SampleHeader = sample_header

-- This paper's numbers for each case: number, place of the refusal, kind (0 at the end: the file's header is not handed over), place.
abbrev pub standing_numbers : Result (Option Structure) Refusal → List ℕ
standing_numbers (Ok (Some structure)) = 0 ∷ 0 ∷ kind_number (kind_in structure.kind) ∷ structure.place ∷ []
standing_numbers (Ok None) = 0 ∷ 0 ∷ 0 ∷ 0 ∷ []
standing_numbers (Err refusal) = refusal.number ∷ refusal.place ∷ 0 ∷ 0 ∷ []

-- and the same of the definition's answer.
abbrev pub kind_standing : paper.Standing → ℕ
kind_standing (paper.stands kind place) = kind_number kind
kind_standing paper.ended = 0

abbrev pub place_standing : paper.Standing → ℕ
place_standing (paper.stands kind place) = place
place_standing paper.ended = 0

abbrev pub reading_numbers : Answer paper.Standing → List ℕ
reading_numbers answer = numbers (kind_standing ∷ place_standing ∷ []) answer

-- How far has been read, there and back.
abbrev pub ahead_of : paper.Ahead → Ahead
ahead_of a = record { patterns = a.patterns; instruments = a.instruments; place = a.place; heads = a.heads; head = a.head; head_size = a.head_size }

abbrev pub ahead_in : Ahead → paper.Ahead
ahead_in a = record { patterns = a.patterns; instruments = a.instruments; place = a.place; heads = a.heads; head = a.head; head_size = a.head_size }

abbrev pub reached_in : Result Ahead Refusal → Answer paper.Ahead
reached_in (Ok a) = gives (ahead_in a)
reached_in (Err refusal) = refuses (paper_refusal refusal)

-- What a call gives of it, and how far has been read then.
abbrev pub handing : (file : List ℕ) → Result Ahead Refusal → Handed
handing file x = record {
  standing = outcome standing_in (called file (reached_in x));
  reached = outcome ahead_of (read_on file (reached_in x));
}

-- A structure that is handed over, and how far has been read then; or the end.
abbrev pub handed_next : paper.Handed → Option (Structure × Ahead)
handed_next h = option_map (λ structure. (structure, ahead_of h.ahead)) (standing_in h.standing)
