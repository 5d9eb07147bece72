-- What holds of every answer that meets the contracts of `start` and `hand`. Assumes nothing.
use Prim.Native.Nat.{ℕ, ◌+◌}
use mathlib.Core.Bool.{Bool, true, false, cond}
use mathlib.Core.List.{List, [], ◌∷◌}
use mathlib.Core.Path.{◌≡◌, refl, sym, ◌∙◌}
use lib.Dec.{leb, ltb}
use lib.ListN.{length, drop}
use Rattle.std.specs.Prelude.{Result, Ok}
use Rattle.xm.specs.Got.{Got, got, refused}
use Rattle.xm.specs.Format.{Kind, Region, header, pattern_header, pattern_data, instrument, sample_header, sample_data, All}
use Rattle.xm.specs.Answer.{Answer, gives, refuses}
use Rattle.xm.specs.Header.{kind_at}
use Rattle.xm.specs.PatternInFile.{least_pattern}
use Rattle.xm.specs.Instrument.{InstrumentFound, read_instrument}
use Rattle.xm.specs.Module.{file_most}
use Rattle.xm.specs.Structure as paper
use Rattle.xm.specs.Structure.{is_structure, kind_number, structures_of, ends_at, hand_head, hand_pattern, hand_instrument, hand_over, started, called}
use Rattle.xm.proofs.Got.{no_true}
use Rattle.refusal.specs.Refusal.{outcome}
use Rattle.refusal.specs.declared.Refusal.{Refusal}
use Rattle.structures.specs.declared.Ahead.{Ahead}
use Rattle.structures.specs.declared.Handed.{Handed}
use Rattle.structures.specs.Handing.{standing_at, standing_in, standing_numbers, reading_numbers, ahead_of, reached_in, handing}

-- How far has been read, there and back
pub reached_back : (x : Answer paper.Ahead) → reached_in (outcome ahead_of x) ≡ x
reached_back (gives a) = refl
reached_back (refuses r) = refl

-- No second answer fits
pub start_once : (file : List ℕ) {answer other : Result Ahead Refusal} → answer ≡ outcome ahead_of (started file) → other ≡ outcome ahead_of (started file) → answer ≡ other
start_once file met e = met ∙ sym e

pub hand_once : (file : List ℕ) (x : Result Ahead Refusal) {answer other : Handed} → answer ≡ handing file x → other ≡ handing file x → answer ≡ other
hand_once file x met e = met ∙ sym e

-- What is handed over is a structure, so that its kind is told
abbrev pub OfStanding : (Kind → Type 0) → paper.Standing → Type 0
OfStanding P (paper.stands kind place) = P kind
OfStanding P paper.ended = Unit {0}

abbrev pub IsStructure : Kind → Type 0
IsStructure kind = is_structure kind ≡ true

pub all_structures : (rs : List Region) → All (λ (r : Region). IsStructure r.kind) (structures_of rs)
all_structures [] = tt
all_structures (r ∷ rs) = go (is_structure r.kind) refl (all_structures rs)
  where
    go : (t : Bool) → is_structure r.kind ≡ t → All (λ (r : Region). IsStructure r.kind) (structures_of rs)
        → All (λ (r : Region). IsStructure r.kind) (cond t (r ∷ structures_of rs) (structures_of rs))
    go true e w = (e, w)
    go false e w = w

module _ (file : List ℕ) (a : paper.Ahead) where
  abbrev StructureTold : paper.Handed → Type 0
  StructureTold h = OfStanding IsStructure h.standing

  either : (t : Bool) (x y : paper.Handed) → StructureTold x → StructureTold y → StructureTold (cond t x y)
  either true x y p q = p
  either false x y p q = q

  of_instrument : (g : Got InstrumentFound) → StructureTold (hand_instrument g a)
  of_instrument (got i n) = refl
  of_instrument (refused r) = tt

  pub hand_kind : StructureTold (hand_over file a)
  unfolding hand_over
  hand_kind =
      either (leb (length file) file_most) _ (ends_at a)
      (either (ltb 0 a.heads) _ _ (either (leb (a.head + a.head_size) (length file)) (hand_head a) (ends_at a) refl tt)
      (either (ltb 0 a.patterns) _ _ (either (leb (a.place + least_pattern) (length file)) (hand_pattern (drop a.place file) a) (ends_at a) refl tt)
      (either (ltb 0 a.instruments) _ (ends_at a)
      (either (leb a.place (length file)) (hand_instrument (read_instrument (kind_at file) a.place (drop a.place file)) a) (ends_at a)
      (of_instrument (read_instrument (kind_at file) a.place (drop a.place file))) tt) tt)))
      tt

kind_told : (kind : Kind) (place : ℕ) → IsStructure kind → standing_numbers (Ok (standing_at kind place)) ≡ 0 ∷ 0 ∷ kind_number kind ∷ place ∷ []
kind_told header place h = absurd (no_true h)
kind_told pattern_header place h = refl
kind_told pattern_data place h = absurd (no_true h)
kind_told instrument place h = refl
kind_told sample_header place h = refl
kind_told sample_data place h = absurd (no_true h)

standing_told : (s : paper.Standing) → OfStanding IsStructure s → standing_numbers (outcome standing_in (gives s)) ≡ reading_numbers (gives s)
standing_told (paper.stands kind place) h = kind_told kind place h
standing_told paper.ended h = refl

-- The numbers are the paper's
pub call_numbers : (file : List ℕ) (x : Answer paper.Ahead) → standing_numbers (outcome standing_in (called file x)) ≡ reading_numbers (called file x)
call_numbers file (gives a) = standing_told (hand_over file a).standing (hand_kind file a)
call_numbers file (refuses r) = refl
