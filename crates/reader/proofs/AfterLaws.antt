-- How far a reader from the start has read after i calls, and what it hands over then, call by call. Assumes nothing.
use Prim.Native.Nat.{ℕ, zero, suc, ◌<◌}
use mathlib.Core.List.{List}
use mathlib.Core.Path.{◌≡◌, refl, ap, ◌∙◌}
use lib.ListN.{length}
use Rattle.std.specs.Prelude.{Option, Result}
use Rattle.xm.specs.Format.{Region}
use Rattle.xm.specs.Answer.{Answer}
use Rattle.xm.specs.Module.{Found, regions_of}
use Rattle.xm.specs.Region.{region_at}
use Rattle.xm.specs.Structure.{structures, started, called, read_on, read_for}
use Rattle.xm.specs.Structure as paper
use Rattle.refusal.specs.Refusal.{outcome}
use Rattle.refusal.specs.declared.Refusal.{Refusal}
use Rattle.structures.specs.Handing.{standing_in, ahead_of, reached_in, handing}
use Rattle.structures.specs.declared.Ahead.{Ahead}
use Rattle.structures.specs.declared.Structure.{Structure}
use Rattle.structures.proofs.Calls.{IsStructure, all_structures, reached_back}
use Rattle.reader.proofs.CountLaws.{all_at}

abbrev pub place_after : (file : List ℕ) (i : ℕ) → Result Ahead Refusal
place_after file zero = outcome ahead_of (started file)
place_after file (suc i) = (handing file (place_after file i)).reached

abbrev pub stand_after : (file : List ℕ) (i : ℕ) → Result (Option Structure) Refusal
stand_after file i = (handing file (place_after file i)).standing

pub place_after_lem : (file : List ℕ) (i : ℕ) → place_after file i ≡ outcome ahead_of (read_for file i)
place_after_lem file zero = refl
place_after_lem file (suc i) =
    ap (λ (x : Result Ahead Refusal). (handing file x).reached) (place_after_lem file i)
    ∙ ap (λ (x : Answer paper.Ahead). outcome ahead_of (read_on file x)) (reached_back (read_for file i))

pub stand_after_lem : (file : List ℕ) (i : ℕ) → stand_after file i ≡ outcome standing_in (called file (read_for file i))
stand_after_lem file i =
    ap (λ (x : Result Ahead Refusal). (handing file x).standing) (place_after_lem file i)
    ∙ ap (λ (x : Answer paper.Ahead). outcome standing_in (called file x)) (reached_back (read_for file i))

-- A call's answer, by how far has been read before it
pub calls_same : (file : List ℕ) {x y : Result Ahead Refusal} {standing : Result (Option Structure) Refusal} → x ≡ y
    → standing ≡ outcome standing_in (called file (reached_in x)) → standing ≡ (handing file y).standing
calls_same file e s = s ∙ ap (λ (x : Result Ahead Refusal). (handing file x).standing) e

pub reads_same : (file : List ℕ) {x y place : Result Ahead Refusal} → x ≡ y → place ≡ outcome ahead_of (read_on file (reached_in x))
    → place ≡ (handing file y).reached
reads_same file e p = p ∙ ap (λ (x : Result Ahead Refusal). (handing file x).reached) e

-- What it hands over of an accepted file are structures
pub is_structure_lem : (found : Found) (i : ℕ) → i < length (structures found) → IsStructure (region_at (structures found) i).kind
is_structure_lem found i l = all_at (λ (r : Region). IsStructure r.kind) (structures found) i (all_structures (regions_of found)) l
