-- What is handed over, and where the next structure stands then. Assumes nothing.
use Prim.Native.Nat.{ℕ, ◌+◌, ◌≤◌, ◌<◌, ◌^◌}
use mathlib.Core.Bool.{true}
use mathlib.Core.List.{List}
use mathlib.Core.Path.{◌≡◌, refl, ap, ap₂}
use native.Mathlib.Omega.{arith}
use lib.ListN.{length, get_or, drop}
use Rattle.std.proofs.Common.{Fits, w8}
use Rattle.std.specs.Prelude.{Option, Some, None, Ok, Err}
use Rattle.std.specs.Option.{option_map}
use Rattle.xm.specs.Number.{Bytes}
use Rattle.xm.specs.Got.{Got, got, refused, accepted}
use Rattle.xm.specs.Format.{Kind, header, pattern_header, pattern_data, instrument, sample_header, sample_data}
use Rattle.xm.specs.Header.{kind_at}
use Rattle.xm.specs.PatternInFile.{least_pattern}
use Rattle.xm.specs.Module.{Found, read_file}
use Rattle.xm.specs.Table.{checked_as, checking}
use Rattle.xm.specs.Answer.{answered}
use Rattle.xm.specs.Structure as paper
use Rattle.xm.specs.Structure.{hand_over, ahead_at_first, started}
use Rattle.xm.proofs.Number.{bytes_drop, word_small, long-small}
use Rattle.xm.proofs.Got.{no_true}
use Rattle.xm.proofs.Structure.{hand_stays}
use Rattle.refusal.specs.Refusal.{outcome}
use Rattle.refusal.specs.declared.Refusal.{Refusal}
use Rattle.steps.specs.Step.{header_part, pattern_head, InstrumentIs}
use Rattle.steps.specs.declared.header.HeaderPart.{HeaderPart}
use Rattle.steps.specs.declared.instrument.InstrumentPart.{InstrumentPart}
use Rattle.steps.specs.declared.pattern.PatternHead.{PatternHead}
use Rattle.steps.proofs.InstrumentLaws.{as_read, part_lies}
use Rattle.walk.specs.File.{code_module}
use Rattle.walk.specs.declared.Module.{Module}
use Rattle.structures.specs.declared.Structure.{Structure}
use Rattle.structures.specs.declared.Ahead.{Ahead}
use Rattle.structures.specs.Handing.{standing_at, standing_in, ahead_of, ahead_in, handed_next, handing}
use Rattle.structures.proofs.Calls.{OfStanding, IsStructure, hand_kind}

-- A slice's own bytes
pub plain : {file : List ℕ} → ((i : ℕ) → Fits w8 (get_or file i 0)) → Bytes file
plain fits = record { below = λ i. omega (arith, fits i) }

-- What stands behind a pattern's header, and behind an instrument's fields
pub pattern_fits : (file : List ℕ) (place : ℕ) → Bytes file → length file < 2 ^ 63 → place + least_pattern ≤ length file → {x : PatternHead}
    → x ≡ pattern_head place (drop place file) → x.place + x.size < 2 ^ 64
pattern_fits file place bytes small there e =
    omega (arith, ap PatternHead.place e, ap PatternHead.size e, long-small 0 (bytes_drop place bytes), word_small 7 (bytes_drop place bytes))

pub part-fits : (file : List ℕ) (place : ℕ) {part : InstrumentPart} → InstrumentIs file place part → place + part.size ≤ length file
part-fits file place e = (part_lies file (kind_at file) place (as_read file (kind_at file) place e)).there

-- A structure's kind is told
pub stands_some : (kind : Kind) (place : ℕ) → IsStructure kind → standing_at kind place ≡ None → ⊥
stands_some header place h e = no_true h
stands_some pattern_header place h e = no_true (cc)
stands_some pattern_data place h e = no_true h
stands_some instrument place h e = no_true (cc)
stands_some sample_header place h e = no_true (cc)
stands_some sample_data place h e = no_true h

-- A call that hands over none: how far has been read stays
pub hand_none : (file : List ℕ) (a : paper.Ahead) → standing_in (hand_over file a).standing ≡ None → (hand_over file a).ahead ≡ a
hand_none file a = go (hand_over file a).standing refl (hand_kind file a)
  where
    go : (s : paper.Standing) → (hand_over file a).standing ≡ s → OfStanding IsStructure s → standing_in s ≡ None → (hand_over file a).ahead ≡ a
    go (paper.stands kind place) q k e = absurd (stands_some kind place k e)
    go paper.ended q k e = hand_stays file a q

none_of : {A B : Type 0} (f : A → B) (o : Option A) → option_map f o ≡ None → o ≡ None
none_of f None e = refl
none_of f (Some x) e = absurd (no_true (cc))

pub hand_ends : (file : List ℕ) (ahead : Ahead) → handed_next (hand_over file (ahead_in ahead)) ≡ None
    → handing file (Ok ahead) ≡ record { standing = Ok None; reached = Ok ahead }
hand_ends file ahead e =
    let none = none_of _ (standing_in (hand_over file (ahead_in ahead)).standing) e in
    let stays = hand_none file (ahead_in ahead) none in
    ap₂ (λ (s : Option Structure) (a : paper.Ahead). record { standing = Ok s; reached = Ok (ahead_of a) }) none stays

-- The start, by the check's verdict
module _ (file : List ℕ) where
  pub start_refused : {f : Refusal} → Err f ≡ outcome code_module (checking file) → Err f ≡ outcome ahead_of (started file)
  unfolding checking started
  start_refused {f} e = go (read_file file) e
    where
      go : (g : Got Found) → Err f ≡ outcome code_module (answered checked_as g) → Err f ≡ outcome ahead_of (answered (λ found end. ahead_at_first file) g)
      go (got found end) q = absurd (no_true (cc))
      go (refused r) q = cc

  pub start_accepted : {x : Module} → Ok x ≡ outcome code_module (checking file) → accepted (read_file file) ≡ true
  unfolding checking
  start_accepted {x} e = go (read_file file) e
    where
      go : (g : Got Found) → Ok x ≡ outcome code_module (answered checked_as g) → accepted g ≡ true
      go (got found end) q = refl
      go (refused r) q = absurd (no_true (cc))

  pub start_reached : {x : Module} → Ok x ≡ outcome code_module (checking file) → {c : HeaderPart} → c ≡ header_part file
      → Ok (record { patterns = c.patterns; instruments = c.instruments; place = c.start; heads = 0; head = 0; head_size = 0 }) ≡ outcome ahead_of (started file)
  unfolding checking started
  start_reached {x} e {c} same = go (read_file file) e
    where
      go : (g : Got Found) → Ok x ≡ outcome code_module (answered checked_as g)
          → Ok (record { patterns = c.patterns; instruments = c.instruments; place = c.start; heads = 0; head = 0; head_size = 0 })
          ≡ outcome ahead_of (answered (λ found end. ahead_at_first file) g)
      go (got found end) q = cc
      go (refused r) q = absurd (no_true (cc))
