-- What holds of every answer and memory that meet `pack`'s contract, by its numbers. Assumes nothing.
use Prim.Native.Nat.{ℕ, ◌≤◌, ◌<◌}
use mathlib.Core.List.{List, [], ◌∷◌}
use mathlib.Core.Logic.{◌↔◌}
use mathlib.Core.Path.{◌≡◌, refl, sym, ap, ◌∙◌, subst, subst₂}
use native.Mathlib.Omega.{arith}
use lib.ListN.{length, take}
use lib.Seq.{take-append_seam, drop-append_seam}
use Rattle.xm.specs.Number.{Bytes}
use Rattle.xm.specs.Got.{◌at◌}
use Rattle.xm.specs.Answer.{Answer, gives, refuses, in_front, after, numbers}
use Rattle.xm.specs.Stored.{Pattern, write_stored}
use Rattle.xm.specs.Packing.{packing, pack_numbers, stored_length, rows_read, pattern_of}
use Rattle.xm.specs.Demands.{Accepts, StoredFormOf, WellFormed, UnpacksToCells}
use Rattle.xm.proofs.Answer.{refused-exactly, refused_unchanged}
use Rattle.xm.proofs.Demands.{demand₂, demand₃}
use Rattle.std.specs.Prelude.{Result}
use Rattle.refusal.specs.Refusal.{outcome}
use Rattle.refusal.specs.declared.Refusal.{Refusal}
use Rattle.packing.specs.declared.Form.{Form}
use Rattle.packing.specs.Packed.{form_of, packed_numbers}
use Rattle.packing.specs.Promise.{PackWritten}
use Rattle.packing.proofs.Exits.{Packs}

-- The numbers are the paper's
packed_numbers_lem : (answer : Answer Pattern) → packed_numbers (outcome form_of answer) ≡ numbers (stored_length ∷ rows_read ∷ []) answer
packed_numbers_lem (gives p) = refl
packed_numbers_lem (refuses r) = refl

module _ (rows channels : ℕ) (cells lent : List ℕ) {answer : Result Form Refusal} {out : List ℕ} (met : Packs rows channels cells lent answer out) where
  abbrev asked : Answer Pattern
  asked = packing rows channels cells (length lent)

  pub reported : packed_numbers answer ≡ pack_numbers rows channels cells (length lent)
  reported = ap packed_numbers met.0 ∙ packed_numbers_lem asked

  -- A refusal leaves the memory as it was
  pub packs_unchanged : (Accepts (packed_numbers answer) → ⊥) → out ≡ lent
  packs_unchanged refused = met.1 ∙ refused_unchanged write_stored asked lent (λ a. refused (subst Accepts (sym reported) a))

  -- Unpacking what was packed returns its cells
  pub packs_unpack : (room : List ℕ) → Bytes cells → Accepts (packed_numbers answer) → length cells ≤ length room
      → UnpacksToCells rows channels cells room (packed_numbers answer) out
  packs_unpack room b a h =
      subst₂ (UnpacksToCells rows channels cells room) (sym reported) (sym met.1)
      (demand₂.unpack rows channels cells lent room b (subst Accepts reported a) h)

  -- 15 and 14 exactly when: of well-formed cells
  refused_with : (number : ℕ) → 1 ≤ number → (packed_numbers answer ≡ number ∷ 0 ∷ 0 ∷ 0 ∷ []) ↔ (asked ≡ refuses (number at 0))
  refused_with number low =
      let w = refused-exactly (stored_length ∷ rows_read ∷ []) asked (number at 0) low in
      (λ e. w.0 (sym reported ∙ e), λ e. reported ∙ w.1 e)

  module _ (well : WellFormed rows channels cells) where
    abbrev pattern : Pattern
    pattern = pattern_of rows channels cells

    pub packs_too_large : (packed_numbers answer ≡ 15 ∷ 0 ∷ 0 ∷ 0 ∷ []) ↔ ((row : ℕ) (bytes : List ℕ) → StoredFormOf channels pattern row bytes → ⊥)
    packs_too_large =
        let d = (demand₃.patterns rows channels cells (length lent) well).too_large_exactly in
        let w = refused_with 15 (omega arith) in
        (λ e. d.0 (w.0 e), λ none. w.1 (d.1 none))

    module _ (fits : packed_numbers answer ≡ 15 ∷ 0 ∷ 0 ∷ 0 ∷ [] → ⊥) where
      small_enough : asked ≡ refuses (15 at 0) → ⊥
      small_enough e = fits ((refused_with 15 (omega arith)).1 e)

      pub packs_no_room : (packed_numbers answer ≡ 14 ∷ 0 ∷ 0 ∷ 0 ∷ []) ↔
          ((row : ℕ) (bytes : List ℕ) → StoredFormOf channels pattern row bytes → length lent < length bytes)
      packs_no_room =
          let d = (demand₃.patterns rows channels cells (length lent) well).no_room_exactly small_enough in
          let w = refused_with 14 (omega arith) in
          (λ e. d.0 (w.0 e), λ all. w.1 (d.1 all))

      -- otherwise what stands in front is a stored form of those cells, none is shorter, and what lies beyond stays
      pub packs_written : (packed_numbers answer ≡ 14 ∷ 0 ∷ 0 ∷ 0 ∷ [] → ⊥) → PackWritten channels pattern lent (packed_numbers answer) out
      packs_written room =
          let d = demand₃.patterns rows channels cells (length lent) well in
          let given = d.given_else small_enough (λ e. room ((refused_with 14 (omega arith)).1 e)) in
          let stands : take (length (write_stored pattern)) (in_front (write_stored pattern) lent) ≡ write_stored pattern =
          take-append_seam (write_stored pattern) _ in
          subst₂ (PackWritten channels pattern lent) (sym (reported ∙ ap (numbers (stored_length ∷ rows_read ∷ [])) given))
          (sym (met.1 ∙ ap (λ (a : Answer Pattern). after write_stored a lent) given))
          (record { accepted = refl; reads = rw stands (d.written given); shortest = d.shortest; beyond = drop-append_seam (write_stored pattern) _ })
