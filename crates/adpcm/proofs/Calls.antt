-- What a caller may build on: no second answer or memory meets the contract, the answers are the paper's numbers, and a refusal leaves the
-- memory as it was. Assumes nothing.
use Prim.Native.Nat.{ℕ}
use mathlib.Core.List.{List}
use mathlib.Core.Path.{◌≡◌, sym, ap, ◌∙◌, subst}
use lib.IntN.{ℤ}
use lib.ListN.{length}
use Rattle.std.specs.Prelude.{Result}
use Rattle.xm.specs.Adpcm.{adpcm_decoding, adpcm_numbers}
use Rattle.xm.specs.Demands.{Accepts}
use Rattle.xm.proofs.Answer.{refused_unchanged}
use Rattle.refusal.specs.declared.Refusal.{Refusal}
use Rattle.samples.specs.Answers.{written_numbers}
use Rattle.samples.proofs.Calls.{written_cases}
use Rattle.adpcm.proofs.Exits.{AdpcmDecodes}

module _ (count : ℕ) (bytes : List ℕ) (lent : List ℤ) where
  -- One answer, one memory
  pub decode_once : {answer other : Result ℕ Refusal} {held kept : List ℤ} → AdpcmDecodes count bytes lent answer held → AdpcmDecodes count bytes lent other kept
      → (answer ≡ other) × (held ≡ kept)
  decode_once d e = (d.0 ∙ sym e.0, d.1 ∙ sym e.1)

  -- The paper's numbers
  pub decode_numbers_lem : {answer : Result ℕ Refusal} {held : List ℤ} → AdpcmDecodes count bytes lent answer held
      → written_numbers answer ≡ adpcm_numbers count bytes (length lent)
  decode_numbers_lem d = ap written_numbers d.0 ∙ written_cases (adpcm_decoding count bytes (length lent))

  -- A refusal leaves the memory as it was
  pub decode_unchanged : {answer : Result ℕ Refusal} {held : List ℤ} → AdpcmDecodes count bytes lent answer held → (Accepts (written_numbers answer) → ⊥) → held ≡ lent
  decode_unchanged d refused =
      d.1 ∙ refused_unchanged (λ (values : List ℤ). values) (adpcm_decoding count bytes (length lent)) lent
      (λ a. refused (subst Accepts (sym (decode_numbers_lem d)) a))
