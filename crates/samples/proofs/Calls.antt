-- What a caller may build on: no second answer or memory meets a contract, the answers are the paper's numbers, and what one call writes
-- the other turns back. Assumes nothing.
use Rattle.std.proofs.Common.{◌≡◌, ℕ, ◌≤◌, true, List, [], ◌∷◌, length, take, ℤ, sym, refl, ap, ◌∙◌, subst, ap₂}
use Rattle.std.specs.Prelude.{Result}
use Rattle.xm.specs.Number.{Bytes}
use Rattle.xm.specs.Answer.{Answer, gives, refuses, in_front, after, numbers}
use Rattle.xm.specs.Delta.{all_fit, decoding, coding, count_written, decode_numbers, decode_after, code_numbers, code_after}
use Rattle.xm.specs.Demands.{Accepts, result_in}
use Rattle.xm.proofs.Answer.{refused_unchanged}
use Rattle.xm.proofs.Demands.{demand₂}
use Rattle.refusal.specs.Refusal.{outcome}
use Rattle.refusal.specs.declared.Refusal.{Refusal}
use Rattle.samples.specs.Answers.{written_numbers}
use Rattle.samples.proofs.Exits.{Decodes, Codes}

-- One answer, one memory
pub decode_once : (width : ℕ) (bytes : List ℕ) (lent : List ℤ) {answer other : Result ℕ Refusal} {held kept : List ℤ} → Decodes width bytes lent answer held
    → Decodes width bytes lent other kept → (answer ≡ other) × (held ≡ kept)
decode_once width bytes lent d e = (d.0 ∙ sym e.0, d.1 ∙ sym e.1)

pub code_once : (width : ℕ) (values : List ℤ) (lent : List ℕ) {answer other : Result ℕ Refusal} {held kept : List ℕ} → Codes width values lent answer held
    → Codes width values lent other kept → (answer ≡ other) × (held ≡ kept)
code_once width values lent d e = (d.0 ∙ sym e.0, d.1 ∙ sym e.1)

-- The paper's numbers
pub written_cases : {A : Type 0} (answer : Answer (List A)) → written_numbers (outcome length answer) ≡ numbers (count_written ∷ []) answer
written_cases (gives written) = refl
written_cases (refuses refusal) = refl

pub decode_numbers_lem : (width : ℕ) (bytes : List ℕ) (lent : List ℤ) {answer : Result ℕ Refusal} {held : List ℤ} → Decodes width bytes lent answer held
    → written_numbers answer ≡ decode_numbers width bytes (length lent)
decode_numbers_lem width bytes lent d = ap written_numbers d.0 ∙ written_cases (decoding width bytes (length lent))

pub code_numbers_lem : (width : ℕ) (values : List ℤ) (lent : List ℕ) {answer : Result ℕ Refusal} {held : List ℕ} → Codes width values lent answer held
    → written_numbers answer ≡ code_numbers width values (length lent)
code_numbers_lem width values lent d = ap written_numbers d.0 ∙ written_cases (coding width values (length lent))

-- A refusal leaves the memory as it was
pub decode_unchanged : (width : ℕ) (bytes : List ℕ) (lent : List ℤ) {answer : Result ℕ Refusal} {held : List ℤ} → Decodes width bytes lent answer held
    → (Accepts (written_numbers answer) → ⊥) → held ≡ lent
decode_unchanged width bytes lent d refused =
    d.1 ∙ refused_unchanged (λ (values : List ℤ). values) (decoding width bytes (length lent)) lent
    (λ a. refused (subst Accepts (sym (decode_numbers_lem width bytes lent d)) a))

pub code_unchanged : (width : ℕ) (values : List ℤ) (lent : List ℕ) {answer : Result ℕ Refusal} {held : List ℕ} → Codes width values lent answer held
    → (Accepts (written_numbers answer) → ⊥) → held ≡ lent
code_unchanged width values lent c refused =
    c.1 ∙ refused_unchanged (λ (bytes : List ℕ). bytes) (coding width values (length lent)) lent
    (λ a. refused (subst Accepts (sym (code_numbers_lem width values lent c)) a))

-- Values, coded, and what was written decoded, wherever there is room: the same values. The values lent are 16-bit numbers
pub code_then_decode : (width : ℕ) (values : List ℤ) (lent : List ℕ) (next : List ℤ) {coded : Result ℕ Refusal} {held : List ℕ} {answer : Result ℕ Refusal} {kept : List ℤ}
    → all_fit 16 values ≡ true → length values ≤ length next → Codes width values lent coded held → Accepts (written_numbers coded)
    → Decodes width (take (result_in (written_numbers coded) 0) held) next answer kept
    → (written_numbers answer ≡ 0 ∷ 0 ∷ length values ∷ []) × (kept ≡ in_front values next)
code_then_decode width values lent next {coded} {held} f l c a d =
    let n = code_numbers_lem width values lent c in
    let same : take (result_in (written_numbers coded) 0) held ≡ take (result_in (code_numbers width values (length lent)) 0) (code_after width values lent) =
    ap₂ (λ (ns held : List ℕ). take (result_in ns 0) held) n c.1 in
    let back : decoding width (take (result_in (written_numbers coded) 0) held) (length next) ≡ gives values =
    ap (λ (s : List ℕ). decoding width s (length next)) same ∙ demand₂.decode width values lent (length next) f (subst Accepts n a) l in
    (ap written_numbers (d.0 ∙ ap (outcome length) back), d.1 ∙ ap (λ (a : Answer (List ℤ)). after (λ v. v) a next) back)

-- Bytes, decoded, and what was written coded, wherever there is room: the same bytes
pub decode_then_code : (width : ℕ) (bytes : List ℕ) (lent : List ℤ) (next : List ℕ) {decoded : Result ℕ Refusal} {held : List ℤ} {answer : Result ℕ Refusal} {kept : List ℕ}
    → Bytes bytes → length bytes ≤ length next → Decodes width bytes lent decoded held → Accepts (written_numbers decoded)
    → Codes width (take (result_in (written_numbers decoded) 0) held) next answer kept
    → (written_numbers answer ≡ 0 ∷ 0 ∷ length bytes ∷ []) × (kept ≡ in_front bytes next)
decode_then_code width bytes lent next {decoded} {held} p l d a c =
    let n = decode_numbers_lem width bytes lent d in
    let same : take (result_in (written_numbers decoded) 0) held ≡ take (result_in (decode_numbers width bytes (length lent)) 0) (decode_after width bytes lent) =
    ap₂ (λ (ns : List ℕ) (held : List ℤ). take (result_in ns 0) held) n d.1 in
    let back : coding width (take (result_in (written_numbers decoded) 0) held) (length next) ≡ gives bytes =
    ap (λ (s : List ℤ). coding width s (length next)) same ∙ demand₂.code width bytes lent (length next) p (subst Accepts n a) l in
    (ap written_numbers (c.0 ∙ ap (outcome length) back), c.1 ∙ ap (λ (a : Answer (List ℕ)). after (λ b. b) a next) back)
