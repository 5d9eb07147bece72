-- Laws of a stored cell written again: its fields as they stand if all are stored, else fewer than five are kept; and the lead byte put
-- last, into the place that was left for it. Assumes nothing.
use Prim.Native.Nat.{ℕ, suc, ◌+◌, ◌*◌, ◌-◌, ◌/◌, ◌%◌, ◌≤◌, ◌<◌}
use mathlib.Core.Path.{◌≡◌, refl, sym, ap, ◌∙◌}
use mathlib.Core.Bool.{Bool, true, false, cond, ◌&&◌}
use mathlib.Core.List.{List, [], ◌∷◌, ◌++◌}
use native.Mathlib.Omega.{arith}
use borrow.Author.Tests.{eqb-true, eqb-false}
use lib.Dec.{eqb}
use lib.ListN.{length, get_or, take, drop, set, length-append}
use lib.Seq.{length-take-le, take-set-le, drop-set-lt}
use Rattle.xm.specs.Answer.{in_front}
use Rattle.xm.specs.Lay.{lay}
use Rattle.xm.specs.Cell.{five, bit, field_by, fields_by, cell_at, marks, kepts, marked, plain_by, write_cell}
use Rattle.xm.proofs.Cell.{kept-length, marks_sum, fields_at, fields_stored, few_marked}
use Rattle.xm.proofs.Lay.{head_at_lem, Laid, laid_done, laid_long}
use Rattle.cell.specs.declared.read.Field.{Field}
use Rattle.cell.specs.Read.{FirstField, NextField}
use Rattle.cell.specs.Over.{over_most, Over}
use Rattle.cell.proofs.Bits.{odd₃₂, odd₁₆, odd₈, odd₄, ones_most, ones_all, all_ones}
use Rattle.cell.proofs.ReadLaws.{plain_fields, cell_first, FieldInside}
use Rattle.cell.proofs.WriteLaws.{count_plain, count_marked, plain_kept}
use Rattle.cell.proofs.OverLaws.{PutOver, over_done}

-- All five fields are stored, as they are if all five bits are set
set_field : (count bits : ℕ) (s : List ℕ) → bits % 2 ≡ 1 → fields_by (suc count) bits s ≡ get_or s 0 0 ∷ fields_by count (bits / 2) (drop 1 s)
unfolding fields_by
set_field count bits s e = rw e

all_stored : (bits : ℕ) (s : List ℕ) → bits % 32 ≡ 31 → fields_by 5 bits s ≡ five s
unfolding fields_by
all_stored bits s h =
    let q₁ = odd₃₂ bits h in
    let q₂ = odd₁₆ (bits / 2) q₁.1 in
    let q₃ = odd₈ (bits / 2 / 2) q₂.1 in
    let q₄ = odd₄ (bits / 2 / 2 / 2) q₃.1 in
    set_field 4 bits s q₁.0 ∙ ap (λ (l : List ℕ). get_or s 0 0 ∷ l) (set_field 3 (bits / 2) (drop 1 s) q₂.0)
    ∙ ap (λ (l : List ℕ). get_or s 0 0 ∷ get_or (drop 1 s) 0 0 ∷ l) (set_field 2 (bits / 2 / 2) (drop 1 (drop 1 s)) q₃.0)
    ∙ ap (λ (l : List ℕ). get_or s 0 0 ∷ get_or (drop 1 s) 0 0 ∷ get_or (drop 1 (drop 1 s)) 0 0 ∷ l)
    (set_field 1 (bits / 2 / 2 / 2) (drop 1 (drop 1 (drop 1 s))) q₄.0)
    ∙ ap (λ (l : List ℕ). get_or s 0 0 ∷ get_or (drop 1 s) 0 0 ∷ get_or (drop 1 (drop 1 s)) 0 0 ∷ get_or (drop 1 (drop 1 (drop 1 s))) 0 0 ∷ l)
    (set_field 0 (bits / 2 / 2 / 2 / 2) (drop 1 (drop 1 (drop 1 (drop 1 s)))) q₄.1)
    ∙ sym (plain_fields s)

below : {n : ℕ} → n ≤ 5 → (n ≡ 5 → ⊥) → n < 5
below h k = omega arith

pub five_inside : {field : Field} {n : ℕ} → FieldInside 5 field n → field.bits % 32 ≡ 31 → field.place + 5 ≤ n
five_inside {field} i h = omega (arith, i.ends, all_ones field.bits h)

-- The stored cell at a place: if all five fields are stored they are the five bytes from the first one on; else fewer than five are kept
module _ (place : ℕ) (s : List ℕ) {first : Field} (f : FirstField (get_or s place 0) place first) where
  pub stored_five : first.bits % 32 ≡ 31 → cell_at (drop place s) ≡ five (drop first.place s)
  stored_five h = cell_first place s f ∙ all_stored first.bits (drop first.place s) h

  pub stored_few : (first.bits % 32 ≡ 31 → ⊥) → length (kepts (cell_at (drop place s))) < 5
  stored_few h =
      rw (cell_first place s f) (below (omega (arith, fields_stored 5 first.bits (drop first.place s), ones_most 5 first.bits)) λ z.
      h (ones_all first.bits (omega (arith, fields_stored 5 first.bits (drop first.place s)))))

  pub stored_plain : (eqb (first.bits % 32) 31 && plain_by (get_or s first.place 0) (length (kepts (five (drop first.place s)))))
      ≡ plain_by (get_or (cell_at (drop place s)) 0 0) (length (kepts (cell_at (drop place s))))
  stored_plain = go (eqb (first.bits % 32) 31) refl
    where
      go : (t : Bool) → eqb (first.bits % 32) 31 ≡ t
          → (t && plain_by (get_or s first.place 0) (length (kepts (five (drop first.place s)))))
          ≡ plain_by (get_or (cell_at (drop place s)) 0 0) (length (kepts (cell_at (drop place s))))
      go true t =
          ap (λ (n : ℕ). plain_by n (length (kepts (five (drop first.place s))))) (sym (head_at_lem first.place s 0))
          ∙ ap (λ (l : List ℕ). plain_by (get_or l 0 0) (length (kepts l))) (sym (stored_five (eqb-true _ 31 t)))
      go false t = sym (few_marked (get_or (cell_at (drop place s)) 0 0) (length (kepts (cell_at (drop place s)))) (omega (arith, stored_few (eqb-false _ 31 t))))

-- The lead byte by the places behind each field
pub lead_moved : (a b c d e p₀ : ℕ) {p₁ p₂ p₃ p₄ p₅ lead : ℕ} → p₁ ≡ p₀ + bit a → p₂ ≡ p₁ + bit b → p₃ ≡ p₂ + bit c → p₄ ≡ p₃ + bit d → p₅ ≡ p₄ + bit e
    → lead + (p₀ + p₁ + 2 * p₂ + 4 * p₃ + 8 * p₄) ≡ 128 + 16 * p₅ → lead ≡ 128 + marks (a ∷ b ∷ c ∷ d ∷ e ∷ [])
lead_moved a b c d e p₀ q₁ q₂ q₃ q₄ q₅ l = omega (arith, marks_sum a b c d e)

-- How many of a stored cell's fields are kept, one by one
pub kept_least : (count : ℕ) (s : List ℕ) (field : Field)
    → bit (field_by field.bits (drop field.place s)) ≤ length (kepts (fields_by (suc count) field.bits (drop field.place s)))
unfolding kepts
kept_least count s field =
    rw (fields_at count field.bits field.place s, length-append) (omega (arith, kept-length (field_by field.bits (drop field.place s))))

pub kept_next : (count : ℕ) (s : List ℕ) {field next : Field} → NextField field next
    → length (kepts (fields_by (suc count) field.bits (drop field.place s)))
    ≡ bit (field_by field.bits (drop field.place s)) + length (kepts (fields_by count next.bits (drop next.place s)))
unfolding kepts
kept_next count s {field} n =
    rw (n.bits, n.place, fields_at count field.bits field.place s, length-append)
    (omega (arith, kept-length (field_by field.bits (drop field.place s))))

-- A place is left for the lead byte, and what is kept goes behind it
pub left_over : (lent rest : List ℕ) {place : ℕ} → place ≤ length lent → PutOver lent (take place lent ++ rest) lent place rest
left_over lent rest {place} h =
    record { holds = refl; ends = omega (arith, length-append (take place lent) rest, length-take-le place lent h); beyond = refl; long = refl }

pub left_first : (lent rest : List ℕ) → 1 + length rest ≤ length lent → Laid lent (take 1 lent ++ rest) lent 1 rest
unfolding lay
left_first [] rest h = absurd (omega arith)
left_first (x ∷ lent) rest h =
    let long : 1 + length rest ≡ 0 + suc (length rest) = omega arith in
    record { kept = refl; room = h; count = omega arith; laid = ap (λ (n : ℕ). x ∷ (rest ++ drop n (x ∷ lent))) long }

-- then it is put there; a plain cell stands without it, which goes behind the cell
set_front : (out : List ℕ) (n lead x : ℕ) (xs : List ℕ) → take (suc n) out ≡ x ∷ xs → take (suc n) (set out 0 lead) ≡ lead ∷ xs
set_front [] n lead x xs e = absurd (let z : ◌≡◌ {A = ℕ} 0 1 = cc in omega arith)
set_front (y ∷ out) n lead x xs e = let same : take n out ≡ xs = cc in ap (λ (l : List ℕ). lead ∷ l) same

module _ (cell : List ℕ) (size : length cell ≡ 5) (lead : ℕ) (is_lead : lead ≡ 128 + marks cell) where
  pub over_lead : (lent : List ℕ) → over_most ≤ length lent → (plain : Bool) → plain ≡ plain_by (get_or cell 0 0) (length (kepts cell)) → {place : ℕ}
      → place ≡ cond plain 0 1 → {out : List ℕ} {to : ℕ} → PutOver lent (take place lent ++ kepts cell) out to (kepts [])
      → (to ≡ length (write_cell cell)) × Over (write_cell cell) lent (set out (5 - 5 * place) lead)
  unfolding marked
  over_lead [] six plain k is_place p = absurd (omega arith)
  over_lead (x ∷ lent) six true k {place} is_place {out} {to} p =
      let same : kepts cell ≡ write_cell cell = plain_kept cell size (sym k) ∙ sym (count_plain cell (sym k)) in
      let d = over_done (rw is_place at p) in
      let long : length (kepts cell) ≡ 5 = ap length (plain_kept cell size (sym k)) ∙ size in (
        d.0 ∙ ap length same,
        rw (is_place, ← same) (record {
          front = take-set-le (length (kepts cell)) out 5 lead (omega arith) ∙ d.1.front;
          beyond = drop-set-lt over_most out 5 lead (omega arith) ∙ d.1.beyond;
        }),
      )
  over_lead (x ∷ lent) six false k {place} is_place {out} {to} p =
      let w = count_marked cell (sym k) in
      let d = over_done (rw is_place at p) in
      (d.0 ∙ ap length (sym w), rw (is_place, w) (over_marked out d.1))
    where
      over_marked : (out : List ℕ) → Over (x ∷ kepts cell) (x ∷ lent) out → Over (marked cell) (x ∷ lent) (set out 0 lead)
      over_marked out o = record {
        front = set_front out (length (kepts cell)) lead x (kepts cell) o.front ∙ ap (λ (l : ℕ). l ∷ kepts cell) is_lead;
        beyond = drop-set-lt over_most out 0 lead (omega arith) ∙ o.beyond;
      }

  pub laid_lead : (lent : List ℕ) → 1 ≤ length lent → plain_by (get_or cell 0 0) (length (kepts cell)) ≡ false → {out : List ℕ} {to : ℕ}
      → Laid lent (take 1 lent ++ kepts cell) out to (kepts [])
      → (to ≡ length (write_cell cell)) × (set out 0 lead ≡ in_front (write_cell cell) lent)
  unfolding kepts marked
  laid_lead [] h mark l = absurd (omega arith)
  laid_lead (x ∷ lent) h mark l =
      let w = count_marked cell mark in
      rw w (
        laid_long l refl,
        ap (λ (out : List ℕ). set out 0 lead) (laid_done l refl) ∙ ap (λ (y : ℕ). y ∷ (kepts cell ++ drop (suc (length (kepts cell))) (x ∷ lent))) is_lead,
      )
