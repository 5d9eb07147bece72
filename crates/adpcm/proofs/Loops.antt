-- The state of the loop that writes the values, and its turns: the values of the chosen deltas that are left, from the sum so far, are still
-- to be laid. Assumes nothing.
use Rattle.std.proofs.Common.{◌≡◌, ℕ, ◌+◌, ◌*◌, ◌/◌, ◌%◌, ◌^◌, ◌<◌, ◌≤◌, List, length, get_or, drop, set, ℤ, refl, sym, ap, ◌∙◌, arith}
use Rattle.xm.specs.Number.{signed}
use Rattle.xm.specs.Answer.{in_front}
use Rattle.xm.specs.Sample.{delta_table, adpcm_size}
use Rattle.xm.specs.Delta.{decoded, stored_numbers}
use Rattle.xm.specs.Adpcm.{chosen, adpcm_decoded}
use Rattle.xm.proofs.Delta.{values_from, values_end}
use Rattle.xm.proofs.Adpcm.{chosen-length, chosen_at, adpcm-length}
use Rattle.xm.proofs.Lay.{Laid, laid_none, laid_done}
use Rattle.samples.proofs.Loops.{decode_turn, decode_pair}

-- So many bytes of two halves are done
pub record Writing (count : ℕ) (bytes : List ℕ) (lent values : List ℤ) (sum pairs : ℕ) : Type 0 where
  pub fit : length bytes ≡ adpcm_size count
  pub laid : Laid lent (adpcm_decoded count bytes) values (2 * pairs) (values_from 8 sum (drop (2 * pairs) (chosen count bytes)))

pub writing_start : (count : ℕ) (bytes : List ℕ) (lent : List ℤ) → length bytes ≡ adpcm_size count → count ≤ length lent → Writing count bytes lent lent 0 0
unfolding adpcm_decoded decoded stored_numbers
writing_start count bytes lent fit h =
    record { fit = fit; laid = laid_none lent (adpcm_decoded count bytes) (omega (arith, adpcm-length count bytes fit)) }

module _ {count : ℕ} {bytes : List ℕ} {lent values : List ℤ} {sum pairs : ℕ} (w : Writing count bytes lent values sum pairs) where
  -- the delta that the code reads is the chosen one: by the low half, and by the high half after it
  low_chosen : (index : ℕ) → 2 * pairs < count → index ≡ get_or bytes (delta_table + pairs) 0 % 16 → get_or bytes index 0 ≡ get_or (chosen count bytes) (2 * pairs) 0
  low_chosen index h e =
      let even : 2 * pairs % 2 ≡ 0 = omega arith in
      let here : 2 * pairs / 2 ≡ pairs = omega arith in
      ap (λ (k : ℕ). get_or bytes k 0) e ∙ sym (rw (even, here) at (chosen_at count bytes w.fit (2 * pairs) h))

  high_chosen : (index : ℕ) → 2 * pairs + 1 < count → index ≡ get_or bytes (delta_table + pairs) 0 / 16
      → get_or bytes index 0 ≡ get_or (chosen count bytes) (2 * pairs + 1) 0
  high_chosen index h e =
      let odd : (2 * pairs + 1) % 2 ≡ 1 = omega arith in
      let here : (2 * pairs + 1) / 2 ≡ pairs = omega arith in
      ap (λ (k : ℕ). get_or bytes k 0) e ∙ sym (rw (odd, here) at (chosen_at count bytes w.fit (2 * pairs + 1) h))

  writing_low : {index next : ℕ} {x : ℤ} → 2 * pairs < count → index ≡ get_or bytes (delta_table + pairs) 0 % 16
      → next ≡ (sum + get_or bytes index 0) % 2 ^ 8 → x ≡ signed 8 next
      → Laid lent (adpcm_decoded count bytes) (set values (2 * pairs) x) (2 * pairs + 1) (values_from 8 next (drop (2 * pairs + 1) (chosen count bytes)))
  writing_low {index} h e n v =
      decode_turn 8 sum (2 * pairs) (chosen count bytes) w.laid (omega (arith, chosen-length count bytes w.fit)) _ _ _
      (n ∙ ap (λ (d : ℕ). (sum + d) % 2 ^ 8) (low_chosen index h e)) refl v

  -- two values more,
  pub writing_pair : {low high first next : ℕ} {x y : ℤ} → 2 * pairs + 1 < count → low ≡ get_or bytes (delta_table + pairs) 0 % 16
      → high ≡ get_or bytes (delta_table + pairs) 0 / 16 → first ≡ (sum + get_or bytes low 0) % 2 ^ 8 → next ≡ (first + get_or bytes high 0) % 2 ^ 8
      → x ≡ signed 8 first → y ≡ signed 8 next → Writing count bytes lent (set (set values (2 * pairs) x) (2 * pairs + 1) y) next (pairs + 1)
  writing_pair {low} {high} {first} h l g f n v u = record {
    fit = w.fit;
    laid =
        decode_pair 8 sum (2 * pairs) (chosen count bytes) w.laid (omega (arith, chosen-length count bytes w.fit)) first _ _ _ _
        (f ∙ ap (λ (d : ℕ). (sum + d) % 2 ^ 8) (low_chosen low (omega arith) l))
        (n ∙ ap (λ (d : ℕ). (first + d) % 2 ^ 8) (high_chosen high h g))
        (omega arith)
        v
        u;
  }

  -- the last one, at an odd length; and none
  pub writing_last : {index next place : ℕ} {x : ℤ} → place ≡ 2 * pairs → count ≡ 2 * pairs + 1 → index ≡ get_or bytes (delta_table + pairs) 0 % 16
      → next ≡ (sum + get_or bytes index 0) % 2 ^ 8 → x ≡ signed 8 next → set values place x ≡ in_front (adpcm_decoded count bytes) lent
  writing_last {next = next} p l e n v =
      rw p
      (laid_done (writing_low (omega arith) e n v) (values_end 8 next (2 * pairs + 1) (chosen count bytes) (omega (arith, chosen-length count bytes w.fit))))

  pub writing_done : count ≤ 2 * pairs → values ≡ in_front (adpcm_decoded count bytes) lent
  writing_done h = laid_done w.laid (values_end 8 sum (2 * pairs) (chosen count bytes) (omega (arith, chosen-length count bytes w.fit)))
