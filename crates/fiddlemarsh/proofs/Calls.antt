-- What holds of every number and memory that meet the contracts of the calls. Assumes nothing.
use Prim.Native.Nat.{ℕ, ◌^◌, ◌≤◌, ◌%◌, ◌/◌}
use mathlib.Core.List.{List}
use mathlib.Core.Logic.{◌↔◌}
use mathlib.Core.Path.{◌≡◌, refl, sym, ap, ◌∙◌}
use native.Mathlib.Omega.{arith}
use lib.IntN.{ℤ}
use lib.ListN.{length}
use Rattle.xm.specs.Number.{Bytes}
use Rattle.xm.specs.Got.{Refusal}
use Rattle.xm.specs.Answer.{Answer, gives, refuses, after}
use Rattle.xm.specs.Stored.{Pattern, write_stored}
use Rattle.xm.specs.Table.{CheckReport, checking, checking_into, Tables, room_of, tables_after}
use Rattle.xm.specs.Packing.{cell_bytes, rows_read, length_and_rows, unpacking, packing}
use Rattle.xm.specs.ModuleKind.{ModuleKind}
use Rattle.xm.specs.Press.{pressed_length, pressing}
use Rattle.xm.specs.Convert.{converting}
use Rattle.xm.specs.Delta.{count_written, decoding_limited, coding_limited}
use Rattle.xm.specs.Adpcm.{adpcm_limited}
use Rattle.xm.specs.Demands.{LoaderTells}
use Rattle.xm.proofs.Demands.{loaders_tell}
use Rattle.periods.specs.Period.{Period, tuning, both_numbers}
use Rattle.periods.proofs.Calls as periods
use Rattle.fiddlemarsh.specs.Promise.{LoaderChecks, LoaderUnpacks, LoaderPacks, LoaderPresses, LoaderConverts, LoaderFills, LoaderDecodes, LoaderCodes}
use Rattle.fiddlemarsh.specs.Promise.{LoaderDecodesAdpcm, LoaderTunes, NumberTells, NumberTellsKept}

-- At least 2^32 exactly when refused
refused-exactly : {A : Type 0} (value : A → ℕ) (answer : Answer A) {number : ℕ} → LoaderTells value answer number
    → (2 ^ 32 ≤ number) ↔ ((r : Refusal) × (answer ≡ refuses r))
refused-exactly value (gives a) t = (λ h. absurd (omega (arith, (t.accepted a refl).1)), λ e. (t.refused e.0 e.1).0)
refused-exactly value (refuses r) t = (λ h. (r, refl), λ e. (t.refused r refl).0)

tells : {A : Type 0} (value : A → ℕ) (answer : Answer A) {number other : ℕ} → number ≡ other → LoaderTells value answer other → NumberTells value answer number
tells value answer e t = rw e (record { loaded = t; refused_exactly = refused-exactly value answer t })

-- and then the memory is as it was
kept : {A M : Type 0} (value : A → ℕ) (memory : Answer A → M) (answer : Answer A) (lent : M) {number other : ℕ} {held : M}
    → ((r : Refusal) → memory (refuses r) ≡ lent)
    → number ≡ other → held ≡ memory answer → LoaderTells value answer other → NumberTellsKept value answer number lent held
kept value memory answer lent stays e m t =
    let told = tells value answer e t in
    record {
      tells = told;
      unchanged = λ h. let refused = told.refused_exactly.0 h in m ∙ ap memory refused.1 ∙ stays refused.0;
    }

tells_kept : {A B : Type 0} (value : A → ℕ) (written : A → List B) (answer : Answer A) (lent : List B) {number other : ℕ} {held : List B} → number ≡ other
    → held ≡ after written answer lent → LoaderTells value answer other → NumberTellsKept value answer number lent held
tells_kept value written answer lent = kept value (λ a. after written a lent) answer lent (λ r. refl)

-- No second number and no second memory
once : {M : Type 0} {fixed number other : ℕ} {then held kept : M} → (number ≡ fixed) × (held ≡ then) → (other ≡ fixed) × (kept ≡ then)
    → (number ≡ other) × (held ≡ kept)
once met e = (met.0 ∙ sym e.0, met.1 ∙ sym e.1)

-- Check
module _ (file : List ℕ) where
  pub check_tells : {number : ℕ} → LoaderChecks file number → Bytes file → NumberTells CheckReport.end (checking file) number
  check_tells met b = tells CheckReport.end (checking file) met (loaders_tell.check file b)

  pub check_once : {number other : ℕ} → LoaderChecks file number → LoaderChecks file other → number ≡ other
  check_once met e = met ∙ sym e

-- Unpack
module _ (rows channels : ℕ) (stored lent : List ℕ) where
  pub unpack_tells : {number : ℕ} {held : List ℕ} → LoaderUnpacks rows channels stored lent number held → Bytes stored
      → NumberTellsKept rows_read (unpacking rows channels stored (length lent)) number lent held
  unpack_tells met b =
      tells_kept rows_read cell_bytes (unpacking rows channels stored (length lent)) lent met.0 met.1
      (loaders_tell.unpack rows channels stored (length lent) b)

  pub unpack_once : {number other : ℕ} {held kept : List ℕ} → LoaderUnpacks rows channels stored lent number held
      → LoaderUnpacks rows channels stored lent other kept
      → (number ≡ other) × (held ≡ kept)
  unpack_once = once

-- Pack
module _ (rows channels : ℕ) (cells lent : List ℕ) where
  pub pack_tells : {number : ℕ} {held : List ℕ} → LoaderPacks rows channels cells lent number held
      → NumberTellsKept length_and_rows (packing rows channels cells (length lent)) number lent held
  pack_tells met =
      tells_kept length_and_rows write_stored (packing rows channels cells (length lent)) lent met.0 met.1
      (loaders_tell.pack rows channels cells (length lent))

  -- the length and the rows come back
  pub pack_apart : {number : ℕ} {held : List ℕ} → LoaderPacks rows channels cells lent number held → (p : Pattern)
      → packing rows channels cells (length lent) ≡ gives p
      → (number % 65536 ≡ length (write_stored p)) × (number / 65536 ≡ p.rows)
  pack_apart met p e = rw met.0 (loaders_tell.pack_apart rows channels cells (length lent) p e)

  pub pack_once : {number other : ℕ} {held kept : List ℕ} → LoaderPacks rows channels cells lent number held → LoaderPacks rows channels cells lent other kept
      → (number ≡ other) × (held ≡ kept)
  pack_once = once

-- Press
module _ (file lent : List ℕ) where
  pub press_tells : {number : ℕ} {held : List ℕ} → LoaderPresses file lent number held → Bytes file
      → NumberTellsKept pressed_length (pressing file (length lent)) number lent held
  press_tells met b =
      tells_kept pressed_length (λ (bytes : List ℕ). bytes) (pressing file (length lent)) lent met.0 met.1 (loaders_tell.press file (length lent) b)

  pub press_once : {number other : ℕ} {held kept : List ℕ} → LoaderPresses file lent number held → LoaderPresses file lent other kept
      → (number ≡ other) × (held ≡ kept)
  press_once = once

-- To either kind
module _ (to : ModuleKind) (file lent : List ℕ) where
  pub convert_tells : {number : ℕ} {held : List ℕ} → LoaderConverts to file lent number held → Bytes file
      → NumberTellsKept pressed_length (converting to file (length lent)) number lent held
  convert_tells met b =
      tells_kept pressed_length (λ (bytes : List ℕ). bytes) (converting to file (length lent)) lent met.0 met.1
      (loaders_tell.convert to file (length lent) b)

  pub convert_once : {number other : ℕ} {held kept : List ℕ} → LoaderConverts to file lent number held → LoaderConverts to file lent other kept
      → (number ≡ other) × (held ≡ kept)
  convert_once = once

-- The check with tables
module _ (file : List ℕ) (lent : Tables) where
  pub tables_tells : {number : ℕ} {held : Tables} → LoaderFills file lent number held → Bytes file
      → NumberTellsKept CheckReport.end (checking_into (room_of lent) file) number lent held
  unfolding tables_after
  tables_tells met b =
      kept CheckReport.end (λ a. tables_after a lent) (checking_into (room_of lent) file) lent (λ r. refl) met.0 met.1
      (loaders_tell.tables (room_of lent) file b)

  pub tables_once : {number other : ℕ} {held kept : Tables} → LoaderFills file lent number held → LoaderFills file lent other kept
      → (number ≡ other) × (held ≡ kept)
  tables_once = once

-- Deltas to values
module _ (width : ℕ) (bytes : List ℕ) (lent : List ℤ) where
  pub decode_tells : {number : ℕ} {held : List ℤ} → LoaderDecodes width bytes lent number held
      → NumberTellsKept count_written (decoding_limited width bytes (length lent)) number lent held
  decode_tells met =
      tells_kept count_written (λ (values : List ℤ). values) (decoding_limited width bytes (length lent)) lent met.0 met.1
      (loaders_tell.decode width bytes (length lent))

  pub decode_once : {number other : ℕ} {held kept : List ℤ} → LoaderDecodes width bytes lent number held → LoaderDecodes width bytes lent other kept
      → (number ≡ other) × (held ≡ kept)
  decode_once = once

-- Values to deltas
module _ (width : ℕ) (values : List ℤ) (lent : List ℕ) where
  pub code_tells : {number : ℕ} {held : List ℕ} → LoaderCodes width values lent number held
      → NumberTellsKept count_written (coding_limited width values (length lent)) number lent held
  code_tells met =
      tells_kept count_written (λ (bytes : List ℕ). bytes) (coding_limited width values (length lent)) lent met.0 met.1
      (loaders_tell.code width values (length lent))

  pub code_once : {number other : ℕ} {held kept : List ℕ} → LoaderCodes width values lent number held → LoaderCodes width values lent other kept
      → (number ≡ other) × (held ≡ kept)
  code_once = once

-- ADPCM to values
module _ (count : ℕ) (bytes : List ℕ) (lent : List ℤ) where
  pub adpcm_tells : {number : ℕ} {held : List ℤ} → LoaderDecodesAdpcm count bytes lent number held
      → NumberTellsKept count_written (adpcm_limited count bytes (length lent)) number lent held
  adpcm_tells met =
      tells_kept count_written (λ (values : List ℤ). values) (adpcm_limited count bytes (length lent)) lent met.0 met.1
      (loaders_tell.adpcm count bytes (length lent))

  pub adpcm_once : {number other : ℕ} {held kept : List ℤ} → LoaderDecodesAdpcm count bytes lent number held → LoaderDecodesAdpcm count bytes lent other kept
      → (number ≡ other) × (held ≡ kept)
  adpcm_once = once

-- The period
module _ (note : ℕ) (finetune : ℤ) where
  pub period_tells : {number : ℕ} → LoaderTunes note finetune number → NumberTells both_numbers (tuning note finetune) number
  period_tells met = tells both_numbers (tuning note finetune) met (periods.period_tells note finetune).loads

  -- its two numbers come back
  pub period_apart : {number : ℕ} → LoaderTunes note finetune number → (period : Period) → tuning note finetune ≡ gives period
      → (number % 65536 ≡ period.dividend) × (number / 65536 ≡ period.divisor)
  period_apart met period e = rw met ((periods.period_tells note finetune).apart period e)

  pub period_once : {number other : ℕ} → LoaderTunes note finetune number → LoaderTunes note finetune other → number ≡ other
  period_once met e = met ∙ sym e
