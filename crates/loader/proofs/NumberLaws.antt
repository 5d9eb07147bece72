-- The number of each call's answer is that of the definitions, and fits 64 bits. Assumes nothing.
use Prim.Native.Nat.{ℕ, ◌^◌, ◌≤◌, ◌<◌}
use mathlib.Core.List.{List}
use mathlib.Core.Path.{◌≡◌, refl, ap, ◌∙◌}
use native.Mathlib.Omega.{arith}
use lib.IntN.{ℤ}
use lib.ListN.{length}
use Rattle.xm.specs.Number.{Bytes}
use Rattle.xm.specs.Got.{Refusal}
use Rattle.xm.specs.Answer.{Answer, gives, refuses, loader_number}
use Rattle.xm.specs.Table.{CheckReport, checking, check_loader, checking_into, check_into_loader, Tables, room_of}
use Rattle.xm.specs.Packing.{rows_read, length_and_rows, unpacking, unpack_loader, packing, pack_loader}
use Rattle.xm.specs.ModuleKind.{ModuleKind}
use Rattle.xm.specs.Press.{pressed_length, pressing, press_loader}
use Rattle.xm.specs.Convert.{converting, convert_loader}
use Rattle.xm.specs.Delta.{decoding_limited, decode_loader, coding_limited, code_loader}
use Rattle.xm.specs.Adpcm.{adpcm_limited, adpcm_loader}
use Rattle.xm.specs.Demands.{refusal_most, LoaderTells}
use Rattle.xm.proofs.Demands.{demand₁, loaders_tell}
use Rattle.std.specs.Prelude.{Result}
use Rattle.refusal.specs.Refusal.{outcome}
use Rattle.refusal.specs.declared.Refusal as code
use Rattle.walk.specs.declared.Module.{Module}
use Rattle.walk.specs.File.{code_module}
use Rattle.packing.specs.declared.Form.{Form}
use Rattle.packing.specs.Packed.{form_of}
use Rattle.periods.specs.declared.Quotient.{Quotient}
use Rattle.periods.specs.Period.{tuning, both_numbers, period_loader}
use Rattle.periods.specs.Tuned.{quotient_of}
use Rattle.periods.proofs.Calls.{period_tells}
use Rattle.loader.specs.Number.{form_number, quotient_number, answer_number}

-- A number that tells a value below 2^32 from a refusal by the definitions
fits : {A : Type 0} (value : A → ℕ) (answer : Answer A) (number : ℕ) → LoaderTells value answer number
    → ((r : Refusal) → answer ≡ refuses r → r.number ≤ refusal_most) → number < 2 ^ 64
fits value (gives a) number tells most = omega (arith, (tells.accepted a refl).1)
fits value (refuses r) number tells most = omega (arith, most r refl, (tells.refused r refl).1)

-- The number of an answer is that of the answer by the definitions that it stands for
number_cases : {A T : Type 0} (told : T → ℕ) (f : A → T) (answer : Answer A) → answer_number told (outcome f answer) ≡ loader_number (λ a. told (f a)) answer
unfolding loader_number
number_cases told f (gives a) = refl
number_cases told f (refuses r) = refl

number_same : {A T : Type 0} (told : T → ℕ) (f : A → T) (answer : Answer A) {given : Result T code.Refusal} → given ≡ outcome f answer
    → answer_number told given ≡ loader_number (λ a. told (f a)) answer
number_same told f answer met = ap (answer_number told) met ∙ number_cases told f answer

-- What a count is told as
abbrev pub count_number : Result ℕ code.Refusal → ℕ
count_number = answer_number (λ n. n)

module _ (file : List ℕ) {verdict : Result Module code.Refusal} (met : verdict ≡ outcome code_module (checking file)) where
  pub check_same : answer_number Module.end verdict ≡ check_loader file
  check_same = number_same Module.end code_module (checking file) met

  pub check_fits : Bytes file → answer_number Module.end verdict < 2 ^ 64
  check_fits b =
      rw check_same (fits CheckReport.end (checking file) (check_loader file) (loaders_tell.check file b)
      (λ r e. omega (arith, (demand₁.check file r b e).0.1)))

module _ (rows channels : ℕ) (stored : List ℕ) (room : ℕ) {unpacked : Result ℕ code.Refusal}
    (met : unpacked ≡ outcome rows_read (unpacking rows channels stored room)) where
  pub unpack_same : count_number unpacked ≡ unpack_loader rows channels stored room
  unpack_same = number_same (λ n. n) rows_read (unpacking rows channels stored room) met

  pub unpack_fits : Bytes stored → count_number unpacked < 2 ^ 64
  unpack_fits b =
      rw unpack_same (fits rows_read (unpacking rows channels stored room) (unpack_loader rows channels stored room)
      (loaders_tell.unpack rows channels stored room b)
      (λ r e. ((demand₁.unpack rows channels stored b).numbered room r e).1))

module _ (rows channels : ℕ) (cells : List ℕ) (room : ℕ) {packed : Result Form code.Refusal}
    (met : packed ≡ outcome form_of (packing rows channels cells room)) where
  pub pack_same : answer_number form_number packed ≡ pack_loader rows channels cells room
  pack_same = number_same form_number form_of (packing rows channels cells room) met

  pub pack_fits : answer_number form_number packed < 2 ^ 64
  pack_fits =
      rw pack_same (fits length_and_rows (packing rows channels cells room) (pack_loader rows channels cells room) (loaders_tell.pack rows channels cells room)
      (λ r e. ((demand₁.pack rows channels cells).numbered room r e).1))

module _ (file : List ℕ) (room : ℕ) {pressed : Result ℕ code.Refusal} (met : pressed ≡ outcome length (pressing file room)) where
  pub press_same : count_number pressed ≡ press_loader file room
  press_same = number_same (λ n. n) length (pressing file room) met

  pub press_fits : Bytes file → count_number pressed < 2 ^ 64
  press_fits b =
      rw press_same (fits pressed_length (pressing file room) (press_loader file room) (loaders_tell.press file room b)
      (λ r e. ((demand₁.press file b).numbered room r e).1))

module _ (to : ModuleKind) (file : List ℕ) (room : ℕ) {converted : Result ℕ code.Refusal} (met : converted ≡ outcome length (converting to file room)) where
  pub convert_same : count_number converted ≡ convert_loader to file room
  convert_same = number_same (λ n. n) length (converting to file room) met

  pub convert_fits : Bytes file → count_number converted < 2 ^ 64
  convert_fits b =
      rw convert_same (fits pressed_length (converting to file room) (convert_loader to file room) (loaders_tell.convert to file room b)
      (λ r e. ((demand₁.convert to file b).numbered room r e).1))

module _ (file : List ℕ) (lent : Tables) {verdict : Result Module code.Refusal} (met : verdict ≡ outcome code_module (checking_into (room_of lent) file)) where
  pub tables_same : answer_number Module.end verdict ≡ check_into_loader (room_of lent) file
  tables_same = number_same Module.end code_module (checking_into (room_of lent) file) met

  pub tables_fits : Bytes file → answer_number Module.end verdict < 2 ^ 64
  tables_fits b =
      rw tables_same (fits CheckReport.end (checking_into (room_of lent) file) (check_into_loader (room_of lent) file) (loaders_tell.tables (room_of lent) file b)
      (λ r e. ((demand₁.tables file lent b).numbered r e).1))

module _ (width : ℕ) (bytes : List ℕ) (room : ℕ) {decoded : Result ℕ code.Refusal} (met : decoded ≡ outcome length (decoding_limited width bytes room)) where
  pub decode_same : count_number decoded ≡ decode_loader width bytes room
  decode_same = number_same (λ n. n) length (decoding_limited width bytes room) met

  pub decode_fits : count_number decoded < 2 ^ 64
  decode_fits =
      rw decode_same (fits length (decoding_limited width bytes room) (decode_loader width bytes room) (loaders_tell.decode width bytes room)
      (λ r e. ((demand₁.decode_limited width bytes).numbered room r e).1))

module _ (width : ℕ) (values : List ℤ) (room : ℕ) {coded : Result ℕ code.Refusal} (met : coded ≡ outcome length (coding_limited width values room)) where
  pub code_same : count_number coded ≡ code_loader width values room
  code_same = number_same (λ n. n) length (coding_limited width values room) met

  pub code_fits : count_number coded < 2 ^ 64
  code_fits =
      rw code_same (fits length (coding_limited width values room) (code_loader width values room) (loaders_tell.code width values room)
      (λ r e. ((demand₁.code_limited width values).numbered room r e).1))

module _ (count : ℕ) (bytes : List ℕ) (room : ℕ) {decoded : Result ℕ code.Refusal} (met : decoded ≡ outcome length (adpcm_limited count bytes room)) where
  pub adpcm_same : count_number decoded ≡ adpcm_loader count bytes room
  adpcm_same = number_same (λ n. n) length (adpcm_limited count bytes room) met

  pub adpcm-fits : count_number decoded < 2 ^ 64
  adpcm-fits =
      rw adpcm_same (fits length (adpcm_limited count bytes room) (adpcm_loader count bytes room) (loaders_tell.adpcm count bytes room)
      (λ r e. ((demand₁.adpcm_limited count bytes).numbered room r e).1))

module _ (note : ℕ) (finetune : ℤ) {tuned : Result Quotient code.Refusal} (met : tuned ≡ outcome quotient_of (tuning note finetune)) where
  pub period_same : answer_number quotient_number tuned ≡ period_loader note finetune
  period_same = number_same quotient_number quotient_of (tuning note finetune) met

  pub period_fits : answer_number quotient_number tuned < 2 ^ 64
  period_fits =
      rw period_same (fits both_numbers (tuning note finetune) (period_loader note finetune) (period_tells note finetune).loads
      (λ r e. omega (arith, ap Refusal.number ((period_tells note finetune).refused r e))))
