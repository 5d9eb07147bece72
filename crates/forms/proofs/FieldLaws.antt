-- Laws of the fields behind I: where the last one stands that is not 0. Assumes nothing.
use Prim.Native.Nat.{ℕ, zero, suc, ◌+◌, ◌≤◌, ◌<◌}
use mathlib.Core.List.{List, [], ◌∷◌, ◌++◌, append_assoc, append-nil}
use mathlib.Core.Path.{◌≡◌, refl, sym, ap, ap₂, ◌∙◌}
use native.Mathlib.Omega.{arith}
use lib.ListN.{length, take, drop, length-append, length-drop}
use lib.Seq.{take-suc, get_or-drop, length-take-le}
use Rattle.xm.specs.Number.{byte_at, part, byte, word, long}
use Rattle.xm.specs.ModuleKind.{ModuleKind, normal, stripped, padded, before, trimmed}
use Rattle.xm.specs.Got.{AllHold}
use Rattle.xm.specs.Instrument.{least_stripped, voice_from, voice_size, instrument_size_at, count_at, fields_of, instrument_tests, voice_of}
use Rattle.xm.proofs.Number.{Agree, agree_byte, agree_part}
use Rattle.xm.proofs.Format.{cons_path}
use Rattle.xm.proofs.Cut.{padded-length, front_padded}
use Rattle.steps.proofs.InstrumentLaws.{fields_pass, some_samples}
use Rattle.forms.specs.Form.{written_fields}
use Rattle.forms.proofs.KeptLaws.{part-padded, trimmed-behind, trimmed_front}

-- Small numbers: their first byte says them
pub long_low : (n : ℕ) → n < 256 → long n ≡ n ∷ 0 ∷ 0 ∷ 0 ∷ []
long_low n h = cons_path (omega arith) (cons_path (omega arith) (cons_path (omega arith) (cons_path (omega arith) refl)))

word_low : (n : ℕ) → n < 256 → word n ≡ n ∷ 0 ∷ []
word_low n h = cons_path (omega arith) (cons_path (omega arith) refl)

long_one : (n : ℕ) → 1 ≤ n → n < 256 → length (trimmed (long n)) ≡ 1
unfolding trimmed before
long_one zero h l = absurd (omega arith)
long_one (suc n) h l = ap (λ (s : List ℕ). length (trimmed s)) (long_low (suc n) l)

word_one : (n : ℕ) → 1 ≤ n → n < 256 → length (trimmed (word n)) ≡ 1
unfolding trimmed before
word_one zero h l = absurd (omega arith)
word_one (suc n) h l = ap (λ (s : List ℕ). length (trimmed s)) (word_low (suc n) l)

voice_some : (k : ℕ) (s : List ℕ) → 1 ≤ k → voice_of k s ≡ part voice_from voice_size s
voice_some zero s h = absurd (omega arith)
voice_some (suc k) s h = refl

-- The fields from bytes that are cut off
module _ (t : List ℕ) where
  abbrev fields : List ℕ
  fields = padded 241 t

  name_size : length (part 4 22 fields) ≡ 22
  name_size = length-take-le 22 (drop 4 fields) (omega (arith, length-drop 4 fields, padded-length 241 t))

  name_type : part 4 22 fields ++ byte (byte_at 26 fields) ≡ part 4 23 fields
  name_type =
      sym
      (take-suc (drop 4 fields) 22 0 (omega (arith, length-drop 4 fields, padded-length 241 t))
      ∙ ap (λ (b : ℕ). part 4 22 fields ++ (b ∷ [])) (get_or-drop 4 fields 22 0))

  -- no samples
  bare_fields : length (trimmed (written_fields fields 0 0)) ≡ length (trimmed (part 4 23 t))
  unfolding trimmed before
  bare_fields =
      ap length
      (ap trimmed (sym (append_assoc (part 4 22 fields) (byte (byte_at 26 fields)) (0 ∷ 0 ∷ 0 ∷ 0 ∷ 0 ∷ 0 ∷ [])))
      ∙ trimmed_front (part 4 22 fields ++ byte (byte_at 26 fields)) (0 ∷ 0 ∷ 0 ∷ 0 ∷ 0 ∷ 0 ∷ []) refl
      ∙ ap trimmed name_type
      ∙ part-padded 4 23 237 t (omega arith))

  pub fields_none : (samples head_size : ℕ) → samples ≡ 0 → head_size ≡ 0 → {kept : ℕ} → kept ≡ length (trimmed (part 4 23 t))
      → 4 + kept ≡ least_stripped + length (trimmed (written_fields fields samples head_size))
  fields_none samples head_size p q e = ap (λ (n : ℕ). 4 + n) (e ∙ sym (ap₂ (λ (k h : ℕ). length (trimmed (written_fields fields k h))) p q ∙ bare_fields))

  -- some samples
  module _ (samples head_size : ℕ) (some : 1 ≤ samples) (few : samples < 256) (low : head_size < 256) where
    abbrev start : List ℕ
    start = part 4 22 fields ++ (byte (byte_at 26 fields) ++ word samples)

    all_fields : written_fields fields samples head_size ≡ (start ++ long head_size) ++ part voice_from voice_size fields
    all_fields =
        ap (λ (voice : List ℕ). part 4 22 fields ++ (byte (byte_at 26 fields) ++ (word samples ++ (long head_size ++ (voice ++ [])))))
        (voice_some samples fields some)
        ∙ simp (append_assoc, append-nil)

    start_size : length start ≡ 25
    start_size = length-append (part 4 22 fields) (byte (byte_at 26 fields) ++ word samples) ∙ omega (arith, name_size)

    voice_kept : length (trimmed (part voice_from voice_size fields)) ≡ length (trimmed (part voice_from voice_size t))
    voice_kept = ap length (part-padded 33 208 208 t (omega arith))

    abbrev written : ℕ
    written = length (trimmed (written_fields fields samples head_size))

    pub fields_voice : {voice : ℕ} → voice ≡ length (trimmed (part voice_from voice_size t)) → 0 < voice → 33 + voice ≡ least_stripped + written
    fields_voice {voice} e h =
        let behind = trimmed-behind (start ++ long head_size) (part voice_from voice_size fields) (omega (arith, voice_kept)) in
        let l = ap (λ (s : List ℕ). length (trimmed s)) all_fields ∙ behind in
        omega (arith, l, length-append start (long head_size), start_size, voice_kept)

    module _ (none : length (trimmed (part voice_from voice_size t)) ≡ 0) where
      no_voice : trimmed (written_fields fields samples head_size) ≡ trimmed (start ++ long head_size)
      no_voice = ap trimmed all_fields ∙ trimmed_front (start ++ long head_size) (part voice_from voice_size fields) (voice_kept ∙ none)

      pub fields_head : 1 ≤ head_size → 30 ≡ least_stripped + written
      fields_head h =
          let one = long_one head_size h low in
          omega (arith, ap length no_voice, trimmed-behind start (long head_size) (omega arith), start_size)

      pub fields_count : head_size ≡ 0 → 28 ≡ least_stripped + written
      unfolding trimmed before
      fields_count z =
          let bare : trimmed (start ++ long head_size) ≡ trimmed start = trimmed_front start (long head_size) (ap (λ (n : ℕ). length (trimmed (long n))) z) in
          let front = part 4 22 fields ++ byte (byte_at 26 fields) in
          let parts : start ≡ front ++ word samples = sym (append_assoc (part 4 22 fields) (byte (byte_at 26 fields)) (word samples)) in
          let one = word_one samples some few in
          let behind = trimmed-behind front (word samples) (omega arith) in
          omega (arith, ap length (no_voice ∙ bare ∙ ap trimmed parts), behind, length-append (part 4 22 fields) (byte (byte_at 26 fields)), name_size)

-- The same bytes are read, of either kind of module
module _ (kind : ModuleKind) (place : ℕ) (s : List ℕ) (h : AllHold (instrument_tests kind place s)) where
  abbrev cut : List ℕ
  cut = padded 241 (take (instrument_size_at s) s)

  agree : (n : ℕ) → n ≤ 241 → n ≤ instrument_size_at s → Agree n s cut
  agree n l m = record {
    long = omega (arith, padded-length 241 (take (instrument_size_at s) s));
    same = sym (front_padded n 241 (instrument_size_at s) s l m (fields_pass kind place s h).there);
  }

pub same_fields : (kind : ModuleKind) (place : ℕ) (s : List ℕ) → AllHold (instrument_tests kind place s) → (head_size : ℕ)
    → written_fields (fields_of kind s) (count_at (fields_of kind s)) head_size
    ≡ written_fields (padded 241 (take (instrument_size_at s) s)) (count_at (fields_of kind s)) head_size
same_fields stripped place s h head_size = refl
same_fields normal place s h head_size =
    let a = agree normal place s h 29 (omega arith) (omega (arith, h.1.0)) in
    rw (agree_part a 4 22 (omega arith), agree_byte a 26 (omega arith), same_voice (count_at s) (λ some. some_samples place s h some))
    refl
  where
    same_voice : (k : ℕ) → (1 ≤ k → 263 ≤ instrument_size_at s) → voice_of k s ≡ voice_of k (padded 241 (take (instrument_size_at s) s))
    same_voice zero w = refl
    same_voice (suc k) w = agree_part (agree normal place s h 241 (omega arith) (omega (arith, w (omega arith)))) 33 208 (omega arith)
