-- What the contracts of the two calls say, and that each exit meets them, over the width. Assumes nothing.
use Rattle.std.proofs.Common.{◌≡◌, ℕ, ◌*◌, ◌/◌, ◌<◌, ◌≤◌, List, length, ℤ, sym, refl, ap, ◌∙◌}
use Rattle.std.specs.Prelude.{Result, Ok, Err}
use Rattle.xm.specs.Got.{◌at◌, Holds}
use Rattle.xm.specs.Got as paper
use Rattle.xm.specs.Answer.{refuses, in_front}
use Rattle.xm.specs.Delta.{decoded, coded, stored_numbers, width_test, decoding, coding, decode_after, code_after}
use Rattle.xm.proofs.Delta.{Paired, Covered, coded-length, decoding_room, decoding_given, coding_room, coding_given}
use Rattle.refusal.specs.Refusal.{code_refusal, outcome}
use Rattle.refusal.specs.declared.Refusal.{Refusal}
use Rattle.samples.proofs.Loops.{length-decoded, room_short, room_enough}

-- An answer of `decode`, and what the memory that it was lent holds afterwards
abbrev pub Decodes : (width : ℕ) (bytes : List ℕ) (lent : List ℤ) (answer : Result ℕ Refusal) (held : List ℤ) → Type 0
Decodes width bytes lent answer held = (answer ≡ outcome length (decoding width bytes (length lent))) × (held ≡ decode_after width bytes lent)

pub decode_refused : (width : ℕ) (bytes : List ℕ) (lent : List ℤ) {r : paper.Refusal} {refusal : Refusal} → refusal ≡ code_refusal r
    → decoding width bytes (length lent) ≡ refuses r → Decodes width bytes lent (Err refusal) lent
decode_refused width bytes lent f e = rw (e, f) (refl, refl)

module _ (width : ℕ) (known : Holds (width_test width)) (bytes : List ℕ) (paired : Paired width bytes) (lent : List ℤ) where
  pub decode_short : {refusal : Refusal} → refusal ≡ code_refusal (14 at 0) → length lent < length (stored_numbers width bytes)
      → Decodes width bytes lent (Err refusal) lent
  decode_short f h = decode_refused width bytes lent f (decoding_room width bytes (length lent) known paired (rw (length-decoded width) h))

  pub decode_done : {count : ℕ} {held : List ℤ} → count ≡ length (stored_numbers width bytes) → count ≤ length lent → held ≡ in_front (decoded width bytes) lent
      → Decodes width bytes lent (Ok count) held
  decode_done c h m =
      let n = c ∙ sym (length-decoded width bytes) in
      rw (decoding_given width bytes (length lent) known paired (rw n at h)) (ap Ok n, m)

-- An answer of `code`, and what the memory that it was lent holds afterwards
abbrev pub Codes : (width : ℕ) (values : List ℤ) (lent : List ℕ) (answer : Result ℕ Refusal) (held : List ℕ) → Type 0
Codes width values lent answer held = (answer ≡ outcome length (coding width values (length lent))) × (held ≡ code_after width values lent)

pub code_refused : (width : ℕ) (values : List ℤ) (lent : List ℕ) {r : paper.Refusal} {refusal : Refusal} → refusal ≡ code_refusal r
    → coding width values (length lent) ≡ refuses r → Codes width values lent (Err refusal) lent
code_refused width values lent f e = rw (e, f) (refl, refl)

module _ (width : ℕ) (known : Holds (width_test width)) (values : List ℤ) (covered : Covered width values) (lent : List ℕ) where
  pub code_short : {refusal : Refusal} → refusal ≡ code_refusal (14 at 0) → length (stored_numbers width lent) < length values
      → Codes width values lent (Err refusal) lent
  code_short f h =
      code_refused width values lent f
      (coding_room width values (length lent) known covered (rw (coded-length width known) (room_short width known lent (length values) h)))

  pub code_done : {count : ℕ} {held : List ℕ} → count ≡ width / 8 * length values → length values ≤ length (stored_numbers width lent)
      → held ≡ in_front (coded width values) lent → Codes width values lent (Ok count) held
  code_done c h m =
      let n = c ∙ sym (coded-length width known values) in
      rw (coding_given width values (length lent) known covered (rw (coded-length width known) (room_enough width known lent (length values) h))) (ap Ok n, m)
