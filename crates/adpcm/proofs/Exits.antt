-- What the contract of the call says, and that each exit meets it. Assumes nothing.
use Prim.Native.Nat.{ℕ, ◌≤◌}
use mathlib.Core.List.{List}
use mathlib.Core.Path.{◌≡◌, refl, sym, ap}
use lib.IntN.{ℤ}
use lib.ListN.{length}
use Rattle.std.specs.Prelude.{Result, Ok, Err}
use Rattle.xm.specs.Got as paper
use Rattle.xm.specs.Answer.{refuses, in_front}
use Rattle.xm.specs.Sample.{adpcm_size}
use Rattle.xm.specs.Adpcm.{adpcm_decoded, adpcm_decoding, adpcm_after}
use Rattle.xm.proofs.Adpcm.{adpcm-length, adpcm_given}
use Rattle.refusal.specs.Refusal.{code_refusal, outcome}
use Rattle.refusal.specs.declared.Refusal.{Refusal}

-- An answer of `decode_adpcm`, and what the memory that it was lent holds afterwards
abbrev pub AdpcmDecodes : (count : ℕ) (bytes : List ℕ) (lent : List ℤ) (answer : Result ℕ Refusal) (held : List ℤ) → Type 0
AdpcmDecodes count bytes lent answer held = (answer ≡ outcome length (adpcm_decoding count bytes (length lent))) × (held ≡ adpcm_after count bytes lent)

module _ (count : ℕ) (bytes : List ℕ) (lent : List ℤ) where
  pub decode_refused : {r : paper.Refusal} {refusal : Refusal} → refusal ≡ code_refusal r → adpcm_decoding count bytes (length lent) ≡ refuses r
      → AdpcmDecodes count bytes lent (Err refusal) lent
  decode_refused f e = rw (e, f) (refl, refl)

  pub decode_done : {held : List ℤ} → length bytes ≡ adpcm_size count → count ≤ length lent → held ≡ in_front (adpcm_decoded count bytes) lent
      → AdpcmDecodes count bytes lent (Ok count) held
  decode_done fit h m = rw (adpcm_given count bytes (length lent) fit h) (ap Ok (sym (adpcm-length count bytes fit)), m)
