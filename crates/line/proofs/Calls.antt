-- What holds of every count and memory that meet `fill_line`'s contract. Assumes nothing.
use Prim.Native.Nat.{ℕ}
use mathlib.Core.List.{List}
use mathlib.Core.Path.{◌≡◌, sym, ap₂, ◌∙◌}
use lib.ListN.{take, drop, length}
use lib.Seq.{take-append_seam}
use Rattle.line.specs.Line.{line_of, listing}
use Rattle.line.specs.Filled.{LineFills}

module _ (input lent : List ℕ) {count : ℕ} {held : List ℕ} (met : LineFills (line_of (listing input)) lent count held) where
  -- The bytes counted are the line
  pub line_counted : take count held ≡ line_of (listing input)
  line_counted =
      ap₂ (λ (n : ℕ) (bytes : List ℕ). take n bytes) met.0 met.1.0
      ∙ take-append_seam (line_of (listing input)) (drop (length (line_of (listing input))) lent)

  -- No second answer fits
  pub line_once : {other : ℕ} {kept : List ℕ} → LineFills (line_of (listing input)) lent other kept → (count ≡ other) × (held ≡ kept)
  line_once e = (met.0 ∙ sym e.0, met.1.0 ∙ sym e.1.0)
