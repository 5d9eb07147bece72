-- What filling a lent line with a text leaves.
use Rattle.std.specs.Prelude.{ℕ, ◌≤◌, List, ◌≡◌, length, take}
use Rattle.xm.specs.Answer.{in_front}

-- So many bytes stand at the front: what whoever lends just them on has to know.
abbrev pub Front : (count : ℕ) (held : List ℕ) → Type 0
Front count held = (count ≤ length held) × (count ≡ length (take count held))

-- A text fills the front of what was lent.
abbrev pub LineFills : (text lent : List ℕ) (count : ℕ) (held : List ℕ) → Type 0
LineFills text lent count held = (count ≡ length text) × ((held ≡ in_front text lent) × Front count held)
