-- What a reading found, written again.
use Rattle.std.specs.Prelude.{ℕ, ◌≤◌, ◌<◌, true, List, [], ◌≡◌, length}
use Rattle.xm.specs.Got.{accepted, list_in}
use Rattle.xm.specs.Stored.{read_stored, write_stored}
use Rattle.mark.specs.declared.Mark.{Mark}
use Rattle.mark.specs.declared.Mark.TheVariants.{Copied, Nothing}

-- A stored form in its shortest form.
abbrev pub stored_pressed : (rows channels : ℕ) (stored : List ℕ) → List ℕ
stored_pressed rows channels stored = list_in write_stored (read_stored channels rows 0 stored)

-- What is known of a stored form before it is written again: that it was accepted, and what its mark says: whether its shortest form has no
-- bytes, and whether it stands there in that form already.
pub record Known (rows channels : ℕ) (stored : List ℕ) (mark : Mark) : Type 0 where
  pub rows_most : rows ≤ 256
  pub channels_most : channels ≤ 64
  pub fine : accepted (read_stored channels rows 0 stored) ≡ true
  pub nothing : mark ≡ Nothing → stored_pressed rows channels stored ≡ []
  pub some : (mark ≡ Nothing → ⊥) → 0 < length (stored_pressed rows channels stored)
  pub already : mark ≡ Copied → stored_pressed rows channels stored ≡ stored
