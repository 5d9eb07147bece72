-- The two kinds of module, normal and stripped; and bytes that a stripped one cuts off, which "read as 0".
use Rattle.std.specs.Prelude.{ℕ, zero, suc, Bool, true, false, List, [], ◌∷◌}

pub data ModuleKind : Type 0 where
  normal stripped : ModuleKind

-- by whether it is stripped
abbrev pub kind_by : (is_stripped : Bool) → ModuleKind
kind_by true = stripped
kind_by false = normal

-- So many bytes, of which those that are not there are 0.
unfoldable pub padded : (width : ℕ) → List ℕ → List ℕ
padded zero s = []
padded (suc width) [] = 0 ∷ padded width []
padded (suc width) (b ∷ s) = b ∷ padded width s

-- The shortest that reads the same: the zeros at the end are cut off. A zero before nothing is one of them.
unfoldable pub before : (byte : ℕ) → List ℕ → List ℕ
before zero [] = []
before zero (b ∷ s) = 0 ∷ b ∷ s
before (suc byte) s = suc byte ∷ s

unfoldable pub trimmed : List ℕ → List ℕ
trimmed [] = []
trimmed (b ∷ s) = before b (trimmed s)
