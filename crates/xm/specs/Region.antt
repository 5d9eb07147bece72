-- The regions of a file, one by one and by kind: what the statements about them are made of.
use Rattle.std.specs.Prelude.{ℕ, ◌+◌, cond, List, [], ◌∷◌, ◌≡◌, eqb, get_or}
use Rattle.xm.specs.Format.{Kind, Region, header}
use Rattle.xm.specs.Asking.{Stretch}
use Rattle.xm.specs.Structure.{kind_number}

-- Each begins where the one before ends, from a place to an end.
abbrev pub Adjoin : (from : ℕ) → List Region → (end : ℕ) → Type 0
Adjoin from [] end = from ≡ end
Adjoin from (r ∷ rs) end = (r.place ≡ from) × Adjoin (r.place + r.size) rs end

abbrev pub region_at : List Region → ℕ → Region
region_at rs k = get_or rs k (record { kind = header; place = 0; size = 0 })

-- Where those of a kind lie, in file order.
abbrev pub of_kind : Kind → List Region → List Stretch
of_kind kind [] = []
of_kind kind (r ∷ rs) = cond (eqb (kind_number kind) (kind_number r.kind)) (record { place = r.place; size = r.size } ∷ of_kind kind rs) (of_kind kind rs)
