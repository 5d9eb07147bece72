-- The regions of a file, one by one and by kind. Assumes nothing.
use Prim.Native.Nat.{ℕ, zero, suc, ◌+◌, ◌≤◌, ◌<◌}
use mathlib.Core.Bool.{Bool, true, false, cond}
use mathlib.Core.List.{List, [], ◌∷◌, ◌++◌}
use mathlib.Core.Path.{◌≡◌, refl, ap, ◌∙◌}
use native.Mathlib.Omega.{arith}
use lib.Dec.{eqb}
use lib.ListN.{length}
use Rattle.xm.specs.Format.{Kind, Region, joined, All}
use Rattle.xm.specs.Asking.{Stretch}
use Rattle.xm.specs.Region.{Adjoin, region_at, of_kind}
use Rattle.xm.specs.Demands.{RegionsApart}
use Rattle.xm.specs.Structure.{kind_number}
use Rattle.xm.proofs.Format.{cons_path}

-- Regions that adjoin lie between their ends, and one ends before the next begins
adjoin_low : (a e : ℕ) (rs : List Region) (k : ℕ) → Adjoin a rs e → k < length rs → a ≤ (region_at rs k).place
adjoin_low a e [] k c h = absurd (omega arith)
adjoin_low a e (r ∷ rs) zero c h = omega (arith, c.0)
adjoin_low a e (r ∷ rs) (suc k) c h = omega (arith, c.0, adjoin_low (r.place + r.size) e rs k c.1 (omega arith))

adjoin_end : (a e : ℕ) (rs : List Region) → Adjoin a rs e → a ≤ e
adjoin_end a e [] c = omega arith
adjoin_end a e (r ∷ rs) c = omega (arith, c.0, adjoin_end (r.place + r.size) e rs c.1)

adjoin_high : (a e : ℕ) (rs : List Region) (k : ℕ) → Adjoin a rs e → k < length rs → (region_at rs k).place + (region_at rs k).size ≤ e
adjoin_high a e [] k c h = absurd (omega arith)
adjoin_high a e (r ∷ rs) zero c h = adjoin_end (r.place + r.size) e rs c.1
adjoin_high a e (r ∷ rs) (suc k) c h = adjoin_high (r.place + r.size) e rs k c.1 (omega arith)

adjoin_apart : (a e : ℕ) (rs : List Region) (j k : ℕ) → Adjoin a rs e → j < k → k < length rs
    → (region_at rs j).place + (region_at rs j).size ≤ (region_at rs k).place
adjoin_apart a e [] j k c h l = absurd (omega arith)
adjoin_apart a e (r ∷ rs) j zero c h l = absurd (omega arith)
adjoin_apart a e (r ∷ rs) zero (suc k) c h l = adjoin_low (r.place + r.size) e rs k c.1 (omega arith)
adjoin_apart a e (r ∷ rs) (suc j) (suc k) c h l = adjoin_apart (r.place + r.size) e rs j k c.1 (omega arith) (omega arith)

pub adjoin_regions : (file : List ℕ) (rs : List Region) (e : ℕ) → Adjoin 0 rs e → e ≤ length file → RegionsApart file rs e
adjoin_regions file rs e c h = record {
  adjoin = c;
  inside = λ k l. omega (arith, adjoin_high 0 e rs k c l);
  apart = λ j k l m. adjoin_apart 0 e rs j k c l m;
}

-- All lie before the end, and so do those of one kind
abbrev pub Before : ℕ → Stretch → Type 0
Before e l = l.place + l.size ≤ e

pub kind_before : (kind : Kind) (a e : ℕ) (rs : List Region) → Adjoin a rs e → All (Before e) (of_kind kind rs)
kind_before kind a e [] c = tt
kind_before kind a e (r ∷ rs) c = go (eqb (kind_number kind) (kind_number r.kind)) (kind_before kind (r.place + r.size) e rs c.1)
  where
    go : (t : Bool) → All (Before e) (of_kind kind rs) → All (Before e) (cond t (record { place = r.place; size = r.size } ∷ of_kind kind rs) (of_kind kind rs))
    go true h = (adjoin_end (r.place + r.size) e rs c.1, h)
    go false h = h

-- The regions of a kind, part by part
pub kind_append : (kind : Kind) (rs ts : List Region) → of_kind kind (rs ++ ts) ≡ of_kind kind rs ++ of_kind kind ts
kind_append kind [] ts = refl
kind_append kind (r ∷ rs) ts = go (eqb (kind_number kind) (kind_number r.kind)) (kind_append kind rs ts)
  where
    go : (t : Bool) → of_kind kind (rs ++ ts) ≡ of_kind kind rs ++ of_kind kind ts
        → cond t (record { place = r.place; size = r.size } ∷ of_kind kind (rs ++ ts)) (of_kind kind (rs ++ ts))
        ≡ cond t (record { place = r.place; size = r.size } ∷ of_kind kind rs) (of_kind kind rs) ++ of_kind kind ts
    go true h = cons_path refl h
    go false h = h

pub kind_joined : {A : Type 0} (kind : Kind) (f : A → List Region) (xs : List A) → of_kind kind (joined f xs) ≡ joined (λ (x : A). of_kind kind (f x)) xs
kind_joined kind f [] = refl
kind_joined kind f (x ∷ xs) = kind_append kind (f x) (joined f xs) ∙ ap (λ (l : List Stretch). of_kind kind (f x) ++ l) (kind_joined kind f xs)
