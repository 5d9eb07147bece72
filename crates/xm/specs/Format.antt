-- A format: how something is read, what of it is content, which regions of the file it takes, what content is well formed, and how
-- that is written. And formats put together: one after the other, and one for each of a list.
use Rattle.std.specs.Prelude.{ℕ, ◌+◌, List, [], ◌∷◌, ◌++◌, map, drop}
use Rattle.xm.specs.Got.{got, Reader, ◌>>=◌}

-- "The regions of an accepted file": a pattern has two, its header and its data.
pub data Kind : Type 0 where
  header pattern_header pattern_data instrument sample_header sample_data : Kind

pub record Region : Type 0 where
  pub kind : Kind
  pub place : ℕ
  pub size : ℕ

-- H is what the reading depends on (as the number of channels), I what is found, with its places, and A the content.
pub record Format (H I A : Type 0) : Type 1 where
  pub read : H → Reader I
  pub view : I → A
  pub regions : I → List Region
  pub Good : H → A → Type 0
  pub write : A → List ℕ

-- Lists made of what each element gives; and lists put end to end.
abbrev pub joined : {A B : Type 0} → (A → List B) → List A → List B
joined f [] = []
joined f (x ∷ xs) = f x ++ joined f xs

abbrev pub flat : {A : Type 0} → List (List A) → List A
flat xss = joined (λ xs. xs) xss

-- What one reading depends on, from what another does.
abbrev pub over : {H K I A : Type 0} → (K → H) → Format H I A → Format K I A
over f F = record { read = λ k. F.read (f k); view = F.view; regions = F.regions; Good = λ k. F.Good (f k); write = F.write }

-- One after the other; the second may depend on the content of the first.
abbrev pub then : {H I A K J B : Type 0} → Format H I A → (H → A → K) → Format K J B → Format H (I × J) (A × B)
then F next G = record {
  read = λ h place s. do
    (i, n) ← F.read h place s
    (j, m) ← G.read (next h (F.view i)) (place + n) (drop n s)
    got (i, j) (n + m);
  view = λ v. (F.view v.0, G.view v.1);
  regions = λ v. F.regions v.0 ++ G.regions v.1;
  Good = λ h x. F.Good h x.0 × G.Good (next h x.0) x.1;
  write = λ x. F.write x.0 ++ G.write x.1;
}

-- One for each of a list, back to back. `replicate n h` is n of one kind.
module _ {H I A : Type 0} (F : Format H I A) where
  abbrev pub each_read : List H → Reader (List I)
  each_read [] place s = got [] 0
  each_read (h ∷ hs) place s = do
    (i, n) ← F.read h place s
    (is, m) ← each_read hs (place + n) (drop n s)
    got (i ∷ is) (n + m)

  abbrev pub EachGood : List H → List A → Type 0
  EachGood [] [] = Unit {0}
  EachGood [] (x ∷ xs) = ⊥
  EachGood (h ∷ hs) [] = ⊥
  EachGood (h ∷ hs) (x ∷ xs) = F.Good h x × EachGood hs xs

abbrev pub each : {H I A : Type 0} → Format H I A → Format (List H) (List I) (List A)
each F = record { read = each_read F; view = map F.view; regions = joined F.regions; Good = EachGood F; write = joined F.write }

-- Each element has a property.
abbrev pub All : {A : Type 0} → (A → Type 0) → List A → Type 0
All P [] = Unit {0}
All P (x ∷ xs) = P x × All P xs
