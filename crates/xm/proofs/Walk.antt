-- For code that walks a file by absolute places: the loop over `each`, with what was read so far. Assumes nothing.
use Prim.Native.Nat.{ℕ, suc, ◌+◌, ◌-◌, ◌≤◌, ◌<◌}
use mathlib.Core.List.{List, [], ◌∷◌, ◌++◌, append_assoc, append-nil}
use mathlib.Core.Path.{◌≡◌, refl, sym, ap, ap₂, ◌∙◌}
use native.Mathlib.Nat.{add_assoc, zero-add}
use native.Mathlib.Numerals.{add-one}
use native.Mathlib.Omega.{arith}
use lib.ListN.{length, drop, get_or, drop_of_length-le, length-append}
use lib.Seq.{drop-drop, drop-cons}
use Rattle.xm.specs.Got.{Refusal, Got, got, refused, ◌>>=◌}
use Rattle.xm.specs.Format.{Format, each_read}
use Rattle.xm.proofs.Got.{step, step_refused}

-- A reading that goes on after some parts were read, in so many bytes
unfoldable pub onto : {I : Type 0} → List I → ℕ → Got (List I) → Got (List I)
onto done used (got is n) = got (done ++ is) (used + n)
onto done used (refused r) = refused r

onto_none : {I : Type 0} (g : Got (List I)) → onto [] 0 g ≡ g
unfolding onto
onto_none (got is n) = ap {B = Got (List _)} (got is) (zero-add n)
onto_none (refused r) = refl

onto_more : {I : Type 0} (done : List I) (used : ℕ) (i : I) (n : ℕ) (g : Got (List I))
    → onto done used (g >>= (λ (is, m). got (i ∷ is) (n + m))) ≡ onto (done ++ (i ∷ [])) (used + n) g
unfolding onto ◌>>=◌
onto_more done used i n (got is m) = ap₂ {C = Got (List _)} got (sym (append_assoc done (i ∷ []) is)) (sym (add_assoc used n m))
onto_more done used i n (refused r) = refl

-- The state of a loop over `each`: j parts are read, `done` in all, and what is left is read from `cur` on
pub record PartsLeft {H I A : Type 0} (F : Format H I A) (hs : List H) (file : List ℕ) (place j cur : ℕ) (done : List I) : Type 0 where
  pub some : j ≤ length hs
  pub count : length done ≡ j
  pub from : place ≤ cur
  pub same : each_read F hs place (drop place file) ≡ onto done (cur - place) (each_read F (drop j hs) cur (drop cur file))

module _ {H I A : Type 0} (F : Format H I A) (hs : List H) (file : List ℕ) (place : ℕ) where
  pub left_start : PartsLeft F hs file place 0 place []
  left_start = record {
    some = omega arith;
    count = refl;
    from = omega arith;
    same = sym (ap (λ (n : ℕ). onto [] n (each_read F hs place (drop place file))) (none place) ∙ onto_none (each_read F hs place (drop place file)));
  }
    where
      none : (n : ℕ) → n - n ≡ 0
      none n = omega arith

  module _ (h : H) (j cur : ℕ) (done : List I) (in_range : j < length hs) (w : PartsLeft F hs file place j cur done) where
    -- one part more, of n bytes
    pub left_on : (i : I) (n : ℕ) → F.read (get_or hs j h) cur (drop cur file) ≡ got i n → PartsLeft F hs file place (j + 1) (cur + n) (done ++ (i ∷ []))
    left_on i n e = record {
      some = omega arith;
      count = length-append done (i ∷ []) ∙ omega (arith, w.count);
      from = omega (arith, w.from);
      same =
          w.same
          ∙ ap (λ (l : List H). onto done (cur - place) (each_read F l cur (drop cur file))) (drop-cons hs j h in_range)
          ∙ ap (onto done (cur - place)) (step _ e refl)
          ∙ onto_more done (cur - place) i n (each_read F (drop (suc j) hs) (cur + n) (drop n (drop cur file)))
          ∙ ap₂ (λ (k : ℕ) (s : List ℕ). onto (done ++ (i ∷ [])) k (each_read F (drop (suc j) hs) (cur + n) s)) (later w.from) (drop-drop n cur file)
          ∙ ap (λ (k : ℕ). onto (done ++ (i ∷ [])) (cur + n - place) (each_read F (drop k hs) (cur + n) (drop (cur + n) file))) (sym (add-one j));
    }
      where
        later : place ≤ cur → cur - place + n ≡ cur + n - place
        later l = omega arith

    -- a refusal is the whole's
    pub left_out : {r : Refusal} → F.read (get_or hs j h) cur (drop cur file) ≡ refused r → each_read F hs place (drop place file) ≡ refused r
    unfolding onto
    left_out e =
        w.same
        ∙ ap (λ (l : List H). onto done (cur - place) (each_read F l cur (drop cur file))) (drop-cons hs j h in_range)
        ∙ ap (onto done (cur - place)) (step_refused _ e)

  -- all are read
  pub left_end : (j cur : ℕ) (done : List I) → length hs ≤ j → PartsLeft F hs file place j cur done
      → each_read F hs place (drop place file) ≡ got done (cur - place)
  unfolding onto
  left_end j cur done h w =
      w.same
      ∙ ap (λ (l : List H). onto done (cur - place) (each_read F l cur (drop cur file))) (drop_of_length-le hs h)
      ∙ ap₂ {C = Got (List I)} got (append-nil done) (whole (cur - place))
    where
      whole : (n : ℕ) → n + 0 ≡ n
      whole n = omega arith
