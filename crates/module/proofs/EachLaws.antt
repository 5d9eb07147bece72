-- A run of parts of one format, each written within another of the same content, into what remains of the output. Assumes nothing.
use Prim.Native.Nat.{ℕ, zero, suc, ◌+◌, ◌-◌, ◌≤◌, ◌<◌}
use mathlib.Core.List.{List, [], ◌∷◌, ◌++◌}
use mathlib.Core.Path.{◌≡◌, refl, sym, ap, ◌∙◌}
use native.Mathlib.Omega.{arith}
use lib.ListN.{length, take, drop, replicate, length-append}
use lib.Seq.{drop-drop}
use borrow.Rule.Slice.PartMut.{put_mid}
use Rattle.xm.specs.Got.{got, list_in}
use Rattle.xm.specs.Format.{Format, each}
use Rattle.xm.specs.Answer.{in_front}
use Rattle.xm.proofs.Got.{bind_got, got_value, got_used, got_carry}
use Rattle.xm.proofs.Lay.{Laid, laid_none, laid_part, laid_done, laid_long}
use Rattle.writers.specs.Found.{read_at, written_at, end_of}

module _ {H I A : Type 0} (F G : Format H I A) (h : H) (file lent goal : List ℕ) (end : ℕ) where
  -- The state of the loop: `left` parts are still to be read, from `place` on, up to `end`, and written, `rest` in all
  pub record EachLeft (left place : ℕ) (out : List ℕ) (to : ℕ) (rest : List I) : Type 0 where
    pub used : ℕ
    pub reads : read_at (each F) (replicate left h) file place ≡ got rest used
    pub ends : place + used ≡ end
    pub laid : Laid lent goal out to ((each G).write ((each F).view rest))

  -- The first of them
  pub record FirstLeft (left place : ℕ) (rest : List I) (used : ℕ) : Type 0 where
    pub part : I
    pub size : ℕ
    pub later : List I
    pub others : ℕ
    pub read : read_at F h file place ≡ got part size
    pub first : rest ≡ part ∷ later
    pub sum : used ≡ size + others
    pub reads : read_at (each F) (replicate (left - 1) h) file (place + size) ≡ got later others

  first_left : (left place : ℕ) {rest : List I} {used : ℕ} → 0 < left → read_at (each F) (replicate left h) file place ≡ got rest used
      → FirstLeft left place rest used
  first_left zero place some e = absurd (omega arith)
  first_left (suc left) place some e =
      bind_got (F.read h place (drop place file)) _ e λ i n ei e₁.
      bind_got ((each F).read (replicate left h) (place + n) (drop n (drop place file))) _ e₁ λ is m es e₂.
      let less : suc left - 1 ≡ left = omega arith in
      record {
        part = i;
        size = n;
        later = is;
        others = m;
        read = ei;
        first = sym (got_value e₂);
        sum = sym (got_used e₂);
        reads = rw (less, ← drop-drop n place file) es;
      }

  module _ {left place : ℕ} {out : List ℕ} {to : ℕ} {rest : List I} (w : EachLeft left place out to rest) where
    pub each_done : left ≡ 0 → out ≡ in_front goal lent
    each_done z = laid_done w.laid (got_carry (λ (is : List I) (n : ℕ). (each G).write ((each F).view is) ≡ []) (rw z at w.reads) refl)

    pub each_end : left ≡ 0 → (place ≡ end) × (to ≡ length goal)
    each_end z =
        let none = rw z at w.reads in
        (omega (arith, w.ends, got_used none), laid_long w.laid (got_carry (λ (is : List I) (n : ℕ). (each G).write ((each F).view is) ≡ []) none refl))

    module _ (some : 0 < left) where
      pub each_first : FirstLeft left place rest w.used
      each_first = first_left left place some w.reads

      written : written_at F G h file place ≡ G.write (F.view each_first.part)
      written = ap (list_in (λ (i : I). G.write (F.view i))) each_first.read

      split : (each G).write ((each F).view rest) ≡ written_at F G h file place ++ (each G).write ((each F).view each_first.later)
      split =
          ap (λ (is : List I). (each G).write ((each F).view is)) each_first.first
          ∙ ap (λ (l : List ℕ). l ++ (each G).write ((each F).view each_first.later)) (sym written)

      pub each_room : to + length (written_at F G h file place) ≤ length out
      each_room = omega (arith, w.laid.room, ap length split ∙ length-append (written_at F G h file place) _)

      -- It is written, into what remains
      pub each_more : {next size : ℕ} {left' : List ℕ} → next ≡ place + each_first.size → size ≡ length (written_at F G h file place)
          → left' ≡ in_front (written_at F G h file place) (take (length out - to) (drop to out))
          → EachLeft (left - 1) next (put_mid to (length out - to) out left') (to + size) each_first.later
      each_more n z e = rw n (record {
        used = each_first.others;
        reads = each_first.reads;
        ends = omega (arith, w.ends, each_first.sum);
        laid = laid_part w.laid (written_at F G h file place) _ split refl (omega arith) e;
      })

-- None is written yet
pub each_none : {H I A : Type 0} (F G : Format H I A) (h : H) (file lent : List ℕ) (count at : ℕ) (is : List I) (used : ℕ)
    → read_at (each F) (replicate count h) file at ≡ got is used
    → length (written_at (each F) (each G) (replicate count h) file at) ≤ length lent
    → EachLeft F G h file lent (written_at (each F) (each G) (replicate count h) file at)
    (end_of at (read_at (each F) (replicate count h) file at)) count at lent 0 is
each_none F G h file lent count at is used e room = record {
  used = used;
  reads = e;
  ends = sym (ap (end_of at) e);
  laid =
      rw (← ap (list_in (λ (is : List _). (each G).write ((each F).view is))) e)
      (laid_none lent (written_at (each F) (each G) (replicate count h) file at) room);
}
