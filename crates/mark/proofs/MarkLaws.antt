-- Laws of the patterns' marks. Assumes nothing.
use Prim.Native.Nat.{ℕ, suc, ◌+◌, ◌/◌, ◌<◌}
use mathlib.Core.Bool.{Bool, true, false, cond, and-eq-true_iff}
use mathlib.Core.List.{List, [], ◌∷◌, ◌++◌}
use mathlib.Core.Path.{◌≡◌, refl, sym, ap, ap₂, ◌∙◌}
use native.Mathlib.Omega.{arith}
use lib.Dec.{eqb, ltb}
use lib.ListN.{length, get_or, set, length-set}
use lib.Seq.{get_or-set_same, get_or-set_other}
use borrow.Author.Tests.{ltb-true, ltb-false, eqb-true, eqb-false}
use Rattle.xm.specs.Number.{part}
use Rattle.xm.specs.Stored.{write_stored}
use Rattle.xm.specs.PatternInFile.{PatternFound}
use Rattle.xm.proofs.Got.{no_true}
use Rattle.xm.proofs.Format.{cons_path}
use Rattle.measure.specs.Measure.{same_bytes}
use Rattle.std.specs.Prelude.{Ok}
use Rattle.mark.specs.declared.Mark.{Mark}
use Rattle.mark.specs.declared.Mark.TheVariants.{Again, Copied, Nothing}
use Rattle.mark.specs.Mark.{number_of, mark_from, mark_by, mark_in, Marked, two_at, with_two, bits_of, pattern_mark, Put, Marks}
use Rattle.mark.proofs.EightLaws.{two_put, two_lower, two_higher}

same_equal : (xs ys : List ℕ) → same_bytes xs ys ≡ true → xs ≡ ys
unfolding same_bytes
same_equal [] [] e = refl
same_equal [] (y ∷ ys) e = absurd (no_true e)
same_equal (x ∷ xs) [] e = absurd (no_true e)
same_equal (x ∷ xs) (y ∷ ys) e =
    let b = (and-eq-true_iff (eqb x y) (same_bytes xs ys)).0 e in cons_path (eqb-true x y b.0) (same_equal xs ys b.1)

-- What a mark tells: that nothing is written, or something, and that the bytes are the shortest form
mark-nothing : (shortest : ℕ) (same : Bool) → mark_by shortest same ≡ Nothing → shortest ≡ 0
mark-nothing shortest same = go (eqb shortest 0) same refl
  where
    go : (none same : Bool) → eqb shortest 0 ≡ none → cond none Nothing (cond same Copied Again) ≡ Nothing → shortest ≡ 0
    go true same q e = eqb-true shortest 0 q
    go false true q e = absurd (cc)
    go false false q e = absurd (cc)

mark-copied : (shortest : ℕ) (same : Bool) → mark_by shortest same ≡ Copied → same ≡ true
mark-copied shortest same = go (eqb shortest 0) same
  where
    go : (none same : Bool) → cond none Nothing (cond same Copied Again) ≡ Copied → same ≡ true
    go true same e = absurd (cc)
    go false true e = refl
    go false false e = absurd (cc)

module _ {file : List ℕ} {i : PatternFound} {mark : Mark} (m : Marked file i mark) where
  abbrev bytes : List ℕ
  bytes = part i.data_place i.data_size file

  abbrev shortest : List ℕ
  shortest = write_stored i.content

  pub marked-nothing : mark ≡ Nothing → length shortest ≡ 0
  marked-nothing e = mark-nothing (length shortest) (same_bytes bytes shortest) (sym m.is ∙ e)

  pub marked_some : (mark ≡ Nothing → ⊥) → length shortest ≡ 0 → ⊥
  marked_some some z = some (m.is ∙ ap (λ (n : ℕ). mark_by n (same_bytes bytes shortest)) z)

  pub marked-copied : mark ≡ Copied → bytes ≡ shortest
  marked-copied e = same_equal bytes shortest (mark-copied (length shortest) (same_bytes bytes shortest) (sym m.is ∙ e))

-- A mark's number takes two bits, and tells the mark
pub mark-small : (mark : Mark) → number_of mark < 4
mark-small Again = omega arith
mark-small Copied = omega arith
mark-small Nothing = omega arith

pub mark_back : (mark : Mark) → mark_from (number_of mark) ≡ Ok mark
mark_back Again = refl
mark_back Copied = refl
mark_back Nothing = refl

-- A pattern's mark, found among the others by its number
pub mark_found : (file marks : List ℕ) (i : PatternFound) (first : ℕ) {number : ℕ} → number ≡ pattern_mark marks first
    → pattern_mark marks first ≡ number_of (mark_in file i) → mark_from number ≡ Ok (mark_in file i)
mark_found file marks i first e is = ap mark_from (e ∙ is) ∙ mark_back (mark_in file i)

-- A mark by the step's numbers
pub mark_told : (file : List ℕ) (i : PatternFound) {shortest : ℕ} {mark : Mark} {same : Bool} → shortest ≡ length (write_stored i.content)
    → same ≡ same_bytes (part i.data_place i.data_size file) (write_stored i.content) → mark ≡ mark_by shortest same → Marked file i mark
mark_told file i q r m = record { is = m ∙ ap₂ mark_by q r }

-- An eight's two bits are put; the others of the eight stay, and so do the other eights
module _ (marks : List ℕ) (number mark : ℕ) (small : mark < 4) (inside : number / 32 < length marks) where
  abbrev eight : ℕ
  eight = with_two (get_or marks (number / 32) 0) (bits_of number) mark

  there : get_or (set marks (number / 32) eight) (number / 32) 0 ≡ eight
  there = get_or-set_same marks (number / 32) eight 0 inside

  kept : (other : ℕ) → (other ≡ number → ⊥) → pattern_mark (set marks (number / 32) eight) other ≡ pattern_mark marks other
  kept other apart = go (eqb (other / 32) (number / 32)) refl
    where
      stays : (below : Bool) → ltb other number ≡ below → other / 32 ≡ number / 32
          → two_at eight (bits_of other) ≡ two_at (get_or marks (number / 32) 0) (bits_of other)
      stays true l q = two_lower _ _ _ small (bits_of other) (omega (arith, ltb-true other number l))
      stays false l q = two_higher _ _ _ small (bits_of other) (omega (arith, ltb-false other number l, apart))

      go : (same : Bool) → eqb (other / 32) (number / 32) ≡ same → pattern_mark (set marks (number / 32) eight) other ≡ pattern_mark marks other
      go false e = ap (λ (n : ℕ). two_at n (bits_of other)) (get_or-set_other marks (number / 32) (other / 32) eight 0 (eqb-false _ _ e))
      go true e = let q = eqb-true (other / 32) (number / 32) e in rw (q, there) (stays (ltb other number) refl q)

  pub mark_put : Put marks number mark (set marks (number / 32) eight)
  mark_put = record { size = length-set marks (number / 32) eight; put = ap (λ (n : ℕ). two_at n (bits_of number)) there ∙ two_put _ _ _ small; kept = kept }

-- One more mark, behind those of the patterns that were read
pub marks_more : (file : List ℕ) (first : ℕ) (done : List PatternFound) {marks after : List ℕ} {i : PatternFound} {number : ℕ} {mark : Mark}
    → number ≡ first + length done → Put marks number (number_of mark) after
    → Marks file first done marks → Marked file i mark → Marks file first (done ++ (i ∷ [])) after
marks_more file first [] {after = after} e p m t = (ap (pattern_mark after) (omega arith) ∙ p.put ∙ ap number_of t.is, tt)
marks_more file first (d ∷ done) e p m t =
    (p.kept first (λ q. omega arith) ∙ m.0, marks_more file (suc first) done (omega arith) p m.1 t)
