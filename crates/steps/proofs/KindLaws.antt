-- Laws of the kind of a module that a file is. Assumes nothing.
use Prim.Native.Nat.{ℕ}
use mathlib.Core.Bool.{Bool, ◌&&◌}
use mathlib.Core.List.{List}
use mathlib.Core.Path.{◌≡◌, sym, ap, ap₂, ◌∙◌}
use lib.Dec.{eqb}
use borrow.Author.Tests.{eq-eqb, ne_eqb}
use lib.ListN.{length, take, drop}
use lib.Seq.{take-length}
use Rattle.xm.specs.Number.{byte_at, word_at}
use Rattle.xm.specs.ModuleKind.{normal, stripped, kind_by}
use Rattle.xm.specs.Header.{kind_at}
use Rattle.slices.specs.Number.{Byte, Word}

-- By the mark, and where it is 0 by the version
module _ (file : List ℕ) {mark : ℕ} (m : Byte 37 (take (length file) (drop 0 file)) mark) where
  kind_by_mark : kind_by (eqb mark 0 && eqb (word_at 58 file) 0) ≡ kind_at file
  unfolding kind_at
  kind_by_mark = ap (λ (a : ℕ). kind_by (eqb a 0 && eqb (word_at 58 file) 0)) (m.value ∙ ap (byte_at 37) (take-length file))

  pub mark_above : (mark ≡ 0 → ⊥) → normal ≡ kind_at file
  mark_above f = ap (λ (a : Bool). kind_by (a && eqb (word_at 58 file) 0)) (sym (ne_eqb mark 0 f)) ∙ kind_by_mark

  module _ {version : ℕ} (v : Word 58 (take (length file) (drop 0 file)) version) where
    kind_by_both : kind_by (eqb mark 0 && eqb version 0) ≡ kind_at file
    kind_by_both = ap (λ (b : ℕ). kind_by (eqb mark 0 && eqb b 0)) (v.value ∙ ap (word_at 58) (take-length file)) ∙ kind_by_mark

    pub both_zero : mark ≡ 0 → version ≡ 0 → stripped ≡ kind_at file
    both_zero e f = cc (kind_by_both, e, f)

    pub version_above : mark ≡ 0 → (version ≡ 0 → ⊥) → normal ≡ kind_at file
    version_above e f = ap₂ (λ (a b : Bool). kind_by (a && b)) (sym (eq-eqb mark 0 e)) (sym (ne_eqb version 0 f)) ∙ kind_by_both
