-- The kind of a file: read as one kind, it is of that kind, by its mark and version. Assumes nothing.
use Prim.Native.Nat.{ℕ}
use mathlib.Core.Bool.{Bool, true, false, ◌&&◌}
use mathlib.Core.List.{List}
use mathlib.Core.Path.{◌≡◌, refl, ap, ◌∙◌}
use lib.Dec.{eqb}
use borrow.Author.Tests.{eqb-true}
use Rattle.xm.specs.ModuleKind.{ModuleKind, normal, stripped, kind_by}
use Rattle.xm.specs.Got.{got}
use Rattle.xm.specs.Header.{mark, version, mark_at, version_at, is_stripped, kind_at, HeaderFound, read_header}
use Rattle.xm.specs.Module.{Found, Content, module_format, read_whole, read_file}
use Rattle.xm.specs.Press.{pressing_as}
use Rattle.xm.specs.Demands.{FileOf, Fits, KindTold, KindsTold}
use Rattle.xm.proofs.Got.{passed, bind_got, got_carry}
use Rattle.xm.proofs.Module.{whole_read}

-- The pair of mark and version of a kind
pub fits_pair : (kind : ModuleKind) (file : List ℕ) → Fits kind file → (mark_at file ≡ mark kind) × (version_at file ≡ version kind)
fits_pair normal file f = f
fits_pair stripped file f = f

pair_fits : (kind : ModuleKind) (file : List ℕ) → mark_at file ≡ mark kind → version_at file ≡ version kind → Fits kind file
pair_fits normal file p q = (p, q)
pair_fits stripped file p q = (p, q)

-- decides
pub kind_by_lem : (kind : ModuleKind) (file : List ℕ) → Fits kind file → kind_at file ≡ kind
unfolding kind_at
kind_by_lem normal file f = rw f.0
kind_by_lem stripped file f = rw (f.0, f.1)

-- and what does not have the stripped pair is normal
pub kind_else : (file : List ℕ) → (Fits stripped file → ⊥) → kind_at file ≡ normal
unfolding kind_at
kind_else file none = go (eqb (mark_at file) (mark stripped)) (eqb (version_at file) (version stripped)) refl refl
  where
    go : (t u : Bool) → eqb (mark_at file) (mark stripped) ≡ t → eqb (version_at file) (version stripped) ≡ u → kind_by (t && u) ≡ normal
    go true true p q = absurd (none (eqb-true (mark_at file) (mark stripped) p, eqb-true (version_at file) (version stripped) q))
    go true false p q = refl
    go false u p q = refl

pub kind_stripped : (file : List ℕ) → kind_at file ≡ kind_by (is_stripped file)
unfolding kind_at
kind_stripped file = refl

-- A module that is read says its kind
header_kind : (kind : ModuleKind) (place : ℕ) (s : List ℕ) (i : HeaderFound) (n : ℕ) → read_header kind place s ≡ got i n → (i.kind ≡ kind) × Fits kind s
unfolding read_header
header_kind kind place s i n e =
    passed _ _ e λ h e.
    got_carry (λ (r : HeaderFound) (u : ℕ). (r.kind ≡ kind) × Fits kind s) e (refl, pair_fits kind s h.1.0 h.1.1.0)

module_kind : (kind : ModuleKind) (file : List ℕ) (found : Found) (end : ℕ) → (module_format kind).read tt 0 file ≡ got found end
    → (found.0.kind ≡ kind) × Fits kind file
module_kind kind file found end e =
    bind_got _ _ e λ i k ei e₁. bind_got _ _ e₁ λ v m ev e₂.
    got_carry (λ (r : Found) (u : ℕ). (r.0.kind ≡ kind) × Fits kind file) e₂ (header_kind kind 0 file i k ei)

pub kind_found : (kind : ModuleKind) (file : List ℕ) (found : Found) (end : ℕ) → (module_format kind).read tt 0 file ≡ got found end → found.0.kind ≡ kind
kind_found kind file found end e = (module_kind kind file found end e).0

pub kind_fits : (kind : ModuleKind) (file : List ℕ) (found : Found) (end : ℕ) → read_whole (module_format kind) file ≡ got found end → Fits kind file
kind_fits kind file found end e = whole_read (module_format kind) file found end e λ h e. (module_kind kind file found end e).1

-- so a file of a kind is read as one
pub kind_reads : (kind : ModuleKind) (file : List ℕ) → Fits kind file → read_file file ≡ read_whole (module_format kind) file
kind_reads kind file f = ap (λ (k : ModuleKind). read_whole (module_format k) file) (kind_by_lem kind file f)

-- By the pair that a file has: mark and version 0, or another
kind_told : (kind : ModuleKind) (file : List ℕ) → kind_at file ≡ kind → KindTold kind file
kind_told kind file is = record {
  is = is;
  reads = ap (λ (k : ModuleKind). read_whole (module_format k) file) is;
  found = λ found end e. whole_read (module_format (kind_at file)) file found end e λ h e. kind_found (kind_at file) file found end e ∙ is;
  presses = λ room. ap (λ (k : ModuleKind). pressing_as (module_format k) file room) is;
}

pub kinds_told : (file : List ℕ) → KindsTold file
kinds_told file = record {
  stripped_so = λ f. kind_told stripped file (kind_by_lem stripped file f);
  normal_else = λ none. kind_told normal file (kind_else file none);
  by_kind = λ kind content f. kind_told kind file (kind_by_lem kind file (file_fits kind content f));
  fits = file_fits;
}
  where
    file_fits : (kind : ModuleKind) (content : Content) → FileOf (module_format kind) content file → Fits kind file
    file_fits kind content f = kind_fits kind file f.found f.end f.reads
