-- Laws of bytes that are cut off and read as 0: filling up, trimming, and that no shorter cut reads the same. Assumes nothing.
use Prim.Native.Nat.{ℕ, zero, suc, ◌+◌, ◌-◌, ◌*◌, ◌≤◌, ◌<◌}
use mathlib.Core.Bool.{Bool, true, false, cond}
use mathlib.Core.List.{List, [], ◌∷◌, ◌++◌}
use mathlib.Core.Path.{◌≡◌, refl, sym, ap, ◌∙◌}
use native.Mathlib.Omega.{arith}
use lib.Dec.{ltb}
use borrow.Author.Tests.{ltb-true, ltb-false}
use lib.ListN.{length, get_or, take, drop, replicate, length-append, length-take, get_or-eq_default}
use lib.Seq.{drop-nil, get_or-take, take-take}
use Rattle.xm.specs.Number.{Bytes, byte_at, word_at, long_at}
use Rattle.xm.specs.ModuleKind.{padded, before, trimmed}
use Rattle.xm.specs.Answer.{in_front}
use Rattle.xm.proofs.Number.{bytes_nil, bytes_cons, bytes_tail, take-drop}
use Rattle.xm.proofs.Format.{cons_path}

-- Filled up to a width
pub padded-length : (width : ℕ) (s : List ℕ) → length (padded width s) ≡ width
unfolding padded
padded-length zero s = refl
padded-length (suc width) [] = ap suc (padded-length width [])
padded-length (suc width) (b ∷ s) = ap suc (padded-length width s)

pub padded_bytes : (width : ℕ) {s : List ℕ} → Bytes s → Bytes (padded width s)
unfolding padded
padded_bytes zero h = bytes_nil
padded_bytes (suc width) {s = []} h = bytes_cons (omega arith) (padded_bytes width h)
padded_bytes (suc width) {s = b ∷ s} h = bytes_cons (h.below 0) (padded_bytes width (bytes_tail h))

pub padded-append : (width : ℕ) (s t : List ℕ) → padded (length s + width) (s ++ t) ≡ s ++ padded width t
unfolding padded
padded-append width [] t = ap (λ (n : ℕ). padded n t) (plus width)
  where
    plus : (n : ℕ) → 0 + n ≡ n
    plus n = omega arith
padded-append width (b ∷ s) t = ap (λ (n : ℕ). padded n (b ∷ s ++ t)) (more (length s)) ∙ cons_path refl (padded-append width s t)
  where
    more : (n : ℕ) → suc n + width ≡ suc (n + width)
    more n = omega arith

pub padded_all : (s : List ℕ) → padded (length s) s ≡ s
unfolding padded
padded_all [] = refl
padded_all (b ∷ s) = cons_path refl (padded_all s)

-- the first bytes are those that are there
none_at : (i : ℕ) → get_or {A = ℕ} [] i 0 ≡ 0
none_at zero = refl
none_at (suc i) = refl

pub padded_at : (width i : ℕ) (s : List ℕ) → i < width → get_or (padded width s) i 0 ≡ get_or s i 0
unfolding padded
padded_at zero i s h = absurd (omega arith)
padded_at (suc width) zero [] h = refl
padded_at (suc width) zero (b ∷ s) h = refl
padded_at (suc width) (suc i) [] h = padded_at width i [] (omega arith) ∙ none_at i
padded_at (suc width) (suc i) (b ∷ s) h = padded_at width i s (omega arith)

pub word-padded : (width offset : ℕ) (s : List ℕ) → offset + 2 ≤ width → word_at offset (padded width s) ≡ word_at offset s
unfolding word_at
word-padded width offset s h = rw (padded_at width offset s (omega arith), padded_at width (offset + 1) s (omega arith))

pub long-padded : (width offset : ℕ) (s : List ℕ) → offset + 4 ≤ width → long_at offset (padded width s) ≡ long_at offset s
unfolding long_at
long-padded width offset s h =
    let byte = padded_at width in
    rw (byte offset s (omega arith), byte (offset + 1) s (omega arith), byte (offset + 2) s (omega arith), byte (offset + 3) s (omega arith))

-- and from the cut on they are 0
pub byte_cut : (size offset : ℕ) (s : List ℕ) → byte_at offset (take size s) ≡ cond (ltb offset size) (byte_at offset s) 0
byte_cut size offset s = go (ltb offset size) refl
  where
    go : (t : Bool) → ltb offset size ≡ t → byte_at offset (take size s) ≡ cond t (byte_at offset s) 0
    go true q = get_or-take size s offset 0 (ltb-true offset size q)
    go false q = get_or-eq_default (take size s) 0 (omega (arith, ltb-false, length-take size s))

pub padded-long : (width : ℕ) (s : List ℕ) → width ≤ length s → padded width s ≡ take width s
unfolding padded
padded-long zero s h = refl
padded-long (suc width) [] h = absurd (omega arith)
padded-long (suc width) (b ∷ s) h = cons_path refl (padded-long width s (omega arith))

pub take-padded : (n width : ℕ) (s : List ℕ) → n ≤ width → take n (padded width s) ≡ padded n s
unfolding padded
take-padded zero width s h = refl
take-padded (suc n) zero s h = absurd (omega arith)
take-padded (suc n) (suc width) [] h = cons_path refl (take-padded n width [] (omega arith))
take-padded (suc n) (suc width) (b ∷ s) h = cons_path refl (take-padded n width s (omega arith))

-- Of a structure of `size` bytes, the front and what stands from an offset on
pub front_padded : (n width size : ℕ) (s : List ℕ) → n ≤ width → n ≤ size → size ≤ length s → take n (padded width (take size s)) ≡ take n s
front_padded n width size s h l m =
    take-padded n width (take size s) h ∙ padded-long n (take size s) (omega (arith, length-take size s)) ∙ take-take n size s l

pub drop-take : (from size : ℕ) (s : List ℕ) → from ≤ size → drop from (take size s) ≡ take (size - from) (drop from s)
drop-take from size s h = let n : size ≡ from + (size - from) = omega arith in ap (λ (k : ℕ). drop from (take k s)) n ∙ sym (take-drop (size - from) from s)

-- Filled up from zeros: with nothing in front, and with no more bytes than there are zeros
pub padded_none : (n : ℕ) → padded n [] ≡ replicate n 0
unfolding padded
padded_none zero = refl
padded_none (suc n) = cons_path refl (padded_none n)

pub padded_zeros : (n : ℕ) (s : List ℕ) → length s ≤ n → in_front s (replicate n 0) ≡ padded n s
unfolding padded
padded_zeros n [] h = sym (padded_none n)
padded_zeros zero (b ∷ s) h = absurd (omega arith)
padded_zeros (suc n) (b ∷ s) h = cons_path refl (padded_zeros n s (omega arith))

pub padded-drop : (k width : ℕ) (s : List ℕ) → drop k (padded (k + width) s) ≡ padded width (drop k s)
unfolding padded
padded-drop zero width s = ap (λ (n : ℕ). padded n s) (plus width)
  where
    plus : (n : ℕ) → 0 + n ≡ n
    plus n = omega arith
padded-drop (suc k) width [] = ap (λ (n : ℕ). drop (suc k) (padded n [])) (more k) ∙ padded-drop k width [] ∙ ap (padded width) (drop-nil k)
  where
    more : (n : ℕ) → suc n + width ≡ suc (n + width)
    more n = omega arith
padded-drop (suc k) width (b ∷ s) = ap (λ (n : ℕ). drop (suc k) (padded n (b ∷ s))) (more k) ∙ padded-drop k width s
  where
    more : (n : ℕ) → suc n + width ≡ suc (n + width)
    more n = omega arith

-- Trimmed, they read the same
before_padded : (width byte : ℕ) (s : List ℕ) → padded (suc width) (before byte s) ≡ byte ∷ padded width s
unfolding padded before
before_padded width zero [] = refl
before_padded width zero (b ∷ s) = refl
before_padded width (suc byte) s = refl

pub trimmed-padded : (width : ℕ) (s : List ℕ) → padded width (trimmed s) ≡ padded width s
unfolding padded trimmed
trimmed-padded zero s = refl
trimmed-padded (suc width) [] = refl
trimmed-padded (suc width) (b ∷ s) = before_padded width b (trimmed s) ∙ cons_path refl (trimmed-padded width s)

before_bytes : (byte : ℕ) (s : List ℕ) → byte < 256 → Bytes s → Bytes (before byte s)
unfolding before
before_bytes zero [] l h = bytes_nil
before_bytes zero (b ∷ s) l h = bytes_cons l h
before_bytes (suc byte) s l h = bytes_cons l h

pub trimmed_bytes : {s : List ℕ} → Bytes s → Bytes (trimmed s)
unfolding trimmed
trimmed_bytes {s = []} h = h
trimmed_bytes {s = b ∷ s} h = before_bytes b (trimmed s) (h.below 0) (trimmed_bytes (bytes_tail h))

-- in no more bytes than there are of them, zeros left out
pub before_le : (byte : ℕ) (s : List ℕ) → length (before byte s) ≤ suc (length s)
unfolding before
before_le zero [] = omega arith
before_le zero (b ∷ s) = omega arith
before_le (suc byte) s = omega arith

pub trimmed_le : (s : List ℕ) → length (trimmed s) ≤ length s
unfolding trimmed
trimmed_le [] = omega arith
trimmed_le (b ∷ s) = omega (arith, before_le b (trimmed s), trimmed_le s)

zeros_trimmed : (width : ℕ) → trimmed (padded width []) ≡ []
unfolding padded trimmed before
zeros_trimmed zero = refl
zeros_trimmed (suc width) = ap (before 0) (zeros_trimmed width)

pub padded-trimmed : (width : ℕ) (s : List ℕ) → length (trimmed (padded width s)) ≤ length s
unfolding padded trimmed before
padded-trimmed zero s = omega arith
padded-trimmed (suc width) [] = rw (zeros_trimmed width) (omega arith)
padded-trimmed (suc width) (b ∷ s) = omega (arith, before_le b (trimmed (padded width s)), padded-trimmed width s)

-- A cut that is no shorter reads the same: for one H over all sample headers
before_ge : (byte : ℕ) (s : List ℕ) → length s ≤ length (before byte s) - 1
unfolding before
before_ge zero [] = omega arith
before_ge zero (b ∷ s) = omega arith
before_ge (suc byte) s = omega arith

pub cut_same : (s : List ℕ) (kept : ℕ) → length (trimmed s) ≤ kept → padded (length s) (take kept s) ≡ s
unfolding padded trimmed before
cut_same [] kept h = refl
cut_same (zero ∷ s) zero h = cons_path refl (cut_same s 0 (omega (arith, before_ge 0 (trimmed s))))
cut_same (suc b ∷ s) zero h = absurd (omega arith)
cut_same (b ∷ s) (suc kept) h = cons_path refl (cut_same s kept (omega (arith, before_ge b (trimmed s))))

-- Behind the same bytes, what is trimmed shorter stays shorter
before_mono : (byte : ℕ) (s t : List ℕ) → length s ≤ length t → length (before byte s) ≤ length (before byte t)
unfolding before
before_mono zero [] [] h = omega arith
before_mono zero [] (b ∷ t) h = omega arith
before_mono zero (a ∷ s) [] h = absurd (omega arith)
before_mono zero (a ∷ s) (b ∷ t) h = omega arith
before_mono (suc byte) s t h = omega arith

pub trimmed_mono : (front s t : List ℕ) → length (trimmed s) ≤ length (trimmed t) → length (trimmed (front ++ s)) ≤ length (trimmed (front ++ t))
unfolding trimmed
trimmed_mono [] s t h = h
trimmed_mono (b ∷ front) s t h = before_mono b (trimmed (front ++ s)) (trimmed (front ++ t)) (trimmed_mono front s t h)

-- A number below 256 in four bytes, before the same rest: no longer than one that is no smaller
before_more : (byte b : ℕ) (s : List ℕ) → before byte (b ∷ s) ≡ byte ∷ b ∷ s
unfolding before
before_more zero b s = refl
before_more (suc byte) b s = refl

before_some : (byte : ℕ) (s : List ℕ) → 1 ≤ byte + length s → 1 ≤ length (before byte s)
unfolding before
before_some zero [] h = absurd (omega arith)
before_some zero (b ∷ s) h = omega arith
before_some (suc byte) s h = omega arith

four_mono : (h a b c d : ℕ) (t : List ℕ) → h ≤ a + 256 * b + 65536 * c + 16777216 * d
    → length (before h (before 0 (before 0 (before 0 t)))) ≤ length (before a (before b (before c (before d t))))
unfolding before
four_mono zero a b c d [] l = omega arith
four_mono (suc h) a b c d [] l = one d c b a l
  where
    one : (d c b a : ℕ) → suc h ≤ a + 256 * b + 65536 * c + 16777216 * d → 1 ≤ length (before a (before b (before c (before d []))))
    one (suc d) c b a l = before_some a _ (omega (arith, before_some b (before c (suc d ∷ [])) (omega (arith, before_some c (suc d ∷ []) (omega arith)))))
    one zero (suc c) b a l = before_some a _ (omega (arith, before_some b (suc c ∷ []) (omega arith)))
    one zero zero (suc b) a l = before_some a _ (omega arith)
    one zero zero zero a l = before_some a [] (omega arith)
four_mono h a b c d (y ∷ t) l = simp (before_more) (omega arith)

pub trimmed_four : (h a b c d : ℕ) (t : List ℕ) → h ≤ a + 256 * b + 65536 * c + 16777216 * d
    → length (trimmed (h ∷ 0 ∷ 0 ∷ 0 ∷ t)) ≤ length (trimmed (a ∷ b ∷ c ∷ d ∷ t))
unfolding trimmed
trimmed_four h a b c d t l = four_mono h a b c d (trimmed t) l

-- For code that measures from the end: a zero at the end is cut off, and before any other byte nothing is
pub trimmed-zero : (s : List ℕ) → trimmed (s ++ (0 ∷ [])) ≡ trimmed s
unfolding trimmed before
trimmed-zero [] = refl
trimmed-zero (b ∷ s) = ap (before b) (trimmed-zero s)

before_long : (byte : ℕ) (s : List ℕ) → 1 ≤ length s → before byte s ≡ byte ∷ s
before_long byte [] h = absurd (omega arith)
before_long byte (b ∷ s) h = before_more byte b s

pub trimmed_some : (s : List ℕ) (byte : ℕ) → 1 ≤ byte → trimmed (s ++ (byte ∷ [])) ≡ s ++ (byte ∷ [])
unfolding trimmed before
trimmed_some [] zero h = absurd (omega arith)
trimmed_some [] (suc byte) h = refl
trimmed_some (b ∷ s) byte h =
    ap (before b) (trimmed_some s byte h) ∙ before_long b (s ++ (byte ∷ [])) (omega (arith, length-append s (byte ∷ [])))

-- and what is written are the first bytes
pub trimmed-take : (s : List ℕ) → trimmed s ≡ take (length (trimmed s)) s
unfolding trimmed before
trimmed-take [] = refl
trimmed-take (b ∷ s) = before_take b s (trimmed s) (trimmed-take s)
  where
    before_take : (b : ℕ) (s t : List ℕ) → t ≡ take (length t) s → before b t ≡ take (length (before b t)) (b ∷ s)
    before_take zero s [] e = refl
    before_take zero s (c ∷ t) e = cons_path refl e
    before_take (suc b) s t e = cons_path refl e
