-- Laws of what is left of bytes without the zeros at their end. Assumes nothing.
use Prim.Native.Nat.{ℕ, zero, suc, ◌+◌, ◌-◌, ◌*◌, ◌≤◌, ◌<◌, min, max}
use mathlib.Core.Bool.{Bool, true, false}
use mathlib.Core.List.{List, [], ◌∷◌, ◌++◌}
use Rattle.std.proofs.lemmas.Bool.{leb-true, leb-false}
use lib.Dec.{leb}
use mathlib.Core.Path.{◌≡◌, refl, sym, ap, ◌∙◌}
use native.Mathlib.Nat.{add-zero, add-mul, one-mul}
use native.Mathlib.Omega.{arith}
use lib.ListN.{length, get_or, take, drop, length-take, drop_of_length-le}
use lib.Seq.{take-suc, take-take, take-nil, drop-drop}
use Rattle.std.proofs.lemmas.List.{nil_from_length, take_all}
use Rattle.xm.specs.Number.{part}
use Rattle.xm.specs.ModuleKind.{padded, before, trimmed}
use Rattle.xm.specs.Sample.{least_head, head_bytes, smallest_head}
use Rattle.xm.proofs.Cut.{padded-drop, take-padded, drop-take, trimmed_le, trimmed-zero, trimmed_some}
use Rattle.ahead.specs.Ahead.{eight_at}
use Rattle.heads.specs.Sample.{heads_from}

-- One byte after the other, from the end: those before, and the last
one_more_lem : (last : ℕ) (bytes : List ℕ) → last + 1 ≤ length bytes → take (last + 1) bytes ≡ take last bytes ++ (get_or bytes last 0 ∷ [])
one_more_lem last bytes h =
    let n : last + 1 ≡ suc last = omega arith in
    ap (λ (k : ℕ). take k bytes) n ∙ take-suc bytes last 0 (omega arith)

-- and without the zeros behind, as many are left of those before as of all
pub record KeptLeft (bytes : List ℕ) (left : ℕ) : Type 0 where
  pub inside : left ≤ length bytes
  pub same : length (trimmed (take left bytes)) ≡ length (trimmed bytes)

module _ {bytes : List ℕ} {left : ℕ} (w : KeptLeft bytes left) where
  pub kept_none : left ≡ 0 → 0 ≡ length (trimmed bytes)
  unfolding trimmed
  kept_none z = sym (ap (λ (n : ℕ). length (trimmed (take n bytes))) z) ∙ w.same

  module _ (some : 0 < left) where
    split : take left bytes ≡ take (left - 1) bytes ++ (get_or bytes (left - 1) 0 ∷ [])
    split =
        let n : left ≡ left - 1 + 1 = omega arith in
        ap (λ (n : ℕ). take n bytes) n ∙ one_more_lem (left - 1) bytes (omega (arith, w.inside))

    pub kept-zero : get_or bytes (left - 1) 0 ≡ 0 → KeptLeft bytes (left - 1)
    kept-zero z =
        let zero_last = split ∙ ap (λ (b : ℕ). take (left - 1) bytes ++ (b ∷ [])) z in
        record {
          inside = omega (arith, w.inside);
          same = ap length (sym (ap trimmed zero_last ∙ trimmed-zero (take (left - 1) bytes))) ∙ w.same;
        }

    pub kept_some : (get_or bytes (left - 1) 0 ≡ 0 → ⊥) → left ≡ length (trimmed bytes)
    kept_some z =
        let long : length (take left bytes) ≡ left = length-take left bytes ∙ omega (arith, w.inside) in
        let all : trimmed (take left bytes) ≡ take left bytes =
        ap trimmed split ∙ trimmed_some (take (left - 1) bytes) (get_or bytes (left - 1) 0) (omega arith) ∙ sym split in
        sym (ap length all ∙ long) ∙ w.same

-- so many zeros; and eight bytes that are one number, 0
pub zeros_kept : {bytes : List ℕ} {left : ℕ} → KeptLeft bytes left → (n : ℕ) → n ≤ left
    → ((i : ℕ) → i < n → get_or bytes (left - n + i) 0 ≡ 0) → KeptLeft bytes (left - n)
zeros_kept {left = left} w zero h z = let n : left ≡ left - 0 = omega arith in rw n at w
zeros_kept {bytes} {left} w (suc n) h z =
    let later = zeros_kept w n (omega arith) (λ i l.
    let p : left - n + i ≡ left - suc n + (i + 1) = omega arith in
    ap (λ (k : ℕ). get_or bytes k 0) p ∙ z (i + 1) (omega arith)) in
    let p : left - n - 1 ≡ left - suc n + 0 = omega arith in
    let k : left - n - 1 ≡ left - suc n = omega arith in
    rw k at (kept-zero later (omega arith) (ap (λ (k : ℕ). get_or bytes k 0) p ∙ z 0 (omega arith)))

eight_zeros : (bytes : List ℕ) (place : ℕ) → eight_at bytes place ≡ 0 → (i : ℕ) → i < 8 → get_or bytes (place + i) 0 ≡ 0
eight_zeros bytes place e zero h = ap (λ (k : ℕ). get_or bytes k 0) (add-zero place) ∙ omega arith
eight_zeros bytes place e (suc zero) h = omega arith
eight_zeros bytes place e (suc (suc zero)) h = omega arith
eight_zeros bytes place e (suc (suc (suc zero))) h = omega arith
eight_zeros bytes place e (suc (suc (suc (suc zero)))) h = omega arith
eight_zeros bytes place e (suc (suc (suc (suc (suc zero))))) h = omega arith
eight_zeros bytes place e (suc (suc (suc (suc (suc (suc zero)))))) h = omega arith
eight_zeros bytes place e (suc (suc (suc (suc (suc (suc (suc zero))))))) h = omega arith
eight_zeros bytes place e (suc (suc (suc (suc (suc (suc (suc (suc i)))))))) h = absurd (omega arith)

pub eight_kept : {bytes : List ℕ} {left : ℕ} → KeptLeft bytes left → 8 ≤ left → eight_at bytes (left - 8) ≡ 0 → KeptLeft bytes (left - 8)
eight_kept {bytes} {left} w h e = zeros_kept w 8 h (eight_zeros bytes (left - 8) e)

-- Of a structure that is cut off
module _ (file : List ℕ) (at size from to : ℕ) where
  abbrev cut : List ℕ
  cut = take size (drop at file)

  abbrev KeptIn : ℕ → Type 0
  KeptIn kept = (kept ≡ length (trimmed (part from (to - from) cut))) × (kept ≤ to - from)

  -- so many bytes are the file's own
  kept_of : {own : List ℕ} {kept : ℕ} → own ≡ part from (to - from) cut → kept ≡ length (trimmed own) → KeptIn kept
  kept_of {own} {kept} p e =
      let same : kept ≡ length (trimmed (part from (to - from) cut)) = e ∙ ap (λ (s : List ℕ). length (trimmed s)) p in
      (same, omega (arith, trimmed_le (part from (to - from) cut), length-take (to - from) (drop from cut)))

  pub kept_past : size ≤ from → KeptIn 0
  unfolding trimmed
  kept_past h = (
    sym
        (ap (λ (l : List ℕ). length (trimmed (take (to - from) l))) (drop_of_length-le cut {i = from} (omega (arith, length-take size (drop at file))))
        ∙ ap (λ (l : List ℕ). length (trimmed l)) (take-nil (to - from))),
    omega arith,
  )

  kept_whole : from ≤ to → to < size → {kept : ℕ} → kept ≡ length (trimmed (part (at + from) (to - from) file)) → KeptIn kept
  kept_whole l h e =
      kept_of
      (sym
      (ap (take (to - from)) (drop-take from size (drop at file) (omega arith))
      ∙ take-take (to - from) (size - from) (drop from (drop at file)) (omega arith)
      ∙ ap (take (to - from)) (drop-drop from at file)))
      e

  kept_end : from < size → size ≤ to → {kept : ℕ} → kept ≡ length (trimmed (part (at + from) (size - from) file)) → KeptIn kept
  kept_end h l e =
      kept_of
      (sym
      (ap (take (to - from)) (drop-take from size (drop at file) (omega arith))
      ∙ take_all (to - from) (take (size - from) (drop from (drop at file))) (omega (arith, length-take (size - from) (drop from (drop at file))))
      ∙ ap (take (size - from)) (drop-drop from at file)))
      e

  -- whichever comes first
  pub kept_least : from ≤ to → from < size → {width kept : ℕ} → width ≡ min size to - from → kept ≡ length (trimmed (part (at + from) width file))
      → KeptIn kept
  kept_least l h {width} {kept} m e = go (leb size to) refl
    where
      counted : {n : ℕ} → width ≡ n → kept ≡ length (trimmed (part (at + from) n file))
      counted q = e ∙ ap (λ (n : ℕ). length (trimmed (part (at + from) n file))) q

      go : (ends : Bool) → leb size to ≡ ends → KeptIn kept
      go true q = let low = leb-true size to q in kept_end h low (counted (omega arith))
      go false q = let high = leb-false size to q in kept_whole l high (counted (omega arith))

-- Filled up with zeros, bytes are trimmed to the same
zeros : (width : ℕ) → trimmed (padded width []) ≡ []
unfolding padded trimmed before
zeros zero = refl
zeros (suc width) = ap (before 0) (zeros width)

padded_cut : (width : ℕ) (s : List ℕ) → trimmed (padded width s) ≡ trimmed (take width s)
unfolding padded trimmed
padded_cut zero s = refl
padded_cut (suc width) [] = zeros (suc width)
padded_cut (suc width) (b ∷ s) = ap (before b) (padded_cut width s)

pub part-padded : (from count width : ℕ) (s : List ℕ) → count ≤ width → trimmed (part from count (padded (from + width) s)) ≡ trimmed (part from count s)
part-padded from count width s h =
    ap (λ (l : List ℕ). trimmed (take count l)) (padded-drop from width s)
    ∙ ap trimmed (take-padded count width (drop from s) h)
    ∙ padded_cut count (drop from s)

-- Behind other bytes
before_long : (byte : ℕ) (s : List ℕ) → 1 ≤ length s → before byte s ≡ byte ∷ s
unfolding before
before_long zero [] h = absurd (omega arith)
before_long (suc byte) [] h = absurd (omega arith)
before_long zero (b ∷ s) h = refl
before_long (suc byte) (b ∷ s) h = refl

pub trimmed-behind : (a b : List ℕ) → 1 ≤ length (trimmed b) → length (trimmed (a ++ b)) ≡ length a + length (trimmed b)
unfolding trimmed
trimmed-behind [] b h = omega arith
trimmed-behind (x ∷ a) b h = let q = trimmed-behind a b h in ap length (before_long x (trimmed (a ++ b)) (omega arith)) ∙ omega arith

pub trimmed_front : (a b : List ℕ) → length (trimmed b) ≡ 0 → trimmed (a ++ b) ≡ trimmed a
unfolding trimmed
trimmed_front [] b h = nil_from_length (trimmed b) h
trimmed_front (x ∷ a) b h = ap (before x) (trimmed_front a b h)

-- The loop over the headers: the most of those behind and of those ahead
pub record HeadsLeft (file : List ℕ) (heads size count head most left : ℕ) : Type 0 where
  pub inside : head + left * size ≤ length file
  pub low : most ≤ least_head
  pub same : max most (smallest_head (heads_from left size (drop head file))) ≡ smallest_head (heads_from count size (drop heads file))

before_most : (most byte : ℕ) (s : List ℕ) → max (suc most) (length (before byte s)) ≡ suc (max most (length s))
unfolding before
before_most most zero [] = omega arith
before_most most zero (b ∷ s) = omega arith
before_most most (suc byte) s = omega arith

-- of one header, what lies beyond the most so far
beyond_most : (most : ℕ) (s : List ℕ) → max most (length (trimmed s)) ≡ most + length (trimmed (drop most s))
unfolding trimmed
beyond_most zero s = omega arith
beyond_most (suc most) [] = omega arith
beyond_most (suc most) (b ∷ s) = before_most most b (trimmed s) ∙ omega (arith, beyond_most most s)

head_beyond : (most size : ℕ) (s : List ℕ) → most ≤ least_head
    → max most (length (trimmed (head_bytes size s))) ≡ most + length (trimmed (part most (least_head - most) (take size s)))
head_beyond most size s low =
    ap (λ (l : List ℕ). max most (length l)) (padded_cut least_head (take size s))
    ∙ beyond_most most (take least_head (take size s))
    ∙ ap (λ (l : List ℕ). most + length (trimmed l)) (drop-take most least_head (take size s) low)

smallest_more : (left size : ℕ) (s : List ℕ) → 0 < left
    → smallest_head (heads_from left size s) ≡ max (length (trimmed (head_bytes size s))) (smallest_head (heads_from (left - 1) size (drop size s)))
unfolding heads_from smallest_head
smallest_more zero size s h = absurd (omega arith)
smallest_more (suc left) size s h =
    let n : suc left - 1 ≡ left = omega arith in
    ap (λ (k : ℕ). max (length (trimmed (head_bytes size s))) (smallest_head (heads_from k size (drop size s)))) (sym n)

pub heads_start : {file : List ℕ} {heads size count : ℕ} → heads + count * size ≤ length file → HeadsLeft file heads size count heads 0 count
heads_start h = record { inside = h; low = omega arith; same = omega arith }

module _ {file : List ℕ} {heads size count head most left : ℕ} (w : HeadsLeft file heads size count head most left) where
  pub heads_end : left ≡ 0 → most ≡ smallest_head (heads_from count size (drop heads file))
  unfolding heads_from smallest_head
  heads_end z =
      let none_left : smallest_head (heads_from left size (drop head file)) ≡ 0 = ap (λ (n : ℕ). smallest_head (heads_from n size (drop head file))) z in
      omega (arith, w.same)

  module _ (some : 0 < left) where
    less : left * size ≡ size + (left - 1) * size
    less =
        let n : left ≡ 1 + (left - 1) = omega arith in
        ap (λ (m : ℕ). m * size) n ∙ add-mul 1 (left - 1) size ∙ ap (λ (m : ℕ). m + (left - 1) * size) (one-mul size)

    pub head_inside : head + size ≤ length file
    head_inside = omega (arith, w.inside, less)

    pub heads_on : {more next later : ℕ} → more ≡ length (trimmed (part most (least_head - most) (take size (drop head file)))) → more ≤ least_head - most
        → next ≡ most + more → later ≡ left - 1
        → HeadsLeft file heads size count (head + size) next later
    heads_on e l q z = rw z (
        let rest : smallest_head (heads_from (left - 1) size (drop size (drop head file))) ≡ smallest_head (heads_from (left - 1) size (drop (head + size) file)) =
        ap (λ (s : List ℕ). smallest_head (heads_from (left - 1) size s)) (drop-drop size head file) in
        let this = head_beyond most size (drop head file) w.low in
        let ahead = smallest_more left size (drop head file) some in
        record {
          inside = omega (arith, w.inside, less);
          low = omega (arith, w.low);
          same = omega (arith, w.same, ahead, rest, this, e, q);
        })
