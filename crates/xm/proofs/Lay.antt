-- Laws of a writer: pieces laid one after the other, and parts of a list lent and given back. Assumes nothing.
use Prim.Native.Nat.{ℕ, ◌+◌, ◌-◌, ◌≤◌, ◌<◌}
use mathlib.Core.List.{List, [], ◌∷◌, ◌++◌, append_assoc, append-nil}
use mathlib.Core.Path.{◌≡◌, refl, sym, ap, ap₂, ◌∙◌}
use native.Mathlib.Nat.{add_assoc, zero-add, add-zero}
use native.Mathlib.Numerals.{add-one}
use native.Mathlib.Omega.{arith}
use lib.ListN.{length, get_or, take, drop, set, length-append, length-drop, take-append-drop}
use lib.Seq.{drop-drop, take_at, take_all, drop-append-add, length-take-le, drop-length, get_or-drop, set_split}
use borrow.Rule.Slice.PartMut.{put_mid, Post-is}
use Rattle.xm.specs.Answer.{in_front}
use Rattle.xm.specs.Lay.{lay}

module _ {A : Type 0} where
  -- from the front: the piece, and what stood beyond it
  pub lay_front : (out piece : List A) → lay out 0 piece ≡ in_front piece out
  unfolding lay
  lay_front out piece = rw zero-add

  -- nothing to lay
  pub lay_none : (out : List A) (to : ℕ) → lay out to [] ≡ out
  unfolding lay
  lay_none out to = let z : to + 0 ≡ to = omega arith in rw z (take-append-drop to out)

  -- a piece written in front of what was lent from `to` on, and the rest still to lay
  pub lay_more : (out : List A) (to : ℕ) (w r : List A) → to + length w + length r ≤ length out
      → lay (take to out ++ in_front w (drop to out)) (to + length w) r ≡ lay out to (w ++ r)
  unfolding lay
  lay_more out to w r h =
      let p : length (take to out) ≡ to = length-take-le to out (omega arith) in
      let q : length (take to out ++ w) ≡ to + length w = length-append (take to out) w ∙ ap (λ (n : ℕ). n + length w) p in
      let x : take to out ++ (w ++ drop (length w) (drop to out)) ≡ (take to out ++ w) ++ drop (to + length w) out =
      ap (λ (l : List A). take to out ++ (w ++ l)) (drop-drop (length w) to out) ∙ sym (append_assoc (take to out) w (drop (to + length w) out)) in
      let t : take (to + length w) ((take to out ++ w) ++ drop (to + length w) out) ≡ take to out ++ w = take_at (take to out ++ w) _ (to + length w) q in
      let d : drop (to + length w + length r) ((take to out ++ w) ++ drop (to + length w) out) ≡ drop (to + length w + length r) out =
      ap (λ (n : ℕ). drop (n + length r) ((take to out ++ w) ++ drop (to + length w) out)) (sym q)
      ∙ drop-append-add (take to out ++ w) (drop (to + length w) out) (length r) ∙ drop-drop (length r) (to + length w) out in
      rw (x, t, d, length-append, append_assoc, append_assoc, add_assoc)

  -- in two pieces
  pub lay-lay : (out : List A) (to : ℕ) (w r : List A) → to + length w + length r ≤ length out → lay (lay out to w) (to + length w) r ≡ lay out to (w ++ r)
  unfolding lay
  lay-lay out to w r h =
      ap (λ (l : List A). lay (take to out ++ (w ++ l)) (to + length w) r) (sym (drop-drop (length w) to out)) ∙ lay_more out to w r h

  pub length-lay : (out : List A) (to : ℕ) (w : List A) → to + length w ≤ length out → length (lay out to w) ≡ length out
  unfolding lay
  length-lay out to w h = simp (length-append, length-drop) (omega (arith, length-take-le to out (omega arith)))

  -- a single store
  pub lay_one : (out : List A) (to : ℕ) (x : A) → to < length out → set out to x ≡ lay out to (x ∷ [])
  unfolding lay
  lay_one out to x h = rw add-one (set_split out to x h)

  -- what a call that was lent `&mut out[to..]` leaves of the whole: the front as it was, then what the call left
  pub part_back : (out ys : List A) (to : ℕ) → to ≤ length out → put_mid to (length out - to) out ys ≡ take to out ++ ys
  part_back out ys to h =
      ap (λ (l : List A). take to out ++ (ys ++ l)) (Post-is to (length out) out h ∙ drop-length out) ∙ ap (λ (l : List A). take to out ++ l) (append-nil ys)

  -- the part of a list from a place on, and its first element
  pub part_all : (place : ℕ) (s : List A) → take (length s - place) (drop place s) ≡ drop place s
  part_all place s = take_all (length s - place) (drop place s) (omega (arith, length-drop place s))

  pub head_at_lem : (place : ℕ) (s : List A) (d : A) → get_or (drop place s) 0 d ≡ get_or s place d
  head_at_lem place s d = get_or-drop place s 0 d ∙ ap (λ (n : ℕ). get_or s n d) (add-zero place)

-- The state of a writer: out holds what was written up to `to`, and `rest` is still to be written, of `goal` in all
pub record Laid {A : Type 0} (lent goal out : List A) (to : ℕ) (rest : List A) : Type 0 where
  pub kept : length out ≡ length lent
  pub room : to + length rest ≤ length out
  pub count : to + length rest ≡ length goal
  pub laid : lay out to rest ≡ lay lent 0 goal

pub laid_none : {A : Type 0} (lent goal : List A) → length goal ≤ length lent → Laid lent goal lent 0 goal
laid_none lent goal h = record { kept = refl; room = omega arith; count = omega arith; laid = refl }

module _ {A : Type 0} {lent goal out : List A} {to : ℕ} {rest : List A} (l : Laid lent goal out to rest) where
  -- w is written, at `to`
  pub laid_more : (w rest' new : List A) (next : ℕ) → rest ≡ w ++ rest' → next ≡ to + length w → new ≡ take to out ++ in_front w (drop to out)
      → Laid lent goal new next rest'
  laid_more w rest' new next e n en =
      let q = ap length e ∙ length-append w rest' in
      let t : length (take to out) ≡ to = length-take-le to out (omega (arith, l.room)) in
      let ln : length new ≡ length out = ap length en ∙ simp (length-append, length-drop) (omega (arith, t, q, l.room)) in
      record {
        kept = ln ∙ l.kept;
        room = omega (arith, q, n, ln, l.room);
        count = omega (arith, q, n, l.count);
        laid = ap₂ (λ (x : List A) (k : ℕ). lay x k rest') en n ∙ lay_more out to w rest' (omega (arith, q, l.room)) ∙ ap (lay out to) (sym e) ∙ l.laid;
      }

  -- w is written in front of a lent part, `&mut out[to..]`
  pub laid_part : (w rest' : List A) {written left : List A} {next : ℕ} → rest ≡ w ++ rest' → written ≡ w → next ≡ to + length w
      → left ≡ in_front written (take (length out - to) (drop to out)) → Laid lent goal (put_mid to (length out - to) out left) next rest'
  laid_part w rest' {written} {left} {next} e same n el =
      laid_more w rest' (put_mid to (length out - to) out left) next e n
      (part_back out left to (omega (arith, l.room)) ∙ ap (λ (x : List A). take to out ++ x) (el ∙ ap₂ in_front same (part_all to out)))

  -- one element is stored, at `to`
  pub laid_set : (x : A) (rest' : List A) → rest ≡ x ∷ rest' → Laid lent goal (set out to x) (to + 1) rest'
  unfolding lay
  laid_set x rest' e =
      laid_more (x ∷ []) rest' (set out to x) (to + 1) e refl
      (lay_one out to x (omega (arith, ap length e, l.room)) ∙ ap (λ (left : List A). take to out ++ x ∷ left) (sym (drop-drop 1 to out)))

  pub laid_done : rest ≡ [] → out ≡ in_front goal lent
  laid_done e = sym (ap (lay out to) e ∙ lay_none out to) ∙ l.laid ∙ lay_front lent goal

  pub laid_long : rest ≡ [] → to ≡ length goal
  laid_long e = omega (arith, l.count, ap length e)

-- The first piece is written; and the last one, in front of a lent part
pub laid_first : {A : Type 0} (lent goal piece later : List A) {out : List A} {next : ℕ}
    → goal ≡ piece ++ later → length goal ≤ length lent → next ≡ length piece
    → out ≡ in_front piece lent → Laid lent goal out next later
laid_first lent goal piece later {out} {next} e h n w = laid_more (laid_none lent goal h) piece later out next e (omega arith) w

pub laid_last : {A : Type 0} {lent goal out rest : List A} {to : ℕ} → Laid lent goal out to rest → {written left : List A} → rest ≡ written
    → left ≡ in_front written (take (length out - to) (drop to out)) → put_mid to (length out - to) out left ≡ in_front goal lent
laid_last l {written} e w = laid_done (laid_part l written [] (e ∙ sym (append-nil written)) refl refl w) refl
