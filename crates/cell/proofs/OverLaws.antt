-- Laws of fields put over one another: a field that is 0 is written too, and the next goes over it. What is written too much lies
-- inside what is still to be written. Assumes nothing.
use Prim.Native.Nat.{ℕ, zero, suc, ◌+◌, ◌-◌, ◌≤◌, ◌<◌}
use mathlib.Core.Path.{◌≡◌, refl, sym, ap, ap₂, ◌∙◌}
use mathlib.Core.Bool.{Bool, true, false, cond}
use mathlib.Core.List.{List, [], ◌∷◌, ◌++◌, append_assoc, append-nil}
use native.Mathlib.Nat.{add-zero}
use native.Mathlib.Numerals.{add-one}
use native.Mathlib.Omega.{arith}
use borrow.Rule.Slice.PartMut.{put_mid}
use lib.ListN.{length, take, drop, set, length-append, length-drop, length-set}
use lib.Seq.{drop-drop, length-take-le, take-set-le, drop-set-lt, take-suc-set, take-append-add, drop-append-add}
use Rattle.xm.specs.Lay.{lay}
use Rattle.xm.specs.Cell.{bit, kept, marks, kepts, marked, plain_by, write_cell}
use Rattle.xm.proofs.Cell.{kept-length}
use Rattle.xm.proofs.Lay.{part_back, part_all, Laid}
use Rattle.cell.specs.Over.{over_most, Over}
use Rattle.cell.proofs.WriteLaws.{count_plain, count_marked, plain_kept}

-- What stands in front, up to `to`, and what is still to come make up the goal
pub record PutOver (lent goal out : List ℕ) (to : ℕ) (rest : List ℕ) : Type 0 where
  pub holds : take to out ++ rest ≡ goal
  pub ends : to + length rest ≡ length goal
  pub beyond : drop over_most out ≡ drop over_most lent
  pub long : length out ≡ length lent

-- A field is put, and the next one goes behind it, or over it if it is 0
pub over_more : {lent goal out : List ℕ} {to : ℕ} (x : ℕ) (xs : List ℕ) → PutOver lent goal out to (kepts (x ∷ xs)) → {new : List ℕ} {next : ℕ} → to < over_most
    → over_most ≤ length lent
    → (next ≡ to + bit x) × ((next ≤ to + 1) × (new ≡ set out to x)) → PutOver lent goal new next (kepts xs)
unfolding kept kepts
over_more {lent} {goal} {out} {to} x xs p {new} {next} h room q = record {
  holds = ap (λ (l : List ℕ). l ++ kepts xs) (ap₂ take q.0 q.1.1 ∙ front x) ∙ append_assoc (take to out) (kept x) (kepts xs) ∙ p.holds;
  ends = omega (arith, q.0, p.ends, length-append (kept x) (kepts xs), kept-length x);
  beyond = ap (drop over_most) q.1.1 ∙ drop-set-lt over_most out to x h ∙ p.beyond;
  long = ap length q.1.1 ∙ length-set out to x ∙ p.long;
}
  where
    front : (x : ℕ) → take (to + bit x) (set out to x) ≡ take to out ++ kept x
    front zero = rw (add-zero, append-nil) (take-set-le to out to 0 (omega arith))
    front (suc x) = rw add-one (take-suc-set out to (suc x) (omega (arith, p.long)))

pub over_done : {lent goal out : List ℕ} {to : ℕ} → PutOver lent goal out to (kepts []) → (to ≡ length goal) × Over goal lent out
unfolding kepts
over_done {goal = goal} {out} {to} p =
    let all : to ≡ length goal = omega (arith, p.ends) in
    (all, record { front = ap (λ (n : ℕ). take n out) (sym all) ∙ sym (append-nil (take to out)) ∙ p.holds; beyond = p.beyond })

-- The note goes over the lead byte if the cell goes plain, else behind it
module _ (lent : List ℕ) (a b c d e lead place : ℕ) (is_lead : lead ≡ 128 + marks (a ∷ b ∷ c ∷ d ∷ e ∷ []))
    (is_place : place ≡ cond (plain_by a (length (kepts (a ∷ b ∷ c ∷ d ∷ e ∷ [])))) 0 1) where
  abbrev cell : List ℕ
  cell = a ∷ b ∷ c ∷ d ∷ e ∷ []

  pub over_first : over_most ≤ length lent → PutOver lent (write_cell cell) (set lent 0 lead) place (kepts cell)
  unfolding marked
  over_first room = go (plain_by a (length (kepts cell))) refl is_place
    where
      put : take place (set lent 0 lead) ++ kepts cell ≡ write_cell cell → place ≤ 1 → PutOver lent (write_cell cell) (set lent 0 lead) place (kepts cell)
      put same h = record {
        holds = same;
        ends = omega (
          arith,
          ap length same,
          length-append (take place (set lent 0 lead)) (kepts cell),
          length-take-le place (set lent 0 lead) (omega (arith, length-set lent 0 lead)),
        );
        beyond = drop-set-lt over_most lent 0 lead (omega arith);
        long = length-set lent 0 lead;
      }

      go : (t : Bool) → plain_by a (length (kepts cell)) ≡ t → place ≡ cond t 0 1 → PutOver lent (write_cell cell) (set lent 0 lead) place (kepts cell)
      go true t z = put (rw z (plain_kept cell refl t ∙ sym (count_plain cell t))) (omega arith)
      go false t z =
          put (ap (λ (n : ℕ). take n (set lent 0 lead) ++ kepts cell) z ∙ ap (λ (l : List ℕ). l ++ kepts cell) (take-suc-set lent 0 lead (omega arith))
          ∙ ap (λ (v : ℕ). v ∷ kepts cell) is_lead ∙ sym (count_marked cell t)) (omega arith)

-- A piece written so in front of a lent part, by a writer that has six bytes and more to write
pub laid_over : {lent goal out rest : List ℕ} {to : ℕ} → Laid lent goal out to rest → (w rest' : List ℕ) {ys : List ℕ} {next : ℕ}
    → rest ≡ w ++ rest' → next ≡ to + length w → over_most ≤ length rest → Over w (take (length out - to) (drop to out)) ys
    → length ys ≡ length (take (length out - to) (drop to out)) → Laid lent goal (put_mid to (length out - to) out ys) next rest'
unfolding lay
laid_over {lent} {goal} {out} {rest} {to} l w rest' {ys} {next} e n six o long =
    let new = part_back out ys to (omega (arith, l.room)) in
    let lo : length ys ≡ length (drop to out) = rw (part_all to out) at long in
    let q = ap length e ∙ length-append w rest' in
    let t : length (take to out) ≡ to = length-take-le to out (omega (arith, l.room)) in
    let ln : length (put_mid to (length out - to) out ys) ≡ length out = ap length new ∙ length-append (take to out) ys
    ∙ omega (arith, t, lo, length-drop to out, l.room) in
    let more : ℕ = length rest - over_most in
    let front : take (to + length w) (take to out ++ ys) ≡ take to out ++ w =
    ap (λ (x : ℕ). take (x + length w) (take to out ++ ys)) (sym t) ∙ take-append-add (take to out) ys (length w)
    ∙ ap (λ (x : List ℕ). take to out ++ x) o.front in
    let k : to + length w + length rest' ≡ length (take to out) + (over_most + more) = omega (arith, q, t) in
    let beyond : drop (to + length w + length rest') (take to out ++ ys) ≡ drop (to + length rest) out =
    ap (λ (x : ℕ). drop x (take to out ++ ys)) k ∙ drop-append-add (take to out) ys (over_most + more) ∙ sym (drop-drop more over_most ys)
    ∙ ap (drop more) (o.beyond ∙ ap (drop over_most) (part_all to out)) ∙ drop-drop more over_most (drop to out) ∙ drop-drop (over_most + more) to out
    ∙ ap (λ (x : ℕ). drop (to + x) out) (omega arith) in
    record {
      kept = ln ∙ l.kept;
      room = omega (arith, q, n, ln, l.room);
      count = omega (arith, q, n, l.count);
      laid =
          ap₂ (λ (x : List ℕ) (y : ℕ). take y x ++ (rest' ++ drop (y + length rest') x)) new n
          ∙ ap₂ (λ (x y : List ℕ). x ++ (rest' ++ y)) front beyond ∙ append_assoc (take to out) w (rest' ++ drop (to + length rest) out)
          ∙ ap (λ (x : List ℕ). take to out ++ x) (sym (append_assoc w rest' (drop (to + length rest) out)))
          ∙ ap (λ (x : List ℕ). take to out ++ (x ++ drop (to + length rest) out)) (sym e) ∙ l.laid;
    }
