-- Laws of filling: a run of accepted cells laid one after the other, a run of empty ones written as forty zeros, and the rest left to
-- another. Assumes nothing.
use Prim.Native.Nat.{ℕ, suc, ◌+◌, ◌*◌, ◌-◌, ◌%◌, ◌≤◌, ◌<◌}
use mathlib.Core.Bool.{Bool, true, false, cond}
use mathlib.Core.List.{List, ◌++◌, append_assoc}
use mathlib.Core.Path.{◌≡◌, refl, sym, ap, ap₂, ◌∙◌}
use native.Mathlib.Omega.{arith}
use borrow.Author.Tests.{eqb-true, eqb-false}
use borrow.Rule.Slice.PartMut.{put_mid}
use lib.Dec.{eqb}
use lib.ListN.{length, get_or, take, drop, replicate, length-append, length-replicate, replicate-append-replicate}
use lib.Seq.{drop-drop, take_at, drop-append-add, length-take-le}
use Rattle.xm.specs.Got.{accepted}
use Rattle.xm.specs.Format.{flat}
use Rattle.xm.specs.Answer.{in_front}
use Rattle.xm.specs.Cell.{length_by, cell_at}
use Rattle.xm.specs.Stored.{read_run}
use Rattle.xm.specs.Run.{cells_in}
use Rattle.xm.specs.Lay.{lay}
use Rattle.xm.proofs.Cell.{cell_length}
use Rattle.xm.proofs.Stored.{flat-length}
use Rattle.xm.proofs.Run.{in_length, in_fives}
use Rattle.xm.proofs.Lay.{part_back, part_all, lay_front, lay_more, length-lay, Laid, laid_none, laid_more, laid_done}
use Rattle.cell.proofs.ReadLaws.{empty_length, empty_cell}
use Rattle.cell.proofs.ReadRuns.{run_first, cells_first}
use Rattle.ahead.specs.declared.Ahead.{Ahead}
use Rattle.ahead.specs.Ahead.{EmptyRun, AheadOf}
use Rattle.ahead.proofs.AheadLaws.{run_over}
use Rattle.cells.specs.Unpacked.{first_fields}

pub filled_length : (count : ℕ) (s : List ℕ) → length (flat (cells_in count s)) ≡ count * 5
filled_length count s = flat-length (cells_in count s) (in_fives count s) ∙ ap (λ (n : ℕ). n * 5) (in_length count s)

-- A loop that fills: `left` cells are still to come, from `at` on, were accepted, and go to `to`; `goal` is what all are to be
pub record Filling (s goal lent out : List ℕ) (at to left : ℕ) : Type 0 where
  pub inside : at ≤ length s
  pub fine : accepted (read_run left at (drop at s)) ≡ true
  pub room : to + left * 5 ≤ length out
  pub writes : Laid lent goal out to (flat (cells_in left (drop at s)))

pub filling_none : (s : List ℕ) (at count : ℕ) {out : List ℕ} {left : ℕ} → at ≤ length s → accepted (read_run count at (drop at s)) ≡ true
    → count * 5 ≤ length out
    → left ≡ count → Filling s (flat (cells_in count (drop at s))) out out at 0 left
filling_none s at count {out} i a h e = rw e (record {
  inside = i;
  fine = a;
  room = omega arith;
  writes = laid_none out (flat (cells_in count (drop at s))) (omega (arith, filled_length count (drop at s)));
})

module _ {s goal lent : List ℕ} where
  move : {out : List ℕ} {at at' to to' left left' : ℕ} → Filling s goal lent out at to left → at' ≡ at → to' ≡ to → left' ≡ left
      → Filling s goal lent out at' to' left'
  move f a b c = rw (a, b, c) f

  -- w is written in front of what was lent from `to` on
  module _ {out : List ℕ} {at to left : ℕ} (f : Filling s goal lent out at to left) {written : List ℕ} (w : List ℕ)
      (e : written ≡ in_front w (take (length out - to) (drop to out))) where
    put : put_mid to (length out - to) out written ≡ take to out ++ in_front w (drop to out)
    put =
        let room = f.room in
        part_back out written to (omega arith) ∙ ap (λ (x : List ℕ). take to out ++ x) (e ∙ ap (in_front w) (part_all to out))

    -- one cell
    pub filling_more : 0 < left → w ≡ cell_at (drop at s) → {next left' : ℕ} → next ≡ at + length_by (get_or s at 0) → left' ≡ left - 1
        → Filling s goal lent (put_mid to (length out - to) out written) next (to + 5) left'
    filling_more some cell {next} n o =
        let r = run_first s at left some f.inside f.fine in
        let rest = flat (cells_in (left - 1) (drop next s)) in
        let size : length w ≡ 5 = ap length cell ∙ cell_length (drop at s) in
        let m = laid_more f.writes w rest _ (to + 5) (ap flat (cells_first s at left some) ∙ rw (n, cell)) (ap (λ (x : ℕ). to + x) (sym size)) put in
        record {
          inside = omega (arith, n, r.fits);
          fine = rw (n, o) r.rest;
          room = omega (arith, o, m.room, filled_length (left - 1) (drop next s));
          writes = rw o m;
        }

    -- all that are left
    pub filling_rest : w ≡ flat (cells_in left (drop at s)) → put_mid to (length out - to) out written ≡ in_front goal lent
    unfolding lay
    filling_rest all =
        put ∙ ap (λ (x : List ℕ). take to out ++ (w ++ x)) (drop-drop (length w) to out) ∙ ap (lay out to) all ∙ f.writes.laid ∙ lay_front lent goal

  pub filling_done : {out : List ℕ} {at to left : ℕ} → Filling s goal lent out at to left → left ≡ 0 → out ≡ in_front goal lent
  unfolding cells_in
  filling_done {out} {at} f z = laid_done f.writes (ap (λ (k : ℕ). flat (cells_in k (drop at s))) z)

-- A piece laid over what was laid at the same place, and is no longer
lay_over : (out : List ℕ) (to : ℕ) (v r : List ℕ) → length v ≤ length r → to + length r ≤ length out → lay (lay out to v) to r ≡ lay out to r
unfolding lay
lay_over out to v r h l =
    let front : length (take to out) ≡ to = length-take-le to out (omega arith) in
    let x : List ℕ = take to out ++ v in
    let lx : length x ≡ to + length v = length-append (take to out) v ∙ ap (λ (n : ℕ). n + length v) front in
    let both : take to out ++ (v ++ drop (to + length v) out) ≡ x ++ drop (to + length v) out =
    sym (append_assoc (take to out) v (drop (to + length v) out)) in
    let t : take to (take to out ++ (v ++ drop (to + length v) out)) ≡ take to out = take_at (take to out) _ to front in
    let e : to + length r ≡ length x + (length r - length v) = omega (arith, lx) in
    let f : to + length v + (length r - length v) ≡ to + length r = omega arith in
    let d : drop (to + length r) (take to out ++ (v ++ drop (to + length v) out)) ≡ drop (to + length r) out =
    ap₂ (λ (n : ℕ) (y : List ℕ). drop n y) e both ∙ drop-append-add x (drop (to + length v) out) (length r - length v)
    ∙ drop-drop (length r - length v) (to + length v) out ∙ ap (λ (n : ℕ). drop n out) f in
    rw (t, d)

-- Some empty cells, and those that follow them
record Past (s : List ℕ) (left at k : ℕ) : Type 0 where
  inside : at + k ≤ length s
  fine : accepted (read_run (left - k) (at + k) (drop (at + k) s)) ≡ true
  cells : flat (cells_in left (drop at s)) ≡ replicate (k * 5) 0 ++ flat (cells_in (left - k) (drop (at + k) s))

past_run : (s : List ℕ) (left at k : ℕ) → k ≤ left → at ≤ length s → accepted (read_run left at (drop at s)) ≡ true
    → ((i : ℕ) → i < k → get_or s (at + i) 0 ≡ 128) → Past s left at k
past_run s left at k h i a all = run_over (Past s left at) s at k all none more
  where
    none : Past s left at 0
    none =
        let p : at ≡ at + 0 = omega arith in
        let q : left ≡ left - 0 = omega arith in
        record { inside = omega arith; fine = rw (← p, ← q) a; cells = ap₂ (λ (x y : ℕ). flat (cells_in y (drop x s))) p q }

    more : (i : ℕ) → i < k → get_or s (at + i) 0 ≡ 128 → Past s left at i → Past s left at (suc i)
    more i below e w =
        let r = run_first s (at + i) (left - i) (omega arith) w.inside w.fine in
        let one = empty_length (at + i) s e in
        let p : at + i + length_by (get_or s (at + i) 0) ≡ at + suc i = omega arith in
        let q : left - i - 1 ≡ left - suc i = omega arith in
        let z : i * 5 + 5 ≡ suc i * 5 = omega arith in
        let rest = flat (cells_in (left - suc i) (drop (at + suc i) s)) in
        record {
          inside = omega (arith, r.fits);
          fine = rw (p, q) at r.rest;
          cells =
              w.cells ∙ ap (λ (x : List ℕ). replicate (i * 5) 0 ++ x)
              (ap flat (cells_first s (at + i) (left - i) (omega arith)) ∙ rw (p, q, empty_cell (at + i) s e))
              ∙ sym (append_assoc (replicate (i * 5) 0) (replicate 5 0) rest)
              ∙ ap (λ (x : List ℕ). x ++ rest) (replicate-append-replicate (i * 5) 5 0 ∙ ap (λ (m : ℕ). replicate m 0) z);
        }

module _ {s goal lent out : List ℕ} {at to left : ℕ} (f : Filling s goal lent out at to left) (many : 9 ≤ left) where
  -- k empty cells are passed, and forty zeros written
  filling_run : (k : ℕ) → EmptyRun s at k → {written : List ℕ} → written ≡ in_front (replicate 40 0) (take (length out - to) (drop to out))
      → Filling s goal lent (put_mid to (length out - to) out written) (at + k) (to + k * 5) (left - k)
  unfolding lay
  filling_run k r {written} en =
      let few = r.few in
      let room = f.room in
      let past = past_run s left at k (omega arith) f.inside f.fine r.all in
      let p : ℕ = to + k * 5 in
      let w : List ℕ = replicate (k * 5) 0 in
      let v : List ℕ = replicate (40 - k * 5) 0 in
      let rest : List ℕ = flat (cells_in (left - k) (drop (at + k) s)) in
      let lw : length w ≡ k * 5 = length-replicate (k * 5) 0 in
      let lv : length v ≡ 40 - k * 5 = length-replicate (40 - k * 5) 0 in
      let lr : length rest ≡ (left - k) * 5 = filled_length (left - k) (drop (at + k) s) in
      let new : List ℕ = put_mid to (length out - to) out written in
      let y : List ℕ = take to out ++ in_front w (drop to out) in
      let m : Laid lent goal y p rest = laid_more f.writes w rest y p past.cells (ap (λ (x : ℕ). to + x) (sym lw)) refl in
      let kept = m.kept in
      let kept₀ = f.writes.kept in
      let mroom = m.room in
      let z : k * 5 + (40 - k * 5) ≡ 40 = omega arith in
      let wv : w ++ v ≡ replicate 40 0 = replicate-append-replicate (k * 5) (40 - k * 5) 0 ∙ ap (λ (x : ℕ). replicate x 0) z in
      let ny : new ≡ lay y p v =
      put f (replicate 40 0) en ∙ ap (λ (x : List ℕ). take to out ++ (replicate 40 0 ++ x)) (drop-drop 40 to out) ∙ ap (lay out to) (sym wv)
      ∙ sym (lay_more out to w v (omega (arith, lw, lv))) ∙ ap (λ (x : ℕ). lay y (to + x) v) lw in
      let ln : length new ≡ length y = ap length ny ∙ length-lay y p v (omega (arith, lv, lr)) in
      record {
        inside = past.inside;
        fine = past.fine;
        room = omega (arith, ln, kept, kept₀);
        writes = record {
          kept = ln ∙ kept;
          room = omega (arith, ln);
          count = m.count;
          laid = ap (λ (x : List ℕ). lay x p rest) ny ∙ lay_over y p v rest (omega (arith, lv, lr)) m.room ∙ m.laid;
        };
      }

  -- A turn's cells in front of its last one
  pub filling_front : {r : Ahead} (eight : ℕ) → AheadOf s at r → eight % 256 ≡ get_or s at 0 → {written : List ℕ}
      → written ≡ in_front (first_fields eight (drop at s)) (take (length out - to) (drop to out))
      → Filling s goal lent (put_mid to (length out - to) out written) r.last (to + r.cells * 5) (left - r.cells)
  filling_front {r} eight a lead {written} en = go (eqb (eight % 256) 128) refl en
    where
      go : (t : Bool) → eqb (eight % 256) 128 ≡ t → written ≡ in_front (cond t (replicate 40 0) (cell_at (drop at s))) (take (length out - to) (drop to out))
          → Filling s goal lent (put_mid to (length out - to) out written) r.last (to + r.cells * 5) (left - r.cells)
      go true p en = let e = a.empties (sym lead ∙ eqb-true (eight % 256) 128 p) in move (filling_run r.cells e.0 en) e.1 refl refl
      go false p en =
          let e = a.one (λ h. eqb-false (eight % 256) 128 p (lead ∙ h)) in
          move (filling_more f (cell_at (drop at s)) en (omega arith) refl refl refl) e.1 (omega (arith, e.0)) (omega (arith, e.0))
