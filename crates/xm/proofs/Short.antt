-- Laws of a cell's shortest form by numbers: its length, and the exact test for a stored cell that stands in it already. Assumes nothing.
use Prim.Native.Nat.{ℕ, zero, suc, ◌+◌, ◌*◌, ◌/◌, ◌%◌, ◌≤◌, ◌<◌}
use mathlib.Core.Bool.{Bool, true, false, cond, ◌&&◌, and-eq-true_iff}
use mathlib.Core.List.{List, [], ◌∷◌, ◌++◌}
use mathlib.Core.Logic.{◌↔◌}
use mathlib.Core.Path.{◌≡◌, refl, sym, ap, ap₂, ◌∙◌}
use native.Mathlib.Omega.{arith}
use borrow.Author.Tests.{ltb-true, ltb-false, lt-ltb, eqb-true, eqb-false, eq-eqb}
use lib.Count.{ones_in}
use lib.Dec.{ltb, eqb}
use lib.ListN.{length, get_or, take, drop, length-append}
use lib.Seq.{length-take-le, get_or-take}
use Rattle.xm.specs.Cell.{five, fields_by, needed, cell_at, kept, bit, marks, kepts, marked, plain_by, goes_plain, write_cell}
use Rattle.xm.specs.Short.{shortest_by, short_by, is_short}
use Rattle.xm.proofs.Cell.{five_same, bit_most, bit_none, kept_none, kept_some, kept-length, kepts_most, marks-small, marked-length, ones-five}
use Rattle.xm.proofs.Cell.{length_some, length_plain, length_marked, cell_plain, cell_marked, cell_length, write_plain, write_marked, plain_many}

-- The length of the shortest form
pub shortest_by_lem : (cell : List ℕ) → length cell ≡ 5 → shortest_by (get_or cell 0 0) (length (kepts cell)) ≡ length (write_cell cell)
unfolding goes_plain
shortest_by_lem cell h = go (plain_by (get_or cell 0 0) (length (kepts cell))) refl
  where
    go : (t : Bool) → plain_by (get_or cell 0 0) (length (kepts cell)) ≡ t → cond t 5 (1 + length (kepts cell)) ≡ length (write_cell cell)
    go true e = sym (ap length (write_plain cell e) ∙ h)
    go false e = sym (ap length (write_marked cell e) ∙ marked-length cell)

-- The test, of the numbers that a pass found
pub short_by_lem : (s : List ℕ) (lead used fields shortest : ℕ)
    → lead ≡ get_or s 0 0 → used ≡ needed s → fields ≡ length (kepts (cell_at s)) → shortest ≡ length (write_cell (cell_at s))
    → short_by lead used fields shortest ≡ is_short s
unfolding is_short
short_by_lem s lead used fields shortest el eu ef es = rw (el, eu, ef, es)

-- The low bits of a number, and fields of which each that its bit names isn't 0: kept, they are the bytes stored, and their marks those bits
low : ℕ → ℕ → ℕ
low zero bits = 0
low (suc count) bits = bits % 2 + 2 * low count (bits / 2)

record Full (count bits : ℕ) (s : List ℕ) : Type 0 where
  bytes : kepts (fields_by count bits s) ≡ take (ones_in count bits) s
  lead : marks (fields_by count bits s) ≡ low count bits

record Kept (count bits : ℕ) (s : List ℕ) : Type 0 where
  most : length (kepts (fields_by count bits s)) ≤ ones_in count bits
  full : length (kepts (fields_by count bits s)) ≡ ones_in count bits → Full count bits s

head_take : (s : List ℕ) (n : ℕ) → (get_or s 0 0 ≡ 0 → ⊥) → take (1 + n) s ≡ get_or s 0 0 ∷ take n (drop 1 s)
head_take [] n h = absurd (h refl)
head_take (x ∷ s) n h = let e : 1 + n ≡ suc n = omega arith in ap (λ (k : ℕ). take k (x ∷ s)) e

fields_kept : (count bits : ℕ) (s : List ℕ) → Kept count bits s
unfolding fields_by kepts ones_in marks low
fields_kept zero bits s = record { most = omega arith; full = λ h. record { bytes = refl; lead = refl } }
fields_kept (suc count) bits s =
    let ih = fields_kept count (bits / 2) (drop (bits % 2) s) in
    let g = go (eqb (bits % 2) 0) refl ih.most ih.full in
    record { most = g.0; full = λ h. let f = g.1 h in record { bytes = f.0; lead = f.1 } }
  where
    rest : List ℕ
    rest = fields_by count (bits / 2) (drop (bits % 2) s)

    more : ℕ
    more = ones_in count (bits / 2)

    go : (t : Bool) → eqb (bits % 2) 0 ≡ t → length (kepts rest) ≤ more → (length (kepts rest) ≡ more → Full count (bits / 2) (drop (bits % 2) s))
        → (length (kept (cond t 0 (get_or s 0 0)) ++ kepts rest) ≤ bits % 2 + more)
        × (length (kept (cond t 0 (get_or s 0 0)) ++ kepts rest) ≡ bits % 2 + more
        → (kept (cond t 0 (get_or s 0 0)) ++ kepts rest ≡ take (bits % 2 + more) s)
        × (bit (cond t 0 (get_or s 0 0)) + 2 * marks rest ≡ bits % 2 + 2 * low count (bits / 2)))
    go true e most full =
        let z : bits % 2 ≡ 0 = eqb-true (bits % 2) 0 e in
        let k : kept 0 ++ kepts rest ≡ kepts rest = ap (λ (l : List ℕ). l ++ kepts rest) (kept_none 0 refl) in
        let j : more ≡ bits % 2 + more = omega arith in (
          omega (arith, ap length k),
          λ q.
              let i = full (omega (arith, ap length k)) in
              (k ∙ i.bytes ∙ ap (λ (x : ℕ). take more (drop x s)) z ∙ ap (λ (x : ℕ). take x s) j, omega (arith, i.lead)),
        )
    go false e most full =
        let x = get_or s 0 0 in
        let o = eqb-false (bits % 2) 0 e in
        let z : bits % 2 ≡ 1 = omega arith in
        let l = length-append (kept x) (kepts rest) in
        let k = kept-length x in
        let b = bit_most x in (
          omega arith,
          λ q.
              let i = full (omega arith) in
              let some : x ≡ 0 → ⊥ = λ y. omega (arith, bit_none x y) in (
                ap (λ (m : List ℕ). m ++ kepts rest) (kept_some x some) ∙ ap (λ (m : List ℕ). x ∷ m) (i.bytes ∙ ap (λ (y : ℕ). take more (drop y s)) z)
                    ∙ sym (head_take s more some) ∙ ap (λ (y : ℕ). take (y + more) s) (sym z),
                omega (arith, i.lead),
              ),
        )

-- 128 and the low five bits make a lead byte whose bits 5 and 6 are 0
low_five : (lead : ℕ) → 128 ≤ lead → lead < 160 → 128 + low 5 lead ≡ lead
unfolding low
low_five lead h k = omega arith

five-take : (s : List ℕ) → 5 ≤ length s → five s ≡ take 5 s
five-take [] h = absurd (omega arith)
five-take (a ∷ []) h = absurd (omega arith)
five-take (a ∷ b ∷ []) h = absurd (omega arith)
five-take (a ∷ b ∷ c ∷ []) h = absurd (omega arith)
five-take (a ∷ b ∷ c ∷ d ∷ []) h = absurd (omega arith)
five-take (a ∷ b ∷ c ∷ d ∷ e ∷ s) h = refl

-- The lead byte of a marked form
lead_marked : (cell : List ℕ) → get_or (marked cell) 0 0 ≡ 128 + marks cell
unfolding marked
lead_marked cell = refl

-- Of a marked cell no more is kept than is stored
module _ (s : List ℕ) (mark : 128 ≤ get_or s 0 0) where
  stored_marked : needed s ≡ 1 + ones_in 5 (get_or s 0 0)
  unfolding ones_in
  stored_marked = length_marked (get_or s 0 0) mark ∙ ap (λ (k : ℕ). 1 + k) (ones-five (get_or s 0 0))

  kept_stored : 1 + length (kepts (cell_at s)) ≤ needed s
  kept_stored = omega (arith, stored_marked, (fields_kept 5 (get_or s 0 0) (drop 1 s)).most, ap (λ (l : List ℕ). length (kepts l)) (cell_marked s mark))

  -- one that keeps all it stores, with bits 5 and 6 zero, is its own marked form
  marked_full : get_or s 0 0 < 160 → 1 + length (kepts (cell_at s)) ≡ needed s → marked (cell_at s) ≡ take (needed s) s
  unfolding marked
  marked_full low h =
      let same = cell_marked s mark in
      let all = (fields_kept 5 (get_or s 0 0) (drop 1 s)).full (omega (arith, h, stored_marked, ap (λ (l : List ℕ). length (kepts l)) same)) in
      ap₂ (λ (x : ℕ) (l : List ℕ). x ∷ l) (ap (λ (x : ℕ). 128 + x) (ap marks same ∙ all.lead) ∙ low_five (get_or s 0 0) mark low) (ap kepts same ∙ all.bytes)
      ∙ sym (head_take s (ones_in 5 (get_or s 0 0)) (λ z. omega arith)) ∙ ap (λ (x : ℕ). take x s) (sym stored_marked)

-- A whole cell passes the test exactly if its bytes are its shortest form
module _ (s : List ℕ) (fits : needed s ≤ length s) where
  kept_most : length (kepts (cell_at s)) ≤ 5
  kept_most = omega (arith, kepts_most (cell_at s), cell_length s)

  short_written : is_short s ≡ true → write_cell (cell_at s) ≡ take (needed s) s
  unfolding is_short goes_plain
  short_written h = go (ltb (get_or s 0 0) 128) refl (goes_plain (cell_at s)) refl
    where
      lead : ℕ
      lead = get_or s 0 0

      size : ℕ
      size = length (kepts (cell_at s))

      told : (ltb lead 160 ≡ true) × ((eqb (lead / 128 + size) (needed s) && eqb (length (write_cell (cell_at s))) (needed s)) ≡ true)
      told = (and-eq-true_iff (ltb lead 160) (eqb (lead / 128 + size) (needed s) && eqb (length (write_cell (cell_at s))) (needed s))).0 h

      both : (eqb (lead / 128 + size) (needed s) ≡ true) × (eqb (length (write_cell (cell_at s))) (needed s) ≡ true)
      both = (and-eq-true_iff (eqb (lead / 128 + size) (needed s)) (eqb (length (write_cell (cell_at s))) (needed s))).0 told.1

      small : lead < 160
      small = ltb-true lead 160 told.0

      full : lead / 128 + size ≡ needed s
      full = eqb-true _ _ both.0

      long : length (write_cell (cell_at s)) ≡ needed s
      long = eqb-true _ _ both.1

      go : (t : Bool) → ltb lead 128 ≡ t → (u : Bool) → goes_plain (cell_at s) ≡ u → write_cell (cell_at s) ≡ take (needed s) s
      go true p true q =
          let l = ltb-true lead 128 p in
          let n = length_plain lead l in
          write_plain (cell_at s) q ∙ cell_plain s l ∙ five-take s (omega arith) ∙ ap (λ (k : ℕ). take k s) (sym n)
      go true p false q =
          let l = ltb-true lead 128 p in
          absurd (omega (arith, full, long, length_plain lead l, ap length (write_marked (cell_at s) q), marked-length (cell_at s)))
      go false p true q =
          let l = ltb-false lead 128 p in
          absurd (omega (arith, kept_stored s l, long, ap length (write_plain (cell_at s) q), cell_length s, plain_many (get_or (cell_at s) 0 0) size q))
      go false p false q =
          let l = ltb-false lead 128 p in
          write_marked (cell_at s) q ∙ marked_full s l small (omega (arith, long, ap length (write_marked (cell_at s) q), marked-length (cell_at s)))

  written_short : write_cell (cell_at s) ≡ take (needed s) s → is_short s ≡ true
  unfolding is_short goes_plain
  written_short h = go (ltb (get_or s 0 0) 128) refl (goes_plain (cell_at s)) refl
    where
      lead : get_or (write_cell (cell_at s)) 0 0 ≡ get_or s 0 0
      lead = ap (λ (l : List ℕ). get_or l 0 0) h ∙ get_or-take (needed s) s 0 0 (length_some (get_or s 0 0))

      long : length (write_cell (cell_at s)) ≡ needed s
      long = ap length h ∙ length-take-le (needed s) s fits

      passes : get_or s 0 0 < 160 → get_or s 0 0 / 128 + length (kepts (cell_at s)) ≡ needed s
          → short_by (get_or s 0 0) (needed s) (length (kepts (cell_at s))) (length (write_cell (cell_at s))) ≡ true
      passes l e =
          let fields = eq-eqb (get_or s 0 0 / 128 + length (kepts (cell_at s))) (needed s) e in
          rw (lt-ltb (get_or s 0 0) 160 l, fields, eq-eqb (length (write_cell (cell_at s))) (needed s) long)

      go : (t : Bool) → ltb (get_or s 0 0) 128 ≡ t → (u : Bool) → goes_plain (cell_at s) ≡ u
          → short_by (get_or s 0 0) (needed s) (length (kepts (cell_at s))) (length (write_cell (cell_at s))) ≡ true
      go true p true q =
          let l = ltb-true (get_or s 0 0) 128 p in
          passes (omega arith) (omega (arith, length_plain (get_or s 0 0) l, kept_most, plain_many (get_or (cell_at s) 0 0) (length (kepts (cell_at s))) q))
      go true p false q =
          let l = ltb-true (get_or s 0 0) 128 p in
          absurd (omega (arith, lead, ap (λ (l : List ℕ). get_or l 0 0) (write_marked (cell_at s) q), lead_marked (cell_at s)))
      go false p true q =
          let l = ltb-false (get_or s 0 0) 128 p in
          let many = plain_many (get_or (cell_at s) 0 0) (length (kepts (cell_at s))) q in
          absurd (omega (arith, kept_stored s l, long, ap length (write_plain (cell_at s) q), cell_length s, many))
      go false p false q =
          let l = ltb-false (get_or s 0 0) 128 p in
          let w = write_marked (cell_at s) q in
          let m : get_or s 0 0 ≡ 128 + marks (cell_at s) = sym lead ∙ ap (λ (l : List ℕ). get_or l 0 0) w ∙ lead_marked (cell_at s) in
          let few = rw (five_same (cell_at s) (cell_length s)) at (marks-small (cell_at s)) in
          passes (omega arith) (omega (arith, long, ap length w, marked-length (cell_at s)))

  pub short_exact : (is_short s ≡ true) ↔ (write_cell (cell_at s) ≡ take (needed s) s)
  short_exact = (short_written, written_short)
