-- Laws of bytes that aren't 0, and of a cell's weight: how long its shortest form is, and whether it stands in it. Assumes nothing.
use Prim.Native.Nat.{ℕ, zero, suc, ◌+◌, ◌-◌, ◌*◌, ◌/◌, ◌%◌, ◌≤◌, ◌<◌}
use mir.Val.{bool_byte}
use mathlib.Core.Bool.{Bool, true, false, not, cond, ◌&&◌, and-false}
use mathlib.Core.List.{List, [], ◌∷◌, ◌++◌}
use mathlib.Core.Path.{◌≡◌, refl, sym, ap, ◌∙◌}
use native.Mathlib.Nat.{suc-mul, add_comm}
use native.Mathlib.Omega.{arith}
use borrow.Author.Tests.{lt-ltb, ltb-true, ltb-false, eq-eqb, ne_eqb, eqb-true, eqb-false}
use lib.Count.{ones_in}
use lib.Dec.{ltb, eqb}
use lib.ListN.{length, get_or, take, drop, length-append, length-drop}
use lib.Seq.{drop-drop, get_or-drop, length-take-le}
use Rattle.xm.specs.Cell.{fields_by, needed, cell_at, bit, kept, kepts, write_cell}
use Rattle.xm.specs.Short.{shortest_by, is_short}
use Rattle.xm.proofs.Cell.{bit_most, bit_none, bit_some, kept-length, kepts_most, kepts_sum, ones-five, length_plain, length_marked, cell_plain, cell_marked}
use Rattle.xm.proofs.Cell.{cell_length, many_plain, few_marked, marked_high}
use Rattle.xm.proofs.Lay.{head_at_lem}
use Rattle.xm.proofs.Short.{shortest_by_lem}
use Rattle.std.specs.Simd.{first_chunks}
use Rattle.cell.proofs.ReadLaws.{one_if}
use Rattle.cell.proofs.Bits.{ones_all, all_ones}
use Rattle.ahead.proofs.Lengths.{length_six}
use Rattle.measure.specs.Weight.{some_of, plain_weight, marked_weight, weight_of, long_lead}

-- Bytes that aren't 0: of one row and another, at most all, and of five
pub some_add : (a b : ℕ) (s : List ℕ) → some_of (a + b) s ≡ some_of a s + some_of b (drop a s)
unfolding some_of
some_add zero b s = let z : 0 + b ≡ b = omega arith in rw z (omega arith)
some_add (suc a) b s =
    let more : suc a + b ≡ suc (a + b) = omega arith in
    let one : 1 + a ≡ suc a = omega arith in
    rw more (rw (some_add a b (drop 1 s), drop-drop, one) (omega arith))

pub some_none : (s : List ℕ) → some_of 0 s ≡ 0
unfolding some_of
some_none s = refl

pub some_most : (n : ℕ) (s : List ℕ) → some_of n s ≤ n
unfolding some_of
some_most zero s = omega arith
some_most (suc n) s = omega (arith, bit_most (get_or s 0 0), some_most n (drop 1 s))

pub some_after : (i : ℕ) (s : List ℕ) → some_of (i + 1) s ≡ some_of i s + bit (get_or s i 0)
unfolding some_of
some_after i s = some_add i 1 s ∙ rw (head_at_lem i s 0) (omega arith)

-- of the bytes in front
some_take : (n m : ℕ) (s : List ℕ) → n ≤ m → some_of n (take m s) ≡ some_of n s
unfolding some_of
some_take zero m s h = refl
some_take (suc n) zero s h = absurd (omega arith)
some_take (suc n) (suc m) [] h = refl
some_take (suc n) (suc m) (x ∷ s) h = ap (λ (k : ℕ). bit x + k) (some_take n m s (omega arith))

pub some_front : (n : ℕ) (s : List ℕ) → n ≤ length s → some_of (length (take n s)) (take n s) ≡ some_of n s
some_front n s h = ap (λ (k : ℕ). some_of k (take n s)) (length-take-le n s h) ∙ some_take n n s (omega arith)

-- One byte more, and a block of those that they come in
pub some_one : (i : ℕ) (s : List ℕ) {one : ℕ} → one ≡ bool_byte (not (eqb (get_or s i 0) 0)) → some_of (i + 1) s ≡ some_of i s + one
some_one i s e = some_after i s ∙ ap (λ (n : ℕ). some_of i s + n) (sym (one_if (get_or s i 0) e))

chunk_at : (n k i : ℕ) (s : List ℕ) → i < k → get_or (first_chunks n k s) i [] ≡ take n (drop (i * n) s)
chunk_at n zero i s h = absurd (omega arith)
chunk_at n (suc k) zero s h = let z : zero * n ≡ 0 = omega arith in rw z refl
chunk_at n (suc k) (suc i) s h =
    chunk_at n k i (drop n s) (omega arith) ∙ ap (take n) (drop-drop (i * n) n s ∙ ap (λ (m : ℕ). drop m s) (sym (suc-mul i n ∙ add_comm (i * n) n)))

pub some_block : (k i : ℕ) (s : List ℕ) {blocks : List (List ℕ)} → blocks ≡ first_chunks 64 k s → i < k
    → some_of ((i + 1) * 64) s ≡ some_of (i * 64) s + some_of 64 (get_or blocks i [])
some_block k i s e h =
    let more : (i + 1) * 64 ≡ i * 64 + 64 = omega arith in
    rw (e, more, chunk_at 64 k i s h) (some_add (i * 64) 64 s ∙ ap (λ (n : ℕ). some_of (i * 64) s + n) (sym (some_take 64 64 (drop (i * 64) s) (omega arith))))

pub some_rest : (s : List ℕ) {rest : List ℕ} → rest ≡ drop (length s / 64 * 64) s
    → some_of (length s) s ≡ some_of (length s / 64 * 64) s + some_of (length rest) rest
some_rest s e =
    let all : length s / 64 * 64 + (length s - length s / 64 * 64) ≡ length s = omega arith in
    sym (ap (λ (n : ℕ). some_of n s) all) ∙ some_add (length s / 64 * 64) (length s - length s / 64 * 64) s
    ∙ rw e (ap (λ (n : ℕ). some_of (length s / 64 * 64) s + some_of n (drop (length s / 64 * 64) s)) (sym (length-drop (length s / 64 * 64) s)))

some_five : (s : List ℕ) → some_of 5 s ≡ bit (get_or s 0 0) + (bit (get_or s 1 0) + (bit (get_or s 2 0) + (bit (get_or s 3 0) + bit (get_or s 4 0))))
unfolding some_of
some_five [] = refl
some_five (a ∷ []) = omega arith
some_five (a ∷ b ∷ []) = omega arith
some_five (a ∷ b ∷ c ∷ []) = omega arith
some_five (a ∷ b ∷ c ∷ d ∷ []) = omega arith
some_five (a ∷ b ∷ c ∷ d ∷ e ∷ s) = omega arith

-- Fields that are kept are those stored bytes that aren't 0
some_fields : (count bits : ℕ) (s : List ℕ) → length (kepts (fields_by count bits s)) ≡ some_of (ones_in count bits) s
unfolding some_of kepts ones_in fields_by
some_fields zero bits s = refl
some_fields (suc count) bits s = go (some_fields count (bits / 2)) (bits % 2) refl
  where
    go : ((t : List ℕ) → length (kepts (fields_by count (bits / 2) t)) ≡ some_of (ones_in count (bits / 2)) t) → (d : ℕ) → bits % 2 ≡ d
        → length (kept (cond (eqb d 0) 0 (get_or s 0 0)) ++ kepts (fields_by count (bits / 2) (drop d s))) ≡ some_of (d + ones_in count (bits / 2)) s
    go ih zero e =
        let j : 0 + ones_in count (bits / 2) ≡ ones_in count (bits / 2) = omega arith in
        rw (length-append, kept-length, j) (omega (arith, ih s))
    go ih (suc zero) e =
        let j : 1 + ones_in count (bits / 2) ≡ suc (ones_in count (bits / 2)) = omega arith in
        rw (length-append, kept-length, j) (ap (λ (n : ℕ). bit (get_or s 0 0) + n) (ih (drop 1 s)))
    go ih (suc (suc d)) e = absurd (omega arith)

-- What a cell's weight says: how long its shortest form is, and whether it stands in it
pub record Weighs (d : List ℕ) : Type 0 where
  pub extra : some_of (needed d) d + weight_of d % 16 ≡ length (write_cell (cell_at d)) + 1
  pub short : is_short d ≡ (eqb (weight_of d / 16) 0 && eqb (length (write_cell (cell_at d))) (needed d))
  pub most : weight_of d ≤ 255

and_implied : (a b : Bool) → (b ≡ true → a ≡ true) → (a && b) ≡ b
and_implied a true h = rw (h refl)
and_implied a false h = and-false a

module _ (d : List ℕ) (small : get_or d 0 0 ≤ 255) where
  abbrev lead : ℕ
  lead = get_or d 0 0

  abbrev note : ℕ
  note = get_or (cell_at d) 0 0

  abbrev fields : ℕ
  fields = length (kepts (cell_at d))

  abbrev shortest : ℕ
  shortest = length (write_cell (cell_at d))

  abbrev Says : (weight : ℕ) → Type 0
  Says weight =
      (lead / 128 + fields + weight % 16 ≡ shortest + 1)
      × ((ltb lead 160 && (eqb (lead / 128 + fields) (needed d) && eqb shortest (needed d))) ≡ (eqb (weight / 16) 0 && eqb shortest (needed d)))
      × (weight ≤ 255)

  cost : shortest ≡ shortest_by note fields
  cost = sym (shortest_by_lem (cell_at d) (cell_length d))

  -- A plain cell has five bytes, and is full or gets a lead byte
  module _ (plain : lead < 128) where
    abbrev others : ℕ
    others = bit (get_or d 1 0) + bit (get_or d 2 0) + bit (get_or d 3 0) + bit (get_or d 4 0)

    plain_kept : fields ≡ bit lead + others
    plain_kept =
        ap (λ (l : List ℕ). length (kepts l)) (cell_plain d plain) ∙ kepts_sum lead (get_or d 1 0) (get_or d 2 0) (get_or d 3 0) (get_or d 4 0) ∙ omega arith

    plain_some : some_of (needed d) d ≡ lead / 128 + fields
    plain_some = rw (length_plain lead plain) (omega (arith, some_five d, plain_kept))

    plain_says : (t : Bool) → eqb (bit lead + others) 5 ≡ t → Says (cond t 1 18)
    plain_says true e =
        let full : fields ≡ 5 = plain_kept ∙ eqb-true (bit lead + others) 5 e in
        let low : note ≡ lead = ap (λ (l : List ℕ). get_or l 0 0) (cell_plain d plain) in
        let c : shortest ≡ 5 = cost ∙ rw (many_plain note fields (omega arith) (omega arith)) in
        let n = length_plain lead plain in
        (omega arith, rw (lt-ltb lead 160 (omega arith), eq-eqb (lead / 128 + fields) (needed d) (omega arith)), omega arith)
    plain_says false e =
        let lacks = eqb-false (bit lead + others) 5 e in
        let few : fields ≤ 4 =
        omega (arith, plain_kept, lacks, bit_most lead, bit_most (get_or d 1 0), bit_most (get_or d 2 0), bit_most (get_or d 3 0), bit_most (get_or d 4 0)) in
        let c : shortest ≡ 1 + fields = cost ∙ rw (few_marked note fields few) in
        let n = length_plain lead plain in
        (omega arith, rw (lt-ltb lead 160 (omega arith), ne_eqb (lead / 128 + fields) (needed d) (λ z. omega arith)), omega arith)

  -- A marked one has its lead byte, which it loses if it is full and its note can stand plain
  module _ (mark : 128 ≤ lead) where
    abbrev behind : ℕ
    behind = bit (get_or d 1 0) + bit (get_or d 2 0) + bit (get_or d 3 0) + bit (get_or d 4 0) + bit (get_or d 5 0)

    marked-length : needed d ≡ 1 + ones_in 5 lead
    unfolding ones_in
    marked-length = length_marked lead mark ∙ ap (λ (n : ℕ). 1 + n) (ones-five lead)

    marked_kept : fields ≡ some_of (ones_in 5 lead) (drop 1 d)
    marked_kept = ap (λ (l : List ℕ). length (kepts l)) (cell_marked d mark) ∙ some_fields 5 lead (drop 1 d)

    marked_some : some_of (needed d) d ≡ lead / 128 + fields
    unfolding some_of
    marked_some =
        rw (marked-length, some_add 1 (ones_in 5 lead) d, ← marked_kept) (omega (arith, bit_some lead (λ z. omega arith), bit_most lead))

    behind_some : some_of 5 (drop 1 d) ≡ behind
    behind_some = some_five (drop 1 d) ∙ simp get_or-drop (omega arith)

    -- all five fields are there, and none is 0
    full_kept : lead % 32 + behind ≡ 36 → (lead % 32 ≡ 31) × (fields ≡ 5)
    full_kept e =
        let all : lead % 32 ≡ 31 = omega (arith, some_most 5 (drop 1 d), behind_some) in
        (all, marked_kept ∙ rw (all_ones lead all) (omega (arith, behind_some)))

    kept_full : fields ≡ 5 → lead % 32 + behind ≡ 36
    kept_full e =
        let five : ones_in 5 lead ≡ 5 = omega (arith, marked_kept, some_most (ones_in 5 lead) (drop 1 d), marked-length, length_six lead) in
        let all = ones_all lead (omega arith) in
        omega (arith, behind_some, marked_kept ∙ ap (λ (n : ℕ). some_of n (drop 1 d)) five)

    marked_same : (weight : ℕ) → shortest ≤ 1 + fields → (v : Bool) → ltb lead 160 ≡ v → eqb (weight / 16) 0 ≡ v
        → (ltb lead 160 && (eqb (lead / 128 + fields) (needed d) && eqb shortest (needed d))) ≡ (eqb (weight / 16) 0 && eqb shortest (needed d))
    marked_same weight least true e q =
        rw (e, q) (and_implied (eqb (lead / 128 + fields) (needed d)) (eqb shortest (needed d))
        (λ t. eq-eqb (lead / 128 + fields) (needed d)
        (omega (arith, eqb-true shortest (needed d) t, marked-length, marked_kept, some_most (ones_in 5 lead) (drop 1 d)))))
    marked_same weight least false e q = rw (e, q)

    odd_weight : (x : ℕ) → x ≤ 1 → (v : Bool) → eqb ((x + cond v 0 16) / 16) 0 ≡ v
    odd_weight x h true = eq-eqb ((x + 0) / 16) 0 (omega arith)
    odd_weight x h false = ne_eqb ((x + 16) / 16) 0 (λ z. omega arith)

    marked_by : (x : ℕ) → x ≤ 1 → (v : Bool) → ltb lead 160 ≡ v → 1 + fields + x ≡ shortest + 1 → Says (x + cond v 0 16)
    marked_by x h true e long = (omega arith, marked_same (x + 0) (omega arith) true e (odd_weight x h true), omega arith)
    marked_by x h false e long = (omega arith, marked_same (x + 16) (omega arith) false e (odd_weight x h false), omega arith)

    marked_says : (t : Bool) → eqb (lead % 32 + behind) 36 ≡ t → (u : Bool) → ltb (get_or d 1 0) 128 ≡ u → (v : Bool) → ltb lead 160 ≡ v
        → Says (cond t (cond u 0 1) 1 + cond v 0 16)
    unfolding fields_by
    marked_says true e u q v r =
        let full = full_kept (eqb-true (lead % 32 + behind) 36 e) in
        let odd : lead % 2 ≡ 0 → ⊥ = λ z. omega (arith, full.0) in
        let same : note ≡ get_or d 1 0 =
        ap (λ (l : List ℕ). get_or l 0 0) (cell_marked d mark) ∙ rw (ne_eqb (lead % 2) 0 odd) (get_or-drop 1 d 0 0) in
        go u q full.1 same
      where
        go : (u : Bool) → ltb (get_or d 1 0) 128 ≡ u → fields ≡ 5 → note ≡ get_or d 1 0 → Says (cond u 0 1 + cond v 0 16)
        go true q all same =
            let low = ltb-true (get_or d 1 0) 128 q in
            let c : shortest ≡ 5 = cost ∙ rw (many_plain note fields (omega arith) (omega arith)) in
            marked_by 0 (omega arith) v r (omega arith)
        go false q all same =
            let high = ltb-false (get_or d 1 0) 128 q in
            let c : shortest ≡ 1 + fields = cost ∙ rw (marked_high note fields (omega arith)) in
            marked_by 1 (omega arith) v r (omega arith)
    marked_says false e u q v r =
        let other = eqb-false (lead % 32 + behind) 36 e in
        let five : fields ≡ 5 → ⊥ = λ z. other (kept_full z) in
        let few : fields ≤ 4 = omega (arith, five, kepts_most (cell_at d), cell_length d) in
        let c : shortest ≡ 1 + fields = cost ∙ rw (few_marked note fields few) in
        marked_by 1 (omega arith) v r (omega arith)

pub weighs : (d : List ℕ) → get_or d 0 0 ≤ 255 → Weighs d
unfolding weight_of is_short
weighs d small = go (ltb (get_or d 0 0) 128) refl
  where
    go : (t : Bool) → ltb (get_or d 0 0) 128 ≡ t → Weighs d
    go true e =
        let plain = ltb-true (get_or d 0 0) 128 e in
        let says = plain_says d small plain (eqb (bit (get_or d 0 0) + others d small plain) 5) refl in
        let w : weight_of d ≡ cond (eqb (bit (get_or d 0 0) + others d small plain) 5) 1 18 = rw e in
        record { extra = rw (w, plain_some d small plain) says.0; short = rw w says.1; most = rw w says.2 }
    go false e =
        let mark = ltb-false (get_or d 0 0) 128 e in
        let says = marked_says d small mark (eqb (get_or d 0 0 % 32 + behind d small mark) 36) refl (ltb (get_or d 1 0) 128) refl (ltb (get_or d 0 0) 160) refl in
        let w : weight_of d ≡ marked_weight (get_or d 0 0) (get_or d 1 0) (behind d small mark) = rw e in
        record { extra = rw (w, marked_some d small mark) says.0; short = rw w says.1; most = rw w says.2 }

-- The weight by the bytes where they stand
pub weight_by : (s : List ℕ) (place : ℕ) {a b c d e plain marked weight : ℕ} → a ≡ bit (get_or s (place + 1) 0) → b ≡ bit (get_or s (place + 2) 0)
    → c ≡ bit (get_or s (place + 3) 0) → d ≡ bit (get_or s (place + 4) 0) → e ≡ bit (get_or s (place + 5) 0)
    → plain ≡ plain_weight (get_or s place 0) (a + b + c + d) → marked ≡ marked_weight (get_or s place 0) (get_or s (place + 1) 0) (a + b + c + d + e)
    → weight ≡ cond (ltb (get_or s place 0) 128) plain marked → weight ≡ weight_of (drop place s)
unfolding weight_of
weight_by s place ea eb ec ed ee ep em ew =
    ew ∙ rw (
      ep,
      em,
      ea,
      eb,
      ec,
      ed,
      ee,
      head_at_lem place s 0,
      get_or-drop place s 1 0,
      get_or-drop place s 2 0,
      get_or-drop place s 3 0,
      get_or-drop place s 4 0,
      get_or-drop place s 5 0,
    )

pub cond_most : (t : Bool) {a b n : ℕ} → a ≤ n → b ≤ n → cond t a b ≤ n
cond_most true h k = h
cond_most false h k = k

-- Where all are some, none is 0
pub some_all : (n : ℕ) (s : List ℕ) → some_of n s ≡ n → (i : ℕ) → i < n → get_or s i 0 ≡ 0 → ⊥
unfolding some_of
some_all zero s e i h z = absurd (omega arith)
some_all (suc n) s e zero h z = omega (arith, bit_none (get_or s 0 0) z, some_most n (drop 1 s))
some_all (suc n) s e (suc i) h z =
    let one : 1 + i ≡ suc i = omega arith in
    some_all n (drop 1 s) (omega (arith, bit_most (get_or s 0 0), some_most n (drop 1 s))) i (omega arith) (get_or-drop 1 s i 0 ∙ rw one z)

-- A cell in its shortest form none of whose fields is 0 has the weight 1
pub weight_one : (d : List ℕ) → ((i : ℕ) → i < 6 → get_or d i 0 ≡ 0 → ⊥) → long_lead (get_or d 0 0) (get_or d 1 0) ≡ false → weight_of d ≡ 1
unfolding weight_of long_lead
weight_one d none e =
    let a = bit_some (get_or d 0 0) (none 0 (omega arith)) in
    let b = bit_some (get_or d 1 0) (none 1 (omega arith)) in
    let c = bit_some (get_or d 2 0) (none 2 (omega arith)) in
    let f = bit_some (get_or d 3 0) (none 3 (omega arith)) in
    let g = bit_some (get_or d 4 0) (none 4 (omega arith)) in
    let h = bit_some (get_or d 5 0) (none 5 (omega arith)) in
    rw (a, b, c, f, g, h) (go (ltb (get_or d 0 0) 128) refl (eqb (get_or d 0 0) 159) refl e)
  where
    go : (t : Bool) → ltb (get_or d 0 0) 128 ≡ t → (u : Bool) → eqb (get_or d 0 0) 159 ≡ u → cond u (ltb (get_or d 1 0) 128) (ltb 159 (get_or d 0 0)) ≡ false
        → cond t 1 (cond (eqb (get_or d 0 0 % 32 + 5) 36) (cond (ltb (get_or d 1 0) 128) 0 1) 1 + cond (ltb (get_or d 0 0) 160) 0 16) ≡ 1
    go true p u q e = refl
    go false p true q e =
        let l = eqb-true (get_or d 0 0) 159 q in
        rw (e, lt-ltb (get_or d 0 0) 160 (omega arith), eq-eqb (get_or d 0 0 % 32 + 5) 36 (omega arith))
    go false p false q e =
        let other = eqb-false (get_or d 0 0) 159 q in
        let low = ltb-false 159 (get_or d 0 0) e in
        let high = ltb-false (get_or d 0 0) 128 p in
        rw (lt-ltb (get_or d 0 0) 160 (omega arith), ne_eqb (get_or d 0 0 % 32 + 5) 36 (λ z. omega (arith, other)))
