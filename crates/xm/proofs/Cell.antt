-- Laws of one cell: its length and fields by its lead byte, each answer of reading it, that what is written reads back, and that
-- what is read is kept and written in no more bytes. Assumes nothing.
use Prim.Native.Nat.{ℕ, zero, suc, ◌+◌, ◌*◌, ◌/◌, ◌%◌, ◌≤◌, ◌<◌}
use mathlib.Core.Bool.{Bool, true, false, cond, and-eq-true_iff, and-false}
use mathlib.Core.List.{List, [], ◌∷◌, ◌++◌, append_assoc, append-nil}
use mathlib.Core.Path.{◌≡◌, refl, sym, ap, ◌∙◌}
use native.Mathlib.Omega.{arith}
use borrow.Author.Tests.{ltb-true, ltb-false, lt-ltb, le-ltb, eqb-false}
use lib.Count.{ones, ones_in, ones_step}
use lib.Dec.{ltb, eqb}
use lib.ListN.{length, get_or, drop, length-append, get_or-append}
use lib.Seq.{drop-drop}
use Rattle.xm.specs.Number.{Bytes}
use Rattle.xm.specs.Got.{got, refused, present, ◌at◌}
use Rattle.xm.specs.Format.{All}
use Rattle.xm.specs.Cell.{five, length_by, field_by, fields_by, needed, cell_at, read_cell, bit, kept, marks, kepts, marked}
use Rattle.xm.specs.Cell.{stands_plain, plain_shorter, plain_by, goes_plain, write_cell, cell_most, GoodCell, cell_format}
use Rattle.xm.proofs.Number.{bytes_drop, bytes_nil, bytes_cons, bytes_tail, bytes_append}
use Rattle.xm.proofs.Got.{test_fails, pass, passed, got_value, got_used, got_both, got_carry}
use Rattle.xm.proofs.Format.{Back, Keeps, Held}

-- Lists of five
pub five_same : (cell : List ℕ) → length cell ≡ 5 → five cell ≡ cell
five_same [] e = absurd (omega arith)
five_same (a ∷ []) e = absurd (omega arith)
five_same (a ∷ b ∷ []) e = absurd (omega arith)
five_same (a ∷ b ∷ c ∷ []) e = absurd (omega arith)
five_same (a ∷ b ∷ c ∷ d ∷ []) e = absurd (omega arith)
five_same (a ∷ b ∷ c ∷ d ∷ f ∷ []) e = refl
five_same (a ∷ b ∷ c ∷ d ∷ f ∷ g ∷ r) e = absurd (omega arith)

pub five_front : (cell rest : List ℕ) → length cell ≡ 5 → five (cell ++ rest) ≡ cell
five_front cell rest h = ap (λ (c : List ℕ). five (c ++ rest)) (sym (five_same cell h)) ∙ five_same cell h

pub five_bytes_lem : {s : List ℕ} → Bytes s → Bytes (five s)
five_bytes_lem b = bytes_cons (b.below 0) (bytes_cons (b.below 1) (bytes_cons (b.below 2) (bytes_cons (b.below 3) (bytes_cons (b.below 4) bytes_nil))))

-- One field: its bit, and whether it is kept
pub bit_most : (x : ℕ) → bit x ≤ 1
bit_most zero = omega arith
bit_most (suc x) = omega arith

pub bit_none : (x : ℕ) → x ≡ 0 → bit x ≡ 0
bit_none x e = rw e

pub bit_some : (x : ℕ) → (x ≡ 0 → ⊥) → bit x ≡ 1
bit_some zero h = absurd (h refl)
bit_some (suc x) h = refl

pub kept_none : (x : ℕ) → x ≡ 0 → kept x ≡ []
unfolding kept
kept_none x e = rw e

pub kept_some : (x : ℕ) → (x ≡ 0 → ⊥) → kept x ≡ x ∷ []
unfolding kept
kept_some zero h = absurd (h refl)
kept_some (suc x) h = refl

pub kept-length : (x : ℕ) → length (kept x) ≡ bit x
unfolding kept
kept-length zero = refl
kept-length (suc x) = refl

kept_bytes : (x : ℕ) → x < 256 → Bytes (kept x)
unfolding kept
kept_bytes zero h = bytes_nil
kept_bytes (suc x) h = bytes_cons h bytes_nil

kepts_bytes : (cell : List ℕ) → Bytes cell → Bytes (kepts cell)
unfolding kepts
kepts_bytes [] b = bytes_nil
kepts_bytes (x ∷ xs) b = bytes_append (kept_bytes x (b.below 0)) (kepts_bytes xs (bytes_tail b))

-- The lead byte and the count of what is kept, as sums of bits
pub marks_sum : (a b c d e : ℕ) → marks (a ∷ b ∷ c ∷ d ∷ e ∷ []) ≡ bit a + 2 * bit b + 4 * bit c + 8 * bit d + 16 * bit e
unfolding marks
marks_sum a b c d e = omega arith

pub kepts_sum : (a b c d e : ℕ) → length (kepts (a ∷ b ∷ c ∷ d ∷ e ∷ [])) ≡ bit a + (bit b + (bit c + (bit d + bit e)))
unfolding kepts
kepts_sum a b c d e = simp (length-append, append-nil, kept-length)

pub marked-length : (cell : List ℕ) → length (marked cell) ≡ 1 + length (kepts cell)
unfolding marked
marked-length cell = omega arith

pub marks-small : (s : List ℕ) → marks (five s) < 32
marks-small s =
    omega (
      arith,
      marks_sum (get_or s 0 0) (get_or s 1 0) (get_or s 2 0) (get_or s 3 0) (get_or s 4 0),
      bit_most (get_or s 0 0),
      bit_most (get_or s 1 0),
      bit_most (get_or s 2 0),
      bit_most (get_or s 3 0),
      bit_most (get_or s 4 0),
    )

-- The ones of the low bits, one bit at a time: those of the low five are the five bits' sum
ones_low : (b j k : ℕ) → b % j % 2 ≡ b % 2 → b % j / 2 ≡ b / 2 % k → ones (b % j) ≡ b % 2 + ones (b / 2 % k)
ones_low b j k p q = ones_step (b % j) ∙ rw (p, q)

pub ones-five : (b : ℕ) → ones (b % 32) ≡ b % 2 + (b / 2 % 2 + (b / 2 / 2 % 2 + (b / 2 / 2 / 2 % 2 + (b / 2 / 2 / 2 / 2 % 2 + 0))))
unfolding ones
ones-five b =
    rw (
      ones_low b 32 16 (omega arith) (omega arith),
      ones_low (b / 2) 16 8 (omega arith) (omega arith),
      ones_low (b / 2 / 2) 8 4 (omega arith) (omega arith),
      ones_low (b / 2 / 2 / 2) 4 2 (omega arith) (omega arith),
      ones_low (b / 2 / 2 / 2 / 2) 2 1 (omega arith) (omega arith),
    )
    (let e : b / 2 / 2 / 2 / 2 / 2 % 1 ≡ 0 = omega arith in rw e)

ones_in_lem : (b : ℕ) → ones (b % 32) ≡ ones_in 5 b
unfolding ones_in
ones_in_lem b = ones-five b

-- A plain and a marked cell: its length and its fields
pub length_plain : (lead : ℕ) → lead < 128 → length_by lead ≡ 5
unfolding length_by
length_plain lead h = rw (lt-ltb lead 128 h)

pub length_marked : (lead : ℕ) → 128 ≤ lead → length_by lead ≡ 1 + ones (lead % 32)
unfolding length_by
length_marked lead h = rw (le-ltb lead 128 h)

pub cell_plain : (s : List ℕ) → get_or s 0 0 < 128 → cell_at s ≡ five s
unfolding cell_at
cell_plain s h = rw (lt-ltb (get_or s 0 0) 128 h)

pub cell_marked : (s : List ℕ) → 128 ≤ get_or s 0 0 → cell_at s ≡ fields_by 5 (get_or s 0 0) (drop 1 s)
unfolding cell_at
cell_marked s h = rw (le-ltb (get_or s 0 0) 128 h)

-- Each cell stored takes one byte or more
pub length_some : (lead : ℕ) → 1 ≤ length_by lead
unfolding length_by
length_some lead = go (ltb lead 128)
  where
    go : (t : Bool) → 1 ≤ cond t 5 (1 + ones (lead % 32))
    go true = omega arith
    go false = omega arith

-- A marked cell's five fields, each at its place
pub fields_at : (count bits place : ℕ) (s : List ℕ)
    → fields_by (suc count) bits (drop place s) ≡ field_by bits (drop place s) ∷ fields_by count (bits / 2) (drop (place + bits % 2) s)
unfolding fields_by
fields_at count bits place s = rw drop-drop

fields_length : (count bits : ℕ) (s : List ℕ) → length (fields_by count bits s) ≡ count
unfolding fields_by
fields_length zero bits s = refl
fields_length (suc count) bits s = ap suc (fields_length count (bits / 2) (drop (bits % 2) s))

-- A cell has five fields, and they are bytes
pub cell_length : (s : List ℕ) → length (cell_at s) ≡ 5
unfolding cell_at
cell_length s = go (ltb (get_or s 0 0) 128)
  where
    go : (t : Bool) → length (cond t (five s) (fields_by 5 (get_or s 0 0) (drop 1 s))) ≡ 5
    go true = refl
    go false = fields_length 5 (get_or s 0 0) (drop 1 s)

field_bytes : (bits : ℕ) (s : List ℕ) → Bytes s → field_by bits s < 256
field_bytes bits s b = go (eqb (bits % 2) 0)
  where
    go : (t : Bool) → cond t 0 (get_or s 0 0) < 256
    go true = omega arith
    go false = b.below 0

fields_bytes : (count bits : ℕ) (s : List ℕ) → Bytes s → Bytes (fields_by count bits s)
unfolding fields_by
fields_bytes zero bits s b = bytes_nil
fields_bytes (suc count) bits s b = bytes_cons (field_bytes bits s b) (fields_bytes count (bits / 2) (drop (bits % 2) s) (bytes_drop (bits % 2) b))

pub cell_bytes_lem : (s : List ℕ) → Bytes s → Bytes (cell_at s)
unfolding cell_at
cell_bytes_lem s b = go (ltb (get_or s 0 0) 128)
  where
    go : (t : Bool) → Bytes (cond t (five s) (fields_by 5 (get_or s 0 0) (drop 1 s)))
    go true = five_bytes_lem b
    go false = fields_bytes 5 (get_or s 0 0) (drop 1 s) (bytes_drop 1 b)

-- The two answers of reading a cell
module _ (place : ℕ) (s : List ℕ) where
  pub read_short : length s < needed s → read_cell place s ≡ refused (7 at place)
  unfolding read_cell
  read_short h = test_fails (present (needed s) (length s) (7 at place)) _ _ (λ p. omega arith)

  pub read_got : needed s ≤ length s → read_cell place s ≡ got (cell_at s) (needed s)
  unfolding read_cell
  read_got h = pass _ (omega arith) refl

-- What one cell that was read says
pub record CellRead (s cell : List ℕ) (used : ℕ) : Type 0 where
  pub fits : needed s ≤ length s
  pub same : cell ≡ cell_at s
  pub long : used ≡ needed s

pub cell_read : (place : ℕ) (s cell : List ℕ) (used : ℕ) → read_cell place s ≡ got cell used → CellRead s cell used
unfolding read_cell
cell_read place s cell used e = passed _ _ e λ h e. record { fits = h.0; same = sym (got_value e); long = sym (got_used e) }

-- Plain or marked
pub write_plain : (cell : List ℕ) → goes_plain cell ≡ true → write_cell cell ≡ cell
unfolding write_cell
write_plain cell e = rw e

pub write_marked : (cell : List ℕ) → goes_plain cell ≡ false → write_cell cell ≡ marked cell
unfolding write_cell
write_marked cell e = rw e

pub kepts_most : (cell : List ℕ) → length (kepts cell) ≤ length cell
unfolding kepts
kepts_most [] = omega arith
kepts_most (x ∷ xs) = rw length-append (omega (arith, kepts_most xs, kept-length x, bit_most x))

kepts_all : (cell : List ℕ) → All (λ (x : ℕ). x ≡ 0 → ⊥) cell → length (kepts cell) ≡ length cell
unfolding kepts
kepts_all [] h = refl
kepts_all (x ∷ xs) h = rw length-append (omega (arith, kepts_all xs h.1, kept-length x, bit_some x h.0))

-- Plain if that can be read back and is shorter
plain_low : (note fields : ℕ) → plain_by note fields ≡ true → note < 128
unfolding plain_by stands_plain
plain_low note fields e = let l = ((and-eq-true_iff (stands_plain note) (plain_shorter fields)).0 e).0 in omega (arith, ltb-true)

pub plain_many : (note fields : ℕ) → plain_by note fields ≡ true → 5 ≤ fields
unfolding plain_by plain_shorter
plain_many note fields e = let l = ((and-eq-true_iff (stands_plain note) (plain_shorter fields)).0 e).1 in omega (arith, ltb-true)

marked_few : (note fields : ℕ) → note < 128 → plain_by note fields ≡ false → fields ≤ 4
unfolding plain_by stands_plain plain_shorter
marked_few note fields h e = let l = rw (lt-ltb note 128 h) at e in omega (arith, ltb-false)

pub many_plain : (note fields : ℕ) → note < 128 → 5 ≤ fields → plain_by note fields ≡ true
unfolding plain_by stands_plain plain_shorter
many_plain note fields h k = rw (lt-ltb note 128 h, lt-ltb 5 (1 + fields) (omega arith))

pub few_marked : (note fields : ℕ) → fields ≤ 4 → plain_by note fields ≡ false
unfolding plain_by plain_shorter
few_marked note fields h = rw (le-ltb 5 (1 + fields) (omega arith), and-false (stands_plain note))

pub marked_high : (note fields : ℕ) → 128 ≤ note → plain_by note fields ≡ false
unfolding plain_by stands_plain
marked_high note fields h = rw (le-ltb note 128 h)

-- A cell of five fields takes 1 to 6 bytes: at most 5 below note 128, and 6 from there up if no field is 0
write_case : (P : List ℕ → Type 0) (cell : List ℕ) → (goes_plain cell ≡ true → P cell) → (goes_plain cell ≡ false → P (marked cell)) → P (write_cell cell)
unfolding write_cell
write_case P cell plain mark = go (goes_plain cell) refl
  where
    go : (t : Bool) → goes_plain cell ≡ t → P (cond t cell (marked cell))
    go true e = plain e
    go false e = mark e

pub write_some : (cell : List ℕ) → length cell ≡ 5 → 1 ≤ length (write_cell cell)
write_some cell h = write_case (λ (w : List ℕ). 1 ≤ length w) cell (λ p. omega arith) (λ p. omega (arith, marked-length cell))

pub write_most : (cell : List ℕ) → length cell ≡ 5 → length (write_cell cell) ≤ cell_most
write_most cell h = write_case (λ (w : List ℕ). length w ≤ cell_most) cell (λ p. omega arith) (λ p. omega (arith, marked-length cell, kepts_most cell))

write_low : (cell : List ℕ) → length cell ≡ 5 → get_or cell 0 0 < 128 → length (write_cell cell) ≤ 5
unfolding goes_plain
write_low cell h low =
    write_case (λ (w : List ℕ). length w ≤ 5) cell (λ p. omega arith)
    (λ p. omega (arith, marked-length cell, marked_few (get_or cell 0 0) (length (kepts cell)) low p))

pub write_full : (cell : List ℕ) → length cell ≡ 5 → 128 ≤ get_or cell 0 0 → All (λ (x : ℕ). x ≡ 0 → ⊥) cell → length (write_cell cell) ≡ 6
unfolding goes_plain
write_full cell h high f =
    ap length (write_marked cell (marked_high (get_or cell 0 0) (length (kepts cell)) high)) ∙ marked-length cell ∙ omega (arith, kepts_all cell f)

write_least : (cell : List ℕ) → length cell ≡ 5 → length (write_cell cell) ≤ 1 + length (kepts cell)
unfolding goes_plain
write_least cell h =
    write_case (λ (w : List ℕ). length w ≤ 1 + length (kepts cell)) cell
    (λ p. omega (arith, plain_many (get_or cell 0 0) (length (kepts cell)) p)) (λ p. omega (arith, marked-length cell))

-- Marks with a number t above their bits: their ones are the fields kept, and these read back
marks_under : ℕ → List ℕ → ℕ
marks_under t [] = t
marks_under t (x ∷ xs) = bit x + 2 * marks_under t xs

marks_low : (t x : ℕ) (xs : List ℕ) → marks_under t (x ∷ xs) % 2 ≡ bit x
unfolding marks_under
marks_low t x xs = omega (arith, bit_most x)

marks_half : (t x : ℕ) (xs : List ℕ) → marks_under t (x ∷ xs) / 2 ≡ marks_under t xs
unfolding marks_under
marks_half t x xs = omega (arith, bit_most x)

marks-ones : (t : ℕ) (cell : List ℕ) → ones_in (length cell) (marks_under t cell) ≡ length (kepts cell)
unfolding ones_in kepts
marks-ones t [] = refl
marks-ones t (x ∷ xs) = rw (marks_low, marks_half, marks-ones t xs, length-append, kept-length)

field_kept : (bits x : ℕ) (s : List ℕ) → bits % 2 ≡ bit x → (field_by bits (kept x ++ s) ≡ x) × (drop (bits % 2) (kept x ++ s) ≡ s)
unfolding kept
field_kept bits zero s e = (rw e, rw e)
field_kept bits (suc x) s e = (rw e, rw e)

on_fields : (t : ℕ) (cell rest : List ℕ) → fields_by (length cell) (marks_under t cell) (kepts cell ++ rest) ≡ cell
unfolding fields_by kepts
on_fields t [] rest = refl
on_fields t (x ∷ xs) rest =
    let h = field_kept (marks_under t (x ∷ xs)) x (kepts xs ++ rest) (marks_low t x xs) in
    rw (append_assoc, h.0, h.1, marks_half, on_fields t xs rest)

-- Four above the five bits is 128
on_five : (s : List ℕ) → 128 + marks (five s) ≡ marks_under 4 (five s)
unfolding marks_under marks
on_five s = omega arith

-- A written cell reads back, with its length, whatever follows
record WrittenBack (cell rest : List ℕ) : Type 0 where
  long : needed (write_cell cell ++ rest) ≡ length (write_cell cell)
  same : cell_at (write_cell cell ++ rest) ≡ cell

plain_back : (cell rest : List ℕ) → length cell ≡ 5 → get_or cell 0 0 < 128 → goes_plain cell ≡ true → WrittenBack cell rest
plain_back cell rest l h e =
    let k : get_or (cell ++ rest) 0 0 < 128 = rw (get_or-append cell rest 0 0 (omega arith)) h in
    record {
      long = rw (write_plain cell e) (length_plain (get_or (cell ++ rest) 0 0) k ∙ sym l);
      same = rw (write_plain cell e) (cell_plain (cell ++ rest) k ∙ five_front cell rest l);
    }

marked_back : (s rest : List ℕ) → goes_plain (five s) ≡ false → WrittenBack (five s) rest
unfolding marked
marked_back s rest e =
    let lead : ℕ = 128 + marks (five s) in
    let big : 128 ≤ lead = omega arith in
    record {
      long =
          let ones = ones_in_lem lead ∙ ap (ones_in 5) (on_five s) ∙ marks-ones 4 (five s) in
          rw (write_marked (five s) e) (length_marked lead big ∙ ap (λ (n : ℕ). 1 + n) ones ∙ omega arith);
      same =
          let behind = kepts (five s) ++ rest in
          let fields = ap (λ (b : ℕ). fields_by 5 b behind) (on_five s) ∙ on_fields 4 (five s) rest in
          rw (write_marked (five s) e) (cell_marked (lead ∷ behind) big ∙ fields);
    }

written_back : (cell rest : List ℕ) → GoodCell cell → WrittenBack cell rest
unfolding goes_plain
written_back cell rest g = go (goes_plain cell) refl
  where
    go : (t : Bool) → goes_plain cell ≡ t → WrittenBack cell rest
    go true e = plain_back cell rest g.size (plain_low (get_or cell 0 0) (length (kepts cell)) e) e
    go false e = rw (five_same cell g.size) at (marked_back cell rest (rw (five_same cell g.size) e))

-- What is written are bytes
write_bytes : (cell : List ℕ) → GoodCell cell → Bytes (write_cell cell)
unfolding marked
write_bytes cell g =
    write_case Bytes cell (λ p. g.plain)
    (λ p. bytes_cons (omega (arith, rw (five_same cell g.size) at (marks-small cell))) (kepts_bytes cell g.plain))

pub cell_back : Back cell_format tt
cell_back = record {
  back = λ place cell rest g.
      let w = written_back cell rest g in
      record {
        found = cell;
        reads =
            read_got place (write_cell cell ++ rest) (omega (arith, w.long, length-append (write_cell cell) rest))
            ∙ got_both w.same w.long;
        same = refl;
      };
  plain = write_bytes;
}

-- No field is kept that was not stored: so what is read as a cell is no shorter than the cell written
field_stored : (bits : ℕ) (s : List ℕ) → length (kept (field_by bits s)) ≤ bits % 2
unfolding kept
field_stored bits s = go (eqb (bits % 2) 0) refl
  where
    go : (t : Bool) → eqb (bits % 2) 0 ≡ t → length (kept (cond t 0 (get_or s 0 0))) ≤ bits % 2
    go true e = omega arith
    go false e = omega (arith, eqb-false (bits % 2) 0 e, kept-length (get_or s 0 0), bit_most (get_or s 0 0))

pub fields_stored : (count bits : ℕ) (s : List ℕ) → length (kepts (fields_by count bits s)) ≤ ones_in count bits
unfolding fields_by kepts ones_in
fields_stored zero bits s = omega arith
fields_stored (suc count) bits s = rw length-append (omega (arith, field_stored bits s, fields_stored count (bits / 2) (drop (bits % 2) s)))

pub write_short : (s : List ℕ) → length (write_cell (cell_at s)) ≤ needed s
write_short s = go (ltb (get_or s 0 0) 128) refl
  where
    go : (t : Bool) → ltb (get_or s 0 0) 128 ≡ t → length (write_cell (cell_at s)) ≤ needed s
    go true e =
        let l = ltb-true (get_or s 0 0) 128 e in
        let low : get_or (cell_at s) 0 0 < 128 = rw (cell_plain s l) l in
        omega (arith, write_low (cell_at s) (cell_length s) low, length_plain (get_or s 0 0) l)
    go false e =
        let h = ltb-false (get_or s 0 0) 128 e in
        omega (
          arith,
          write_least (cell_at s) (cell_length s),
          length_marked (get_or s 0 0) h,
          ones_in_lem (get_or s 0 0),
          ap (λ (c : List ℕ). length (kepts c)) (cell_marked s h),
          fields_stored 5 (get_or s 0 0) (drop 1 s),
        )

pub cell_keeps : Keeps cell_format tt
unfolding read_cell
cell_keeps = record {
  keeps = λ place s cell n b e.
      passed _ _ e λ h e.
      got_carry (λ (c : List ℕ) (u : ℕ). Held cell_format tt place s c u) e
      (record {
        inside = h.0;
        good = record { size = cell_length s; plain = cell_bytes_lem s b };
        short = write_short s;
      });
}
