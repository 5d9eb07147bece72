-- Laws of unpacking and packing: each exit from the tests that lead to it, that they undo one another, and that no stored form is
-- shorter. Assumes nothing.
use Prim.Native.Nat.{ℕ, zero, suc, ◌+◌, ◌*◌, ◌/◌, ◌%◌, ◌≤◌, ◌<◌}
use mathlib.Core.Bool.{Bool, true, false}
use mathlib.Core.List.{List, [], ◌∷◌, ◌++◌}
use mathlib.Core.Path.{◌≡◌, refl, sym, ap, ◌∙◌}
use native.Mathlib.Nat.{mul-le-mul, le_refl}
use native.Mathlib.Omega.{arith}
use lib.ListN.{length, drop, replicate, length-replicate}
use Rattle.xm.specs.Number.{Bytes}
use Rattle.xm.specs.Got.{Refusal, got, refused, present, at_most, exactly, AllHold, ◌at◌}
use Rattle.xm.specs.Format.{EachGood, flat, All}
use Rattle.xm.specs.Answer.{gives, refuses, result, in_front}
use Rattle.xm.specs.Cell.{cell_most, cell_format}
use Rattle.xm.specs.Stored.{Pattern, empty_rows, read_stored, all_zero, needs_no_data, write_stored, GoodPattern, cells_of}
use Rattle.xm.specs.PatternInFile.{data_most, write_pattern}
use Rattle.xm.specs.Packing.{argument_tests, cell_bytes, rows_read, unpacking, unpack_loader}
use Rattle.xm.specs.Packing.{pattern_of, packing, stored_length, pack_numbers, pack_after, pack_loader}
use Rattle.xm.specs.Demands.{KeepsPromise, Accepts, StoredFormOf, WellFormed, UnpacksToCells, PackedShortest, Fifteen, EmptyPatterns, LoaderTells}
use Rattle.xm.proofs.Number.{bytes_nil, bytes_append, bytes_drop, bytes_by}
use Rattle.xm.proofs.Got.{not_both, test_holds, test_fails, pass, step, step_refused, refused_bind, refused_tests}
use Rattle.xm.proofs.Format.{cons_path, all_replicate, each_replicate}
use Rattle.xm.proofs.Cell.{five_bytes_lem}
use Rattle.xm.proofs.Stored.{pattern_path, Fives, Full, flat-length, cells_flat, flat_cells, cells_length, cells_fives, good_count}
use Rattle.xm.proofs.Stored.{good_fives, empty_flat, rows_good, rows_none, none_rows, write_none, write_cells, product_some}
use Rattle.xm.proofs.Stored.{stored_none, stored_plain, stored_back, StoredKept, stored_keeps, stored_rows, stored_most, stored_full}
use Rattle.xm.proofs.Run.{cells_least}
use Rattle.xm.proofs.Refusal.{refusal_numbered, stored_refusals}
use Rattle.xm.proofs.Answer.{answer_gives, answer_refuses, gives_passed, gives_bound, gives_same, refuses-refused, gives-refuses, tests_fail}
use Rattle.xm.proofs.Answer.{refused_passed, SoundRefusal, read_sound, promise_kept, loader_tells, accepted-gives, reported_written}

-- The arguments are in range, as the tests for 16 say
abbrev pub UnpackRange : (rows channels : ℕ) (stored : List ℕ) → Type 0
UnpackRange rows channels stored = AllHold (argument_tests rows channels ++ (at_most data_most (length stored) (16 at 0) ∷ []))

abbrev pub PackRange : (rows channels : ℕ) (cells : List ℕ) → Type 0
PackRange rows channels cells = AllHold (argument_tests rows channels ++ (exactly (rows * channels * 5) (length cells) (16 at 0) ∷ []))

-- What is written is short enough and has room, as the tests for 15 and 14 say
abbrev pub PackRoom : (p : Pattern) (room : ℕ) → Type 0
PackRoom p room = AllHold (at_most data_most (length (write_stored p)) (15 at 0) ∷ present (length (write_stored p)) room (14 at 0) ∷ [])

-- Each exit of unpacking
module _ (rows channels : ℕ) (stored : List ℕ) (room : ℕ) where
  pub unpack_argument : (UnpackRange rows channels stored → ⊥) → unpacking rows channels stored room ≡ refuses (16 at 0)
  unfolding unpacking
  unpack_argument h = answer_refuses _ (tests_fail _ _ (refl, (refl, (refl, tt))) h)

  module _ (range : UnpackRange rows channels stored) where
    pub unpack_cells : {r : Refusal} → read_stored channels rows 0 stored ≡ refused r → unpacking rows channels stored room ≡ refuses r
    unfolding unpacking
    unpack_cells e = answer_refuses _ (pass _ range (step_refused _ e))

    module _ {p : Pattern} {n : ℕ} (reads : read_stored channels rows 0 stored ≡ got p n) where
      pub unpack_room : room < length (cell_bytes p) → unpacking rows channels stored room ≡ refuses (14 at 0)
      unfolding unpacking
      unpack_room h = answer_refuses _ (pass _ range (step _ reads (test_fails _ _ _ (λ k. omega arith))))

      pub unpack_gives : length (cell_bytes p) ≤ room → unpacking rows channels stored room ≡ gives p
      unfolding unpacking
      unpack_gives h = answer_gives _ (pass _ range (step _ reads (pass _ (h, tt) refl)))

-- Each exit of packing
module _ (rows channels : ℕ) (cells : List ℕ) (room : ℕ) where
  pub pack_argument : (PackRange rows channels cells → ⊥) → packing rows channels cells room ≡ refuses (16 at 0)
  unfolding packing
  pack_argument h = answer_refuses _ (tests_fail _ _ (refl, (refl, (refl, tt))) h)

  module _ (range : PackRange rows channels cells) where
    pub pack_size : data_most < length (write_stored (pattern_of rows channels cells)) → packing rows channels cells room ≡ refuses (15 at 0)
    unfolding packing
    pack_size h = answer_refuses _ (pass _ range (test_fails _ _ _ (λ k. omega arith)))

    module _ (small : length (write_stored (pattern_of rows channels cells)) ≤ data_most) where
      pub pack_room : room < length (write_stored (pattern_of rows channels cells)) → packing rows channels cells room ≡ refuses (14 at 0)
      unfolding packing
      pack_room h = answer_refuses _ (pass _ range (test_holds _ _ _ small ∙ test_fails _ _ _ (λ k. omega arith)))

      pub pack_gives : length (write_stored (pattern_of rows channels cells)) ≤ room → packing rows channels cells room ≡ gives (pattern_of rows channels cells)
      unfolding packing
      pack_gives h = answer_gives _ (pass _ range (pass _ (small, (h, tt)) refl))

-- What a refusal with 15, and what a pattern given, say of the tests
not_fifteen : {R : Type 0} (number place : ℕ) → (number ≡ 15 → ⊥) → ◌≡◌ {A = Refusal} (number at place) (15 at 0) → R
not_fifteen number place h e = absurd (h (ap (λ (r : Refusal). r.number) e))

pub pack_fifteen : (rows channels : ℕ) (cells : List ℕ) (room : ℕ) → packing rows channels cells room ≡ refuses (15 at 0)
    → PackRange rows channels cells × (data_most < length (write_stored (pattern_of rows channels cells)))
unfolding packing
pack_fifteen rows channels cells room e =
    refused_passed _ _ (sixteen, (sixteen, (sixteen, tt))) (refuses-refused _ _ e) λ range e.
    let big : length (write_stored (pattern_of rows channels cells)) ≤ data_most → ⊥ =
    λ small. refused_passed _ _ (not_fifteen 14 0 (λ e. omega arith), tt) (sym (test_holds _ _ _ small) ∙ e) λ h e. not_both (sym e) in
    (range, omega arith)
  where
    sixteen : {R : Type 0} → ◌≡◌ {A = Refusal} (16 at 0) (15 at 0) → R
    sixteen e = not_fifteen 16 0 (λ e. omega arith) e

pub record PackGives (rows channels : ℕ) (cells : List ℕ) (room : ℕ) (p : Pattern) : Type 0 where
  pub range : PackRange rows channels cells
  pub same : pattern_of rows channels cells ≡ p
  pub small : length (write_stored p) ≤ data_most
  pub fits : length (write_stored p) ≤ room

pub pack_given : (rows channels : ℕ) (cells : List ℕ) (room : ℕ) (p : Pattern) → packing rows channels cells room ≡ gives p
    → PackGives rows channels cells room p
unfolding packing
pack_given rows channels cells room p e =
    gives_passed _ _ _ e λ range e. gives_passed _ _ _ e λ sizes e.
    let same : pattern_of rows channels cells ≡ p = gives_same e in
    record { range = range; same = same; small = rw same at sizes.0; fits = rw same at sizes.1.0 }

-- Well-formed cells are those whose tests hold; they are a good pattern, and a good pattern's cells are well formed
module _ {rows channels : ℕ} {cells : List ℕ} where
  pub well_range : WellFormed rows channels cells → PackRange rows channels cells
  well_range w = (w.arguments.0, (w.arguments.1.0, (w.size, tt)))

  pub well_formed : PackRange rows channels cells → Bytes cells → WellFormed rows channels cells
  well_formed range b = record { arguments = (range.0, (range.1.0, tt)); size = range.1.1.0; plain = b }

cells_good : (n : ℕ) (cells : List ℕ) → Bytes cells → EachGood cell_format (replicate n tt) (cells_of n cells)
unfolding cells_of
cells_good zero cells b = tt
cells_good (suc n) cells b = (record { size = refl; plain = five_bytes_lem b }, cells_good n (drop 5 cells) (bytes_drop 5 b))

pub pattern_good : (rows channels : ℕ) (cells : List ℕ) → WellFormed rows channels cells → GoodPattern channels (pattern_of rows channels cells)
pattern_good rows channels cells w = record {
  some = w.arguments.1.0.0;
  low = w.arguments.0.0;
  high = w.arguments.0.1;
  good = cells_good (rows * channels) cells w.plain;
}

flat_bytes : (n : ℕ) (cells : List (List ℕ)) → EachGood cell_format (replicate n tt) cells → Bytes (flat cells)
flat_bytes zero [] g = bytes_nil
flat_bytes zero (c ∷ cells) g = absurd g
flat_bytes (suc n) [] g = absurd g
flat_bytes (suc n) (c ∷ cells) g = bytes_append g.0.plain (flat_bytes n cells g.1)

module _ (channels : ℕ) (p : Pattern) (most : channels ≤ 64) (g : GoodPattern channels p) where
  count : length p.cells ≡ p.rows * channels
  count = good_count (p.rows * channels) p.cells g.good

  fives : Fives p.cells
  fives = good_fives (p.rows * channels) p.cells g.good

  pub good_well : WellFormed p.rows channels (cell_bytes p)
  good_well = record {
    arguments = ((g.low, g.high), ((g.some, most), tt));
    size = flat-length p.cells fives ∙ ap (λ (k : ℕ). k * 5) count;
    plain = flat_bytes (p.rows * channels) p.cells g.good;
  }

  pub good_pattern : pattern_of p.rows channels (cell_bytes p) ≡ p
  good_pattern = pattern_path refl (flat_cells (p.rows * channels) p.cells count fives)

-- No stored form is shorter than what is written, and what is written is one if it is not too long
pub form_least : (channels : ℕ) (p : Pattern) → 1 ≤ channels → (row : ℕ) (bytes : List ℕ) → StoredFormOf channels p row bytes
    → length (write_stored p) ≤ length bytes
form_least channels p some row bytes f = (stored_keeps channels row 0 bytes p f.used f.plain some f.low f.high f.reads).short

pub form_written : (channels : ℕ) (p : Pattern) → GoodPattern channels p → length (write_stored p) ≤ data_most
    → StoredFormOf channels p p.rows (write_stored p)
form_written channels p g small = record {
  low = g.low;
  high = g.high;
  plain = stored_plain channels p g;
  small = small;
  used = length (write_stored p);
  reads = stored_back channels 0 p g;
}

-- Demand 3 for a pattern
pub pack_shortest : (rows channels : ℕ) (cells : List ℕ) (room : ℕ) → WellFormed rows channels cells
    → PackedShortest rows channels cells room (pattern_of rows channels cells)
pack_shortest rows channels cells room well = record {
  too_large_exactly = (
    λ e row bytes f. let big = (pack_fifteen rows channels cells room e).1 in omega (arith, least row bytes f, f.small),
    λ none. too_large (let no : length w ≤ data_most → ⊥ = λ small. none _ _ (form_written channels p g small) in omega arith),
  );
  no_room_exactly = λ not15. (
    λ e row bytes f.
        let no : length w ≤ room → ⊥ = λ fits. gives-refuses (pack_gives rows channels cells room range (small_by not15) fits) e in
        omega (arith, least row bytes f),
    λ none. no_room not15 (none _ _ (form_written channels p g (small_by not15))),
  );
  given_else = λ not15 not14.
      let no : room < length w → ⊥ = λ k. not14 (no_room not15 k) in
      pack_gives rows channels cells room range (small_by not15) (omega arith);
  written = λ e. form_written channels p g (pack_given rows channels cells room p e).small;
  shortest = least;
}
  where
    p : Pattern
    p = pattern_of rows channels cells

    w : List ℕ
    w = write_stored p

    range : PackRange rows channels cells
    range = well_range well

    g : GoodPattern channels p
    g = pattern_good rows channels cells well

    least : (row : ℕ) (bytes : List ℕ) → StoredFormOf channels p row bytes → length w ≤ length bytes
    least = form_least channels p g.some

    too_large : data_most < length w → packing rows channels cells room ≡ refuses (15 at 0)
    too_large = pack_size rows channels cells room range

    small_by : (packing rows channels cells room ≡ refuses (15 at 0) → ⊥) → length w ≤ data_most
    small_by not15 = let no : data_most < length w → ⊥ = λ k. not15 (too_large k) in omega arith

    no_room : (packing rows channels cells room ≡ refuses (15 at 0) → ⊥) → room < length w → packing rows channels cells room ≡ refuses (14 at 0)
    no_room not15 = pack_room rows channels cells room range (small_by not15)

-- 15 never occurs while six bytes a cell are few enough, and occurs if there are more of them and all cells are full
pub fifteen_never : (rows channels : ℕ) (cells : List ℕ) (room : ℕ) → 256 * channels * cell_most ≤ data_most
    → packing rows channels cells room ≡ refuses (15 at 0) → ⊥
fifteen_never rows channels cells room h e =
    let s = pack_fifteen rows channels cells room e in
    omega (
      arith,
      s.1,
      stored_most (pattern_of rows channels cells) (cells_fives (rows * channels) cells),
      cells_length (rows * channels) cells,
      mul-le-mul s.0.0.1 (le_refl channels),
    )

abbrev full_cell : List ℕ
full_cell = 128 ∷ 1 ∷ 1 ∷ 1 ∷ 1 ∷ []

abbrev full_pattern : (rows channels : ℕ) → Pattern
full_pattern rows channels = record { rows = rows; cells = replicate (rows * channels) full_cell }

unfoldable pub full_cells : (rows channels : ℕ) → List ℕ
full_cells rows channels = cell_bytes (full_pattern rows channels)

full_good : (n : ℕ) → EachGood cell_format (replicate n tt) (replicate n full_cell)
full_good n = each_replicate cell_format tt full_cell n (record { size = refl; plain = bytes_by full_cell refl })

full_fields : (n : ℕ) → All Full (replicate n full_cell)
full_fields n = all_replicate Full full_cell n (omega arith)

module _ (rows channels : ℕ) (arguments : AllHold (argument_tests rows channels)) where
  full_pattern_lem : GoodPattern channels (full_pattern rows channels)
  full_pattern_lem = record { some = arguments.1.0.0; low = arguments.0.0; high = arguments.0.1; good = full_good (rows * channels) }

  pub full_well : WellFormed rows channels (full_cells rows channels)
  unfolding full_cells
  full_well = good_well channels (full_pattern rows channels) arguments.1.0.1 full_pattern_lem

  pub full_fifteen : data_most < cell_most * (rows * channels) → (room : ℕ) → packing rows channels (full_cells rows channels) room ≡ refuses (15 at 0)
  unfolding full_cells
  full_fifteen big room =
      let p = full_pattern rows channels in
      let l = length-replicate (rows * channels) full_cell in
      let long = stored_full p (omega arith) (fives channels p arguments.1.0.1 full_pattern_lem) (full_fields (rows * channels)) in
      pack_size rows channels (cell_bytes p) room (well_range full_well)
      (rw (good_pattern channels p arguments.1.0.1 full_pattern_lem) (omega arith))

pub fifteen : Fifteen
fifteen = record {
  never = fifteen_never;
  at_42 = omega arith;
  at_43 = (full_cells 256 43, full_well 256 43 (omega arith), full_fifteen 256 43 (omega arith) (omega arith));
}

-- Demand 2 for a pattern: what is packed unpacks to the same cells
pub packed_cells : (rows channels : ℕ) (cells : List ℕ) (room : ℕ) (p : Pattern) → packing rows channels cells room ≡ gives p → cell_bytes p ≡ cells
packed_cells rows channels cells room p e =
    let k = pack_given rows channels cells room p e in ap cell_bytes (sym k.same) ∙ cells_flat (rows * channels) cells k.range.1.1.0

pub packed_back : (rows channels : ℕ) (cells : List ℕ) (room enough : ℕ) (p : Pattern) → Bytes cells → packing rows channels cells room ≡ gives p
    → length cells ≤ enough → unpacking rows channels (write_stored p) enough ≡ gives p
packed_back rows channels cells room enough p b e h =
    let k = pack_given rows channels cells room p e in
    let range = k.range in
    let g = pattern_good rows channels cells (well_formed range b) in
    let reads : read_stored channels rows 0 (write_stored p) ≡ got p (length (write_stored p)) =
    rw k.same at (stored_back channels 0 (pattern_of rows channels cells) g) in
    unpack_gives rows channels (write_stored p) enough (range.0, (range.1.0, (k.small, tt))) reads (rw (packed_cells rows channels cells room p e) h)

-- What a pattern given by unpacking says: it was read, it is good, and it is written in no more bytes; so it packs again
pub record UnpackGives (rows channels : ℕ) (stored : List ℕ) (room : ℕ) (p : Pattern) : Type 0 where
  pub range : UnpackRange rows channels stored
  pub used : ℕ
  pub reads : read_stored channels rows 0 stored ≡ got p used
  pub fits : length (cell_bytes p) ≤ room

pub unpack_given : (rows channels : ℕ) (stored : List ℕ) (room : ℕ) (p : Pattern) → unpacking rows channels stored room ≡ gives p
    → UnpackGives rows channels stored room p
unfolding unpacking
unpack_given rows channels stored room p e =
    gives_passed _ _ _ e λ range e. gives_bound _ _ _ e λ q n reads e. gives_passed _ _ _ e λ fits e.
    let same : q ≡ p = gives_same e in
    record { range = range; used = n; reads = rw same at reads; fits = rw same at fits.0 }

pub unpack_kept : (rows channels : ℕ) (stored : List ℕ) (room : ℕ) (p : Pattern) → Bytes stored → unpacking rows channels stored room ≡ gives p
    → StoredKept channels stored p
unpack_kept rows channels stored room p b e =
    let k = unpack_given rows channels stored room p e in
    stored_keeps channels rows 0 stored p k.used b k.range.1.0.0 k.range.0.0 k.range.0.1 k.reads

pub good_packs : (channels : ℕ) (p : Pattern) (room : ℕ) → channels ≤ 64 → GoodPattern channels p → PackRoom p room
    → packing p.rows channels (cell_bytes p) room ≡ gives p
good_packs channels p room most g h =
    let same = good_pattern channels p most g in
    let w = good_well channels p most g in
    pack_gives p.rows channels (cell_bytes p) room (well_range w) (rw same h.0) (rw same h.1.0) ∙ ap gives same

pub unpacked_back : (rows channels : ℕ) (stored : List ℕ) (room enough : ℕ) (p : Pattern) → Bytes stored → unpacking rows channels stored room ≡ gives p
    → length (write_stored p) ≤ enough → packing p.rows channels (cell_bytes p) enough ≡ gives p
unpacked_back rows channels stored room enough p b e h =
    let k = unpack_kept rows channels stored room p b e in
    let range = (unpack_given rows channels stored room p e).range in
    good_packs channels p enough range.1.0.1 k.good (omega (arith, k.short, range.1.1.0), (h, tt))

-- Empty patterns keep their rows: of no data they are read, of no bytes they are written, and no other is
module _ (rows channels : ℕ) (arguments : AllHold (argument_tests rows channels)) where
  zeros : List ℕ
  zeros = replicate (rows * channels * 5) 0

  zeros_length : length zeros ≡ rows * channels * 5
  unfolding zeros
  zeros_length = length-replicate {A = ℕ} (rows * channels * 5) 0

  empty_pattern : GoodPattern channels (empty_rows channels rows)
  empty_pattern = rows_good channels rows arguments.1.0.0 arguments.0.0 arguments.0.1

  empty_bytes : cell_bytes (empty_rows channels rows) ≡ zeros
  unfolding zeros
  empty_bytes = empty_flat (rows * channels)

  empty_written : length (write_stored (empty_rows channels rows)) ≡ 0
  empty_written = ap length (write_none (empty_rows channels rows) (rows_none channels rows))

  empty_unpacks : (room : ℕ) → rows * channels * 5 ≤ room → unpacking rows channels [] room ≡ gives (empty_rows channels rows)
  empty_unpacks room h =
      unpack_gives rows channels [] room (arguments.0, (arguments.1.0, (omega arith, tt))) (stored_none channels rows 0 [] refl)
      (omega (arith, ap length empty_bytes, zeros_length))

  empty_packs : (room : ℕ) → packing rows channels zeros room ≡ gives (empty_rows channels rows)
  empty_packs room =
      let same = good_pattern channels (empty_rows channels rows) arguments.1.0.1 empty_pattern in
      let well = good_well channels (empty_rows channels rows) arguments.1.0.1 empty_pattern in
      rw (← empty_bytes)
      (pack_gives rows channels (cell_bytes (empty_rows channels rows)) room (well_range well)
      (omega (arith, ap stored_length same, empty_written)) (omega (arith, ap stored_length same, empty_written))
      ∙ ap gives same)

none_only : (channels : ℕ) (p : Pattern) → GoodPattern channels p → write_stored p ≡ [] → p ≡ empty_rows channels p.rows
none_only channels p g e = go (needs_no_data p) refl
  where
    go : (t : Bool) → needs_no_data p ≡ t → p ≡ empty_rows channels p.rows
    go true q = none_rows channels p g q
    go false q =
        let n = p.rows * channels in
        let least = cells_least p.cells (good_fives n p.cells g.good) in
        let count = good_count n p.cells g.good in
        let some = product_some p.rows channels g.low g.some in
        absurd (omega (arith, ap length (sym (write_cells p q) ∙ e), least, count, some))

-- and the cells of one are empty, by whatever bytes they were stored
one_content : (rows channels : ℕ) (stored : List ℕ) (room : ℕ) (p : Pattern) → Bytes stored → unpacking rows channels stored room ≡ gives p
    → cell_bytes p ≡ replicate (rows * channels * 5) 0 → unpacking rows channels [] room ≡ gives p
unfolding zeros needs_no_data
one_content rows channels stored room p b e z =
    let k = unpack_given rows channels stored room p e in
    let arguments : AllHold (argument_tests rows channels) = (k.range.0, (k.range.1.0, tt)) in
    let none : needs_no_data p ≡ true = ap all_zero (z ∙ sym (empty_bytes rows channels arguments)) ∙ rows_none channels rows in
    let same =
    none_rows channels p (unpack_kept rows channels stored room p b e).good none
    ∙ ap (empty_rows channels) (stored_rows channels rows 0 stored p k.used k.reads) in
    empty_unpacks rows channels arguments room (omega (arith, k.fits, ap length z, zeros_length rows channels arguments)) ∙ ap gives (sym same)

pub empty_patterns : EmptyPatterns
unfolding zeros write_pattern
empty_patterns = record {
  unpacked = λ rows channels room h. empty_unpacks rows channels h room;
  packed = λ rows channels room h.
      rw (empty_packs rows channels h room)
      (cons_path refl (cons_path refl (cons_path (omega (arith, empty_written rows channels h)) (cons_path (omega arith) refl))));
  written = λ rows channels. rw (write_none (empty_rows channels rows) (rows_none channels rows)) refl;
  only = none_only;
  one_content = one_content;
}

-- Refusals have the paper's numbers, and places within the longest data
pub record CallRefusal (r : Refusal) : Type 0 where
  pub sound : SoundRefusal r
  pub place : r.place ≤ data_most

pub unpack_refusals : (rows channels : ℕ) (stored : List ℕ) (room : ℕ) (r : Refusal) → Bytes stored → unpacking rows channels stored room ≡ refuses r
    → CallRefusal r
unfolding unpacking
unpack_refusals rows channels stored room r b e =
    refused_tests CallRefusal _ _ (refuses-refused _ _ e) (omega arith) λ range e.
    refused_bind _ _ e
    (λ e. let f = stored_refusals channels rows 0 stored r b e in
    record { sound = read_sound (refusal_numbered f); place = omega (arith, f.to, range.1.1.0) })
    (λ p n ep e. refused_tests CallRefusal _ _ e (omega arith) λ h e. absurd (not_both (sym e)))

pub pack_refusals : (rows channels : ℕ) (cells : List ℕ) (room : ℕ) (r : Refusal) → packing rows channels cells room ≡ refuses r → CallRefusal r
unfolding packing
pack_refusals rows channels cells room r e =
    refused_tests CallRefusal _ _ (refuses-refused _ _ e) (omega arith) λ range e.
    refused_tests CallRefusal _ _ e (omega arith) λ h e. absurd (not_both (sym e))

-- Demand 1 for both calls, and their loader's numbers
pub unpack_promise : (rows channels : ℕ) (stored : List ℕ) → Bytes stored → KeepsPromise cell_bytes (unpacking rows channels stored)
unpack_promise rows channels stored b =
    promise_kept cell_bytes (unpacking rows channels stored)
    (λ room r e. (unpack_refusals rows channels stored room r b e).sound)
    (λ room p e. (unpack_given rows channels stored room p e).fits)

pub pack_promise : (rows channels : ℕ) (cells : List ℕ) → KeepsPromise write_stored (packing rows channels cells)
pack_promise rows channels cells =
    promise_kept write_stored (packing rows channels cells)
    (λ room r e. (pack_refusals rows channels cells room r e).sound)
    (λ room p e. (pack_given rows channels cells room p e).fits)

pub unpack_tells : (rows channels : ℕ) (stored : List ℕ) (room : ℕ) → Bytes stored
    → LoaderTells Pattern.rows (unpacking rows channels stored room) (unpack_loader rows channels stored room)
unpack_tells rows channels stored room b =
    loader_tells Pattern.rows (unpacking rows channels stored room) (unpack_loader rows channels stored room) refl
    (λ p e. omega (arith, (unpack_kept rows channels stored room p b e).good.high))
    (λ r e. let f = unpack_refusals rows channels stored room r b e in (f.sound.numbered.0, omega arith))

-- the length and the rows in one number
record Small (p : Pattern) : Type 0 where
  length_small : length (write_stored p) < 65536
  rows_small : p.rows ≤ 256

given_small : (rows channels : ℕ) (cells : List ℕ) (room : ℕ) (p : Pattern) → packing rows channels cells room ≡ gives p → Small p
given_small rows channels cells room p e =
    let k = pack_given rows channels cells room p e in
    record { length_small = omega (arith, k.small); rows_small = omega (arith, k.range.0.1, ap (λ (q : Pattern). q.rows) k.same) }

pub pack_tells : (rows channels : ℕ) (cells : List ℕ) (room : ℕ)
    → LoaderTells (λ (p : Pattern). length (write_stored p) + 65536 * p.rows) (packing rows channels cells room) (pack_loader rows channels cells room)
pack_tells rows channels cells room =
    loader_tells (λ (p : Pattern). length (write_stored p) + 65536 * p.rows) (packing rows channels cells room) (pack_loader rows channels cells room) refl
    (λ p e. let s = given_small rows channels cells room p e in omega (arith, s.length_small, s.rows_small))
    (λ r e. let f = pack_refusals rows channels cells room r e in (f.sound.numbered.0, omega arith))

pub pack_apart : (rows channels : ℕ) (cells : List ℕ) (room : ℕ) (p : Pattern) → packing rows channels cells room ≡ gives p
    → (pack_loader rows channels cells room % 65536 ≡ length (write_stored p)) × (pack_loader rows channels cells room / 65536 ≡ p.rows)
pack_apart rows channels cells room p e =
    let s = given_small rows channels cells room p e in
    let n = ((pack_tells rows channels cells room).accepted p e).0 in
    let l = s.length_small in
    rw n (omega arith, omega arith)

-- Demand 2 of a pattern
pub unpacks_to_cells : (rows channels : ℕ) (cells out lent : List ℕ) → Bytes cells
    → let reported = pack_numbers rows channels cells (length out) in
    Accepts reported → length cells ≤ length lent → UnpacksToCells rows channels cells lent reported (pack_after rows channels cells out)
unpacks_to_cells rows channels cells out lent b accepted h =
    accepted-gives (packing rows channels cells (length out)) (λ r e. (pack_refusals rows channels cells (length out) r e).sound.numbered.0) accepted λ p e.
    let back : unpacking rows channels (write_stored p) (length lent) ≡ gives p = packed_back rows channels cells (length out) (length lent) p b e h in
    let same : rows ≡ p.rows = ap Pattern.rows (pack_given rows channels cells (length out) p e).same in
    let read : rows_read p ≡ rows = omega arith in
    let reported : result rows_read (packing rows channels cells (length out)) ≡ rows = ap (result rows_read) e ∙ read in
    let stands = reported_written stored_length write_stored (packing rows channels cells (length out)) out p e (omega arith) in
    record {
      numbers_back = rw (reported, stands, back) (ap {B = List ℕ} (λ (n : ℕ). 0 ∷ 0 ∷ n ∷ []) read);
      memory_back = rw (reported, stands, back) (ap (λ (l : List ℕ). in_front l lent) (packed_cells rows channels cells (length out) p e));
    }
