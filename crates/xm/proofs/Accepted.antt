-- What holds of every accepted file: regions, tables, rows, stretches, loops. Assumes nothing.
use Prim.Native.Nat.{ℕ, zero, suc, ◌+◌, ◌*◌, ◌/◌, ◌%◌, ◌≤◌, ◌<◌}
use mathlib.Core.Bool.{Bool, true, false, cond}
use mathlib.Core.List.{List, [], ◌∷◌, ◌++◌, map, append_assoc}
use mathlib.Core.Path.{◌≡◌, refl, sym, ap, ap₂, ◌∙◌, subst}
use native.Mathlib.Nat.{zero-add, mul-zero, mul-suc}
use native.Mathlib.Omega.{arith}
use lib.Dec.{ltb}
use borrow.Author.Tests.{lt-ltb}
use lib.ListN.{length, get_or, take, drop, replicate, length-append, length-take, length-map, length-replicate, get_or-append, get_or-map}
use lib.Seq.{drop_at, take_at, get_or-append-add, get_or-drop}
use Rattle.xm.specs.Number.{byte_at, long_at, part, Bytes}
use Rattle.xm.specs.Format.{sample_header, sample_data, joined, EachGood, All}
use Rattle.xm.specs.ModuleKind.{ModuleKind, normal}
use Rattle.xm.specs.Got.{got}
use Rattle.xm.specs.PatternInFile.{PatternFound, GoodStored, pattern_format}
use Rattle.xm.specs.Sample.{least_head, StretchFound, length_of, loop_start, loop_length, loop_bits, is_wide}
use Rattle.xm.specs.Sample.{loops, loop_kind, loop_from, loop_count, head_bytes, kind_of, data_size}
use Rattle.xm.specs.Header.{kind_at}
use Rattle.xm.specs.Instrument.{Instrument, InstrumentFound, instrument_view}
use Rattle.xm.specs.Module.{Found, patterns_for, module_format, regions_of}
use Rattle.xm.specs.Adpcm.{decoding_by, values_of}
use Rattle.xm.specs.Table.{SampleRow, pattern_row, sample_count, instrument_rows_from, sample_row}
use Rattle.xm.specs.Table.{sample_rows_of, sample_rows_in, sample_rows, sample_stride, sample_numbers}
use Rattle.xm.specs.Press.{content_of}
use Rattle.xm.specs.Answer.{gives}
use Rattle.xm.specs.Region.{of_kind}
use Rattle.xm.specs.Asking.{Stretch, nowhere, asking, stretch_of, asking_flat, asking_rows, no_row, row_stretch}
use Rattle.xm.specs.Demands.{heads_in, bytes_in, RowUnpacks, RowsUnpack, FindsRows, HeadStands, HeadsStand, HeadsFrom, FirstData, HeadsTogether}
use Rattle.xm.specs.Demands.{TellsHeads, EachSample, RowReads, LoopReads, RowLoops, RowDecodes, stretch_at, Asked, AsksExactly}
use Rattle.xm.specs.Demands.{LoopInside, AcceptedFile, AcceptedFiles}
use Rattle.xm.proofs.Cut.{padded_at, byte_cut}
use Rattle.xm.proofs.Got.{pass}
use Rattle.xm.proofs.Answer.{answer_gives, answer_refuses, tests_fail}
use Rattle.xm.proofs.Format.{joined_length, all_append, each_length}
use Rattle.xm.proofs.Packing.{unpack_gives}
use Rattle.xm.proofs.Run.{stored_anywhere}
use Rattle.xm.proofs.PatternInFile.{PatternTold}
use Rattle.xm.proofs.Sample.{HeadTold, DataTold, Sized, SamplesTold}
use Rattle.xm.proofs.Instrument.{normal_wide}
use Rattle.xm.proofs.Stands.{fields_stand, heads_together}
use Rattle.xm.proofs.Module.{module_keeps, module_adjoins, module_told, module_tells, whole_read}
use Rattle.xm.proofs.Kind.{kind_found}
use Rattle.xm.proofs.Region.{Before, adjoin_regions, kind_before}
use Rattle.xm.proofs.Table.{found_stretch, heads_lie, tables_stand, joined-map}
use Rattle.xm.proofs.Adpcm.{sample_decodes, values_counted, decoding_roomy}

-- Lists of facts
all_joined : {A B : Type 0} (P : A → Type 0) (Q : B → Type 0) (f : A → List B) → ((x : A) → P x → All Q (f x)) → (xs : List A) → All P xs → All Q (joined f xs)
all_joined P Q f h [] p = tt
all_joined P Q f h (x ∷ xs) p = all_append Q (f x) (joined f xs) (h x p.0) (all_joined P Q f h xs p.1)

all_map : {A B : Type 0} (P : A → Type 0) (Q : B → Type 0) (f : A → B) → ((x : A) → P x → Q (f x)) → (xs : List A) → All P xs → All Q (map f xs)
all_map P Q f h [] p = tt
all_map P Q f h (x ∷ xs) p = (h x p.0, all_map P Q f h xs p.1)

all_unmap : {A B : Type 0} (Q : B → Type 0) (f : A → B) (xs : List A) → All Q (map f xs) → All (λ (x : A). Q (f x)) xs
all_unmap Q f [] p = tt
all_unmap Q f (x ∷ xs) p = (p.0, all_unmap Q f xs p.1)

all_with : {A : Type 0} (P Q : A → Type 0) → ((x : A) → P x → Q x) → (xs : List A) → All P xs → All Q xs
all_with P Q h [] p = tt
all_with P Q h (x ∷ xs) p = (h x p.0, all_with P Q h xs p.1)

pub all_at : {A : Type 0} (P : A → Type 0) (xs : List A) (k : ℕ) (d : A) → All P xs → k < length xs → P (get_or xs k d)
all_at P [] k d p h = absurd (omega arith)
all_at P (x ∷ xs) zero d p h = p.0
all_at P (x ∷ xs) (suc k) d p h = all_at P xs k d p.1 (omega arith)

-- A sample header is what stands in its region, and 0 beyond
cut_byte : (file : List ℕ) (size place k : ℕ) → k < least_head → byte_at k (head_bytes size (drop place file)) ≡ cond (ltb k size) (byte_at (place + k) file) 0
cut_byte file size place k l =
    padded_at least_head k (take size (drop place file)) l
    ∙ byte_cut size k (drop place file)
    ∙ ap (λ (n : ℕ). cond (ltb k size) n 0) (get_or-drop place file k 0)

head_stands : (file : List ℕ) (h : StretchFound) → HeadTold file h → HeadStands file (found_stretch h) h.bytes
head_stands file h t k l = ap (byte_at k) t.bytes ∙ cut_byte file h.size h.place k l

some_stand : (file : List ℕ) (heads : List StretchFound) (ls : List Stretch) (hs : List (List ℕ)) → All (HeadTold file) heads → HeadsStand file ls hs
    → HeadsStand file (map found_stretch heads ++ ls) (map StretchFound.bytes heads ++ hs)
some_stand file [] ls hs t r = r
some_stand file (h ∷ heads) ls hs t r = (head_stands file h t.0, some_stand file heads ls hs t.1 r)

all_stand : (file : List ℕ) (is : List InstrumentFound) → All (λ (i : InstrumentFound). SamplesTold file i.samples) is
    → HeadsStand file (joined (λ (i : InstrumentFound). map found_stretch i.samples.0) is)
    (joined (λ (i : InstrumentFound). map StretchFound.bytes i.samples.0) is)
all_stand file [] t = tt
all_stand file (i ∷ is) t = some_stand file i.samples.0 _ _ t.0.heads (all_stand file is t.1)

-- What holds of each sample that is found holds of each row with its header and data
module _ (file : List ℕ) (P : SampleRow → (head bytes : List ℕ) → Type 0)
    (one : (h b : StretchFound) → HeadTold file h → DataTold file b → b.size ≡ data_size h.bytes → P (sample_row h b) h.bytes b.bytes) where
  some_samples : (heads bytes : List StretchFound) (rows : List SampleRow) (hs bs : List (List ℕ))
      → All (HeadTold file) heads → All (DataTold file) bytes → Sized (map StretchFound.bytes heads) bytes → EachSample P rows hs bs
      → EachSample P (sample_rows_of heads bytes ++ rows) (map StretchFound.bytes heads ++ hs) (map StretchFound.bytes bytes ++ bs)
  some_samples [] [] rows hs bs t d z r = r
  some_samples [] (b ∷ bytes) rows hs bs t d z r = absurd z
  some_samples (h ∷ heads) [] rows hs bs t d z r = absurd z
  some_samples (h ∷ heads) (b ∷ bytes) rows hs bs t d z r = (one h b t.0 d.0 z.0, some_samples heads bytes rows hs bs t.1 d.1 z.1 r)

  all_samples : (is : List InstrumentFound) → All (λ (i : InstrumentFound). SamplesTold file i.samples) is
      → EachSample P (joined sample_rows_in is)
      (joined (λ (i : InstrumentFound). map StretchFound.bytes i.samples.0) is)
      (joined (λ (i : InstrumentFound). map StretchFound.bytes i.samples.1) is)
  all_samples [] t = tt
  all_samples (i ∷ is) t = some_samples i.samples.0 i.samples.1 _ _ _ t.0.heads t.0.bytes t.0.sizes (all_samples is t.1)

  content_samples : (is : List InstrumentFound) → All (λ (i : InstrumentFound). SamplesTold file i.samples) is
      → let content = map instrument_view is in
      EachSample P (joined sample_rows_in is) (joined (λ (x : Instrument). x.samples.0) content) (joined (λ (x : Instrument). x.samples.1) content)
  content_samples is t = rw (joined-map _ instrument_view is, joined-map _ instrument_view is) (all_samples is t)

-- A row says what its header says
row_reads : (h b : StretchFound) → RowReads (sample_row h b) h.bytes b.bytes
unfolding data_size
row_reads h b = (refl, refl, refl, refl)

-- A count of bytes that is even at 16 bits is a whole count of samples; and a loop inside a length is inside it in samples
samples_whole : (loop wide : Bool) (n : ℕ) → (wide ≡ true → loop ≡ true → n % 2 ≡ 0)
    → cond loop (n / (cond wide 16 8 / 8)) 0 * (cond wide 16 8 / 8) ≡ cond loop n 0
samples_whole true true n e = omega (arith, e refl refl)
samples_whole true false n e = omega arith
samples_whole false true n e = refl
samples_whole false false n e = refl

samples_inside : (loop wide : Bool) (start size n : ℕ) → (loop ≡ true → start + size ≤ n)
    → cond loop (start / (cond wide 16 8 / 8)) 0 + cond loop (size / (cond wide 16 8 / 8)) 0 ≤ n / (cond wide 16 8 / 8)
samples_inside true true start size n h = omega (arith, h refl)
samples_inside true false start size n h = omega (arith, h refl)
samples_inside false wide start size n h = omega arith

-- Its loop is its header's
row_loops : (file : List ℕ) (h b : StretchFound) → HeadTold file h → RowLoops (sample_row h b) h.bytes b.bytes
unfolding loop_kind loop_from loop_count
row_loops file h b t =
    let head = h.bytes in (
      refl,
      few (loops head) t.tests.1.0,
      samples_whole (loops head) (is_wide head) (loop_start head) t.tests.1.1.1.1.0,
      samples_whole (loops head) (is_wide head) (loop_length head) t.tests.1.1.1.1.1.0,
    )
  where
    few : (l : Bool) → (loop_bits h.bytes ≡ 3 → ⊥) → cond l (loop_bits h.bytes) 0 ≤ 2
    few true n = omega arith
    few false n = omega arith

-- Its stretch is the data, and decodes
row_decodes : (file : List ℕ) (h b : StretchFound) → HeadTold file h → DataTold file b → b.size ≡ data_size h.bytes
    → RowDecodes file (sample_row h b) h.bytes b.bytes
unfolding loop_from loop_count
row_decodes file h b t d z =
    let stretch : part b.place (data_size h.bytes) file ≡ b.bytes = sym (d.bytes ∙ ap (λ (n : ℕ). part b.place n file) z) in
    let head = h.bytes in
    let counted = values_counted head b.bytes (d.long ∙ z) t.tests in (
      stretch,
      rw stretch (sample_decodes head b.bytes (d.long ∙ z) t.tests),
      counted,
      rw counted (samples_inside (loops head) (is_wide head) (loop_start head) (loop_length head) (length_of head) t.tests.1.1.1.0),
    )

-- An instrument's own rows stand where its row says
pub rows_length : (heads bytes : List StretchFound) → Sized (map StretchFound.bytes heads) bytes → length (sample_rows_of heads bytes) ≡ length heads
rows_length [] bytes z = refl
rows_length (h ∷ hs) [] z = absurd z
rows_length (h ∷ hs) (b ∷ bs) z = ap suc (rows_length hs bs z.1)

finds_rows : (file : List ℕ) (before : List SampleRow) (first : ℕ) (is : List InstrumentFound) → length before ≡ first
    → All (λ (i : InstrumentFound). SamplesTold file i.samples) is
    → FindsRows (before ++ joined sample_rows_in is) (instrument_rows_from first is) is
finds_rows file before first [] e t = tt
finds_rows file before first (i ∷ is) e t =
    let rest = joined sample_rows_in is in
    let n = rows_length i.samples.0 i.samples.1 t.0.sizes in (
      ap (take (sample_count i)) (drop_at before (sample_rows_in i ++ rest) first e) ∙ take_at (sample_rows_in i) rest (sample_count i) n,
      subst (λ (all : List SampleRow). FindsRows all (instrument_rows_from (first + sample_count i) is) is) (append_assoc before (sample_rows_in i) rest)
          (finds_rows file (before ++ sample_rows_in i) (first + sample_count i) is (length-append before (sample_rows_in i) ∙ ap₂ ◌+◌ e n) t.1),
    )

-- and tell, with the instrument's, the size of its sample headers
sizes_at : (size : ℕ) (heads : List StretchFound) (j : ℕ) → All (λ (h : StretchFound). h.size ≡ size) heads → j < length heads
    → (get_or (map found_stretch heads) j nowhere).size ≡ size
sizes_at size [] j z l = absurd (omega arith)
sizes_at size (h ∷ heads) zero z l = z.0
sizes_at size (h ∷ heads) (suc j) z l = sizes_at size heads j z.1 (omega arith)

first_tells : (rows : List SampleRow) (place size count : ℕ) → 0 < length rows → HeadsFrom place size rows → FirstData (place + count * size) rows
    → (get_or rows 0 no_row).data_place ≡ (get_or rows 0 no_row).header_place + count * size
first_tells [] place size count l h d = absurd (omega arith)
first_tells (row ∷ rows) place size count l h d = d ∙ ap (λ (n : ℕ). n + count * size) (sym h.0)

module _ (file : List ℕ) where
  abbrev heads_of : InstrumentFound → List Stretch
  heads_of i = map found_stretch i.samples.0

  rows_tell : (heads : List Stretch) (before : List SampleRow) (first : ℕ) (is : List InstrumentFound) → length heads ≡ first → length before ≡ first
      → All (λ (i : InstrumentFound). SamplesTold file i.samples) is → All (HeadsTogether file) is
      → All (TellsHeads (heads ++ joined heads_of is) (before ++ joined sample_rows_in is)) (instrument_rows_from first is)
  rows_tell heads before first [] e q t g = tt
  rows_tell heads before first (i ∷ is) e q t g =
      let rows = sample_rows_in i in
      let n = rows_length i.samples.0 i.samples.1 t.0.sizes in
      let k = sample_count i in
      let own = g.0 in (
        λ j l.
            let size : (get_or (heads ++ (heads_of i ++ joined heads_of is)) (first + j) nowhere).size ≡ own.size =
            ap (λ (s : Stretch). s.size)
            (ap (λ (f : ℕ). get_or (heads ++ (heads_of i ++ joined heads_of is)) (f + j) nowhere) (sym e)
            ∙ get_or-append-add heads (heads_of i ++ joined heads_of is) j nowhere
            ∙ get_or-append (heads_of i) (joined heads_of is) nowhere j (omega (arith, length-map i.samples.0 found_stretch)))
            ∙ sizes_at own.size i.samples.0 j own.sized l in
            let start : first ≡ length before + 0 = omega (arith, q) in
            let row : get_or (before ++ (rows ++ joined sample_rows_in is)) first no_row ≡ get_or rows 0 no_row =
            ap (λ (f : ℕ). get_or (before ++ (rows ++ joined sample_rows_in is)) f no_row) start
            ∙ get_or-append-add before (rows ++ joined sample_rows_in is) 0 no_row
            ∙ get_or-append rows (joined sample_rows_in is) no_row 0 (omega (arith, n)) in
            let rest = joined sample_rows_in is in (
              omega (arith, n, q, l, length-append before (rows ++ rest), length-append rows rest),
              rw (row, size) (first_tells rows (i.place + i.size) own.size k (omega (arith, n)) own.headers own.data_behind),
            ),
        subst (λ (all : List Stretch). All (TellsHeads all (before ++ (rows ++ joined sample_rows_in is))) (instrument_rows_from (first + k) is))
            (append_assoc heads (heads_of i) (joined heads_of is))
            (subst (λ (all : List SampleRow). All (TellsHeads ((heads ++ heads_of i) ++ joined heads_of is) all) (instrument_rows_from (first + k) is))
            (append_assoc before rows (joined sample_rows_in is))
            (rows_tell (heads ++ heads_of i) (before ++ rows) (first + k) is
            (length-append heads (heads_of i) ∙ ap₂ ◌+◌ e (length-map i.samples.0 found_stretch)) (length-append before rows ∙ ap₂ ◌+◌ q n) t.1 g.1)),
      )

-- A sample asked for by number
pub asks_exactly : AsksExactly
unfolding asking
asks_exactly file rows number row = (
  λ h. answer_gives _ (pass _ (omega arith, (omega arith, (omega arith, tt))) refl),
  λ h. answer_refuses _ (tests_fail _ _ (refl, (refl, (refl, tt))) (λ all. h (omega (arith, all.0), omega (arith, all.1.0, all.1.1.0)))),
)

-- A number of a row, in a table of rows end to end
pub number_at : {R : Type 0} (stride : ℕ) (numbers : R → List ℕ) → ((row : R) → length (numbers row) ≡ stride)
    → (rows : List R) (none : R) (stale : List ℕ) (number k : ℕ) → number < length rows → k < stride
    → get_or (joined numbers rows ++ stale) (stride * number + k) 0 ≡ get_or (numbers (get_or rows number none)) k 0
number_at stride numbers wide [] none stale number k h l = absurd (omega arith)
number_at stride numbers wide (r ∷ rs) none stale zero k h l =
    let first : stride * 0 + k ≡ k = omega (arith, mul-zero stride) in
    ap₂ (λ (table : List ℕ) (i : ℕ). get_or table i 0) (append_assoc (numbers r) (joined numbers rs) stale) first
    ∙ get_or-append (numbers r) (joined numbers rs ++ stale) 0 k (omega (arith, wide r))
number_at stride numbers wide (r ∷ rs) none stale (suc n) k h l =
    let later : stride * suc n + k ≡ length (numbers r) + (stride * n + k) = omega (arith, wide r, mul-suc stride n) in
    ap₂ (λ (table : List ℕ) (i : ℕ). get_or table i 0) (append_assoc (numbers r) (joined numbers rs) stale) later
    ∙ get_or-append-add (numbers r) (joined numbers rs ++ stale) (stride * n + k) 0
    ∙ number_at stride numbers wide rs none stale n k (omega arith) l

-- What holds of each sample holds of the one with a number
pub sample_at : (P : SampleRow → (head bytes : List ℕ) → Type 0) (rows : List SampleRow) (heads bytes : List (List ℕ)) (number : ℕ)
    → number < length rows → EachSample P rows heads bytes
    → P (get_or rows number no_row) (get_or heads number []) (get_or bytes number [])
sample_at P [] heads bytes number h e = absurd (omega arith)
sample_at P (row ∷ rows) [] bytes number h e = absurd e
sample_at P (row ∷ rows) (head ∷ heads) [] number h e = absurd e
sample_at P (row ∷ rows) (head ∷ heads) (b ∷ bytes) zero h e = e.0
sample_at P (row ∷ rows) (head ∷ heads) (b ∷ bytes) (suc number) h e = sample_at P rows heads bytes number (omega arith) e.1

module _ (file : List ℕ) (rows : List SampleRow) (heads bytes : List (List ℕ))
    (inside : All (λ (row : SampleRow). row.data_place + row.size ≤ length file) rows)
    (decode : EachSample (RowDecodes file) rows heads bytes) where
  row_inside : (number : ℕ) → number < length rows → (get_or rows number no_row).data_place + (get_or rows number no_row).size ≤ length file
  row_inside number h = all_at (λ (row : SampleRow). row.data_place + row.size ≤ length file) rows number no_row inside h

  asked_flat : (stale : List ℕ) (number : ℕ) → number < length rows
      → asking_flat file (joined sample_numbers rows ++ stale) number ≡ gives (stretch_at rows number)
  asked_flat stale number h =
      let table = joined sample_numbers rows ++ stale in
      let start = sample_stride * number in
      let column = number_at sample_stride sample_numbers (λ row. refl) rows no_row stale number in
      let alike : ◌≡◌ {A = Stretch} (record { place = get_or table (start + 1) 0; size = get_or table (start + 2) 0 }) (stretch_at rows number) =
      ap₂ (λ (p s : ℕ). record { place = p; size = s }) (column 1 h (omega arith)) (column 2 h (omega arith)) in
      ap (asking file (length table / sample_stride) number) alike
      ∙ (asks_exactly file (length table / sample_stride) number (stretch_at rows number)).0
      (omega (arith, length-append (joined sample_numbers rows) stale, joined_length sample_stride sample_numbers (λ row. refl) rows), row_inside number h)

  asked_record : (stale : List SampleRow) (number : ℕ) → number < length rows → asking_rows file (rows ++ stale) number ≡ gives (stretch_at rows number)
  asked_record stale number h =
      let same : get_or (rows ++ stale) number no_row ≡ get_or rows number no_row = get_or-append rows stale no_row number h in
      ap (λ (row : SampleRow). asking file (length (rows ++ stale)) number (row_stretch row)) same
      ∙ (asks_exactly file (length (rows ++ stale)) number (stretch_at rows number)).0 (omega (arith, length-append rows stale), row_inside number h)

  asked_rows : Asked file rows bytes
  asked_rows = record {
    flat = asked_flat;
    records = asked_record;
    flat_bytes = λ stale number h. ap (stretch_of file) (asked_flat stale number h) ∙ (sample_at (RowDecodes file) rows heads bytes number h decode).0;
    record_bytes = λ stale number h. ap (stretch_of file) (asked_record stale number h) ∙ (sample_at (RowDecodes file) rows heads bytes number h decode).0;
  }

-- A pattern's row and its data
row_unpacks : (file : List ℕ) (channels : ℕ) (i : PatternFound) → 1 ≤ channels → channels ≤ 64 → PatternTold channels file i → GoodStored channels i.content
    → RowUnpacks file channels (pattern_row i) i.content
row_unpacks file channels i low high t g = (
  refl,
  λ room h.
      let d = part i.data_place i.data_size file in
      unpack_gives i.content.rows channels d room
      ((g.pattern.low, g.pattern.high), ((low, high), (omega (arith, length-take i.data_size (drop i.data_place file), t.small), tt)))
      (stored_anywhere channels i.content.rows i.data_place 0 d i.content t.used t.reads) h,
)

rows_unpack : (file : List ℕ) (channels : ℕ) (ps : List PatternFound) → 1 ≤ channels → channels ≤ 64 → All (PatternTold channels file) ps
    → EachGood pattern_format (replicate (length ps) channels) (map PatternFound.content ps)
    → RowsUnpack file channels (map pattern_row ps) (map PatternFound.content ps)
rows_unpack file channels [] low high t g = tt
rows_unpack file channels (p ∷ ps) low high t g = (row_unpacks file channels p low high t.0 g.0, rows_unpack file channels ps low high t.1 g.1)

-- A loop lies inside its sample
loop_inside : (file : List ℕ) (head : StretchFound) → HeadTold file head → LoopInside head.bytes
loop_inside file head t q = omega (arith, t.tests.1.1.1.0 q)

-- In a normal file no sample header's region is too short
normal_heads : (file : List ℕ) (found : Found) (end : ℕ) → Bytes file → (module_format normal).read tt 0 file ≡ got found end
    → All (λ (l : Stretch). least_head ≤ l.size) (joined (λ (i : InstrumentFound). map found_stretch i.samples.0) found.1.1)
normal_heads file found end b e =
    all_joined (λ (i : InstrumentFound). All (λ (h : StretchFound). least_head ≤ h.size) i.samples.0) _ _
    (λ i w. all_map (λ (h : StretchFound). least_head ≤ h.size) _ found_stretch (λ h l. l) i.samples.0 w) found.1.1
    (module_told normal normal_wide file found end b e).1

pub accepted_files : AcceptedFiles
accepted_files file found end b e =
    whole_read (module_format (kind_at file)) file found end e λ size e.
    let kind = kind_at file in
    let w = (module_keeps kind).keeps 0 file found end b e in
    let t = module_tells kind file found end b e in
    let c = w.good.0.counts in
    let adjoin = rw (zero-add end) at ((module_adjoins kind).adjoins 0 file found end e) in
    let x = found.0.content in
    let n = each_length pattern_format (patterns_for x) (map PatternFound.content found.1.0) w.good.1.0 in
    let stand = tables_stand file found t.instruments in
    let before : All (λ (row : SampleRow). row.data_place + row.size ≤ end) (sample_rows found) =
    all_unmap (Before end) _ (sample_rows found) (rw stand.bytes at (kind_before sample_data 0 end (regions_of found) adjoin)) in
    let decode : EachSample (RowDecodes file) (sample_rows found) (heads_in (content_of found)) (bytes_in (content_of found)) =
    content_samples file (RowDecodes file) (row_decodes file) found.1.1 t.instruments in
    record {
      ends_inside = w.inside;
      regions = adjoin_regions file (regions_of found) end adjoin w.inside;
      tables = stand;
      rows_unpack =
          rows_unpack file x.channels found.1.0 c.1.1.0.0 c.1.1.0.1 t.patterns
          (rw (sym (length-map found.1.0 PatternFound.content) ∙ n ∙ length-replicate x.patterns x.channels) w.good.1.0);
      rows_found = finds_rows file [] 0 found.1.1 refl t.instruments;
      heads_stand = rw (heads_lie file found t.instruments, joined-map _ instrument_view found.1.1) (all_stand file found.1.1 t.instruments);
      fields_stand = (module_told kind (fields_stand kind) file found end b e).1;
      heads_together = (module_told kind (heads_together kind) file found end b e).1;
      rows_tell_heads =
          rw (heads_lie file found t.instruments)
          (rows_tell file [] [] 0 found.1.1 refl refl t.instruments (module_told kind (heads_together kind) file found end b e).1);
      heads_whole = λ q.
          let is_normal = sym (kind_found kind file found end e) ∙ q in
          let as_normal = subst (λ (k : ModuleKind). (module_format k).read tt 0 file ≡ got found end) is_normal e in
          rw (heads_lie file found t.instruments) (normal_heads file found end b as_normal);
      rows_read = content_samples file RowReads (λ h b t d z. row_reads h b) found.1.1 t.instruments;
      rows_loop = content_samples file RowLoops (λ h b t d z. row_loops file h b t) found.1.1 t.instruments;
      rows_decode = decode;
      asked =
          let within : (most : ℕ) → SampleRow → Type 0 = λ most row. row.data_place + row.size ≤ most in
          let inside = all_with (within end) (within (length file)) (λ row h. omega (arith, h, w.inside)) (sample_rows found) before in
          asked_rows file (sample_rows found) _ _ inside decode;
      loops_inside =
          all_map (λ (i : InstrumentFound). SamplesTold file i.samples) _ instrument_view
          (λ i s. all_map (HeadTold file) LoopInside StretchFound.bytes (loop_inside file) i.samples.0 s.heads) found.1.1 t.instruments;
    }

-- The header of a sample, where its row says that it stands and as far as its region goes: each byte, and the length that its first four say
stands_at : (file : List ℕ) (ls : List Stretch) (heads : List (List ℕ)) (number : ℕ) → number < length ls → HeadsStand file ls heads
    → HeadStands file (get_or ls number nowhere) (get_or heads number [])
stands_at file [] heads number h e = absurd (omega arith)
stands_at file (x ∷ ls) [] number h e = absurd e
stands_at file (x ∷ ls) (head ∷ heads) zero h e = e.0
stands_at file (x ∷ ls) (head ∷ heads) (suc number) h e = stands_at file ls heads number (omega arith) e.1

long_same : (head other : List ℕ) → ((k : ℕ) → k < least_head → byte_at k head ≡ byte_at k other) → length_of head ≡ length_of other
unfolding long_at
long_same head other same = rw (same 0 (omega arith), same 1 (omega arith), same 2 (omega arith), same 3 (omega arith))

module _ (file : List ℕ) (found : Found) (end : ℕ) (accepted : AcceptedFile file found end) (number : ℕ) (low : number < length (sample_rows found)) where
  abbrev row : SampleRow
  row = get_or (sample_rows found) number no_row

  abbrev pub head_at : List ℕ
  head_at = get_or (heads_in (content_of found)) number []

  abbrev pub bytes_at : List ℕ
  bytes_at = get_or (bytes_in (content_of found)) number []

  -- what is read there, H being the size of the header's region
  abbrev heads : List Stretch
  heads = of_kind sample_header (regions_of found)

  abbrev pub head_in : List ℕ
  head_in = head_bytes (get_or heads number nowhere).size (drop row.header_place file)

  low_head : number < length heads
  low_head = omega (arith, ap length accepted.tables.heads, length-map heads Stretch.place, length-map (sample_rows found) SampleRow.header_place)

  head_place : (get_or heads number nowhere).place ≡ row.header_place
  head_place =
      sym (get_or-map Stretch.place heads number nowhere)
      ∙ ap (λ (all : List ℕ). get_or all number 0) accepted.tables.heads
      ∙ get_or-map SampleRow.header_place (sample_rows found) number no_row

  pub head_byte : (k : ℕ) → k < least_head → byte_at k head_at ≡ byte_at k head_in
  head_byte k l =
      stands_at file heads (heads_in (content_of found)) number low_head accepted.heads_stand k l
      ∙ ap (λ (place : ℕ). cond (ltb k (get_or heads number nowhere).size) (byte_at (place + k) file) 0) head_place
      ∙ sym (cut_byte file (get_or heads number nowhere).size row.header_place k l)

  -- Its row has the header's loop, which lies within its values
  pub loop_at : LoopReads head_at row.width row.loop_kind row.loop_start row.loop_length
      × (row.loop_start + row.loop_length ≤ length (values_of head_at bytes_at))
  loop_at = (
    sample_at RowLoops (sample_rows found) (heads_in (content_of found)) (bytes_in (content_of found)) number low accepted.rows_loop,
    (sample_at (RowDecodes file) (sample_rows found) (heads_in (content_of found)) (bytes_in (content_of found)) number low accepted.rows_decode).3,
  )

  -- So its data decode by the kind and length that are read there
  pub decodes_at : (room : ℕ) → length (values_of head_at bytes_at) ≤ room
      → decoding_by (kind_of head_in) (length_of head_in) row.width (part row.data_place row.size file) room ≡ gives (values_of head_at bytes_at)
  decodes_at room enough =
      rw (← head_byte 17 (omega arith), ← long_same head_at head_in head_byte)
      (decoding_roomy (byte_at 17 head_at) (long_at 0 head_at) row.width (part row.data_place row.size file) (values_of head_at bytes_at) room
      (sample_at (RowDecodes file) (sample_rows found) _ _ number low accepted.rows_decode).1 enough)

  -- In a normal file nothing of a header is cut off
  pub normal-byte : found.0.kind ≡ normal → (k : ℕ) → k < least_head → byte_at k head_in ≡ byte_at (row.header_place + k) file
  normal-byte q k l =
      let wide = all_at (λ (l : Stretch). least_head ≤ l.size) heads number nowhere (accepted.heads_whole q) low_head in
      cut_byte file (get_or heads number nowhere).size row.header_place k l ∙ rw (lt-ltb k (get_or heads number nowhere).size (omega arith))
