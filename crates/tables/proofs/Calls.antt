-- What holds of every answer and memory that meet the contracts of the check with tables. Assumes nothing.
use Prim.Native.Nat.{ℕ, zero, suc, ◌+◌, ◌-◌, ◌*◌, ◌/◌, ◌≤◌, ◌<◌}
use mathlib.Core.List.{List, [], ◌∷◌}
use mathlib.Core.Path.{◌≡◌, refl, sym, ap, ◌∙◌}
use native.Mathlib.Nat.{add-sub_cancel_left, mul-div_cancel_left}
use native.Mathlib.Omega.{arith}
use lib.IntN.{ℤ}
use lib.ListN.{length, get_or, drop}
use Rattle.xm.specs.Number.{Bytes, byte_at, part}
use Rattle.xm.specs.ModuleKind.{normal}
use Rattle.xm.specs.Format.{sample_header, joined}
use Rattle.xm.specs.Answer.{Answer, gives, refuses}
use Rattle.xm.specs.Stored.{Pattern, empty_rows}
use Rattle.xm.specs.Packing.{cell_bytes, unpacking}
use Rattle.xm.specs.Adpcm.{decoding_by, values_of}
use Rattle.xm.specs.Sample.{least_head, head_bytes, length_of, kind_of}
use Rattle.xm.specs.Module.{regions_of}
use Rattle.xm.specs.Press.{content_of}
use Rattle.xm.specs.Table.{PatternRow, pattern_rows, InstrumentRow, instrument_rows, sample_rows, CheckReport, check_into_numbers, checking_into}
use Rattle.xm.specs.Table.{pattern_stride, instrument_stride, sample_stride, pattern_numbers, instrument_numbers, sample_numbers, Tables, Room, room_of, tables_after}
use Rattle.xm.specs.Asking.{nowhere, stretch_of, asking_flat, no_row}
use Rattle.xm.specs.Region.{of_kind}
use Rattle.xm.specs.Demands.{heads_in, bytes_in, RowUnpacks, RowsUnpack, LoopReads, TellsHeads, AcceptedFile, stretch_at}
use Rattle.xm.proofs.Accepted.{accepted_files, number_at, all_at, loop_at, decodes_at, normal-byte}
use Rattle.refusal.specs.declared.Refusal.{Refusal}
use Rattle.std.specs.Prelude.{Result, Err}
use Rattle.refusal.specs.Refusal.{outcome}
use Rattle.walk.specs.declared.Module.{Module}
use Rattle.walk.specs.File.{code_module, verdict_numbers}
use Rattle.walk.proofs.Calls.{verdict_numbers_lem}
use Rattle.tables.proofs.IntoLaws.{into_accepted}

-- The numbers are the paper's
pub into_numbers : (room : Room) (file : List ℕ) {answer : Result Module Refusal} → answer ≡ outcome code_module (checking_into room file)
    → verdict_numbers answer ≡ check_into_numbers room file
into_numbers room file met = ap verdict_numbers met ∙ verdict_numbers_lem (checking_into room file)

-- No second answer fits, nor other tables
pub into_once : (room : Room) (file : List ℕ) {answer other : Result Module Refusal} → answer ≡ outcome code_module (checking_into room file)
    → other ≡ outcome code_module (checking_into room file) → answer ≡ other
into_once room file met e = met ∙ sym e

pub tables_once : (room : Room) (file : List ℕ) (lent : Tables) {after other : Tables} → after ≡ tables_after (checking_into room file) lent
    → other ≡ tables_after (checking_into room file) lent → after ≡ other
tables_once room file lent met e = met ∙ sym e

-- A refused check leaves the tables as they were
refused_tables : (answer : Answer CheckReport) (lent : Tables) {refusal : Refusal} → Err refusal ≡ outcome code_module answer → tables_after answer lent ≡ lent
unfolding tables_after
refused_tables (gives c) lent e = absurd (let z : ◌≡◌ {A = ℕ} 0 1 = cc in omega arith)
refused_tables (refuses r) lent e = refl

pub into_unchanged : (room : Room) (file : List ℕ) (lent : Tables) {refusal : Refusal} {after : Tables} → Err refusal ≡ outcome code_module (checking_into room file)
    → after ≡ tables_after (checking_into room file) lent → after ≡ lent
into_unchanged room file lent told met = met ∙ refused_tables (checking_into room file) lent told

-- What holds row by row holds of the row of a number
unpacks_at : (file : List ℕ) (channels : ℕ) (rows : List PatternRow) (ps : List Pattern) (row : PatternRow) (p : Pattern) (number : ℕ) → number < length rows
    → RowsUnpack file channels rows ps → RowUnpacks file channels (get_or rows number row) (get_or ps number p)
unpacks_at file channels [] ps row p number low u = absurd (omega arith)
unpacks_at file channels (r ∷ rs) [] row p number low u = absurd u
unpacks_at file channels (r ∷ rs) (q ∷ qs) row p zero low u = u.0
unpacks_at file channels (r ∷ rs) (q ∷ qs) row p (suc number) low u = unpacks_at file channels rs qs row p number (omega arith) u.1

-- The content's header of a sample, H, and its values
abbrev pub head_at : CheckReport → (number : ℕ) → List ℕ
head_at c number = get_or (heads_in (content_of c.found)) number []

abbrev pub row_head_size : CheckReport → (number : ℕ) → ℕ
row_head_size c number = (get_or (of_kind sample_header (regions_of c.found)) number nowhere).size

abbrev pub values_at : CheckReport → (number : ℕ) → List ℤ
values_at c number = values_of (head_at c number) (get_or (bytes_in (content_of c.found)) number [])

divided : (behind front count size : ℕ) → 0 < count → behind ≡ front + count * size → size ≡ (behind - front) / count
divided behind front count size some e =
    sym (ap (λ (n : ℕ). (n - front) / count) e ∙ ap (λ (n : ℕ). n / count) (add-sub_cancel_left front (count * size)) ∙ mul-div_cancel_left size some)

-- Of the tables that an accepted check leaves
module _ (file : List ℕ) (plain : Bytes file) (lent : Tables) (c : CheckReport) (accepted : checking_into (room_of lent) file ≡ gives c) where
  found : AcceptedFile file c.found c.end
  found = accepted_files file c.found c.end plain (into_accepted (room_of lent) file c accepted λ q room. q)

  abbrev pub filled : Tables
  filled = tables_after (checking_into (room_of lent) file) lent

  -- each sample is handed back as the content's stretch,
  pub filled_asked : (number : ℕ) → number < length (sample_rows c.found)
      → asking_flat file filled.samples number ≡ gives (stretch_at (sample_rows c.found) number)
  unfolding tables_after
  filled_asked number low = rw accepted (found.asked.flat (drop (length (joined sample_numbers (sample_rows c.found))) lent.samples) number low)

  -- which decodes to the content's values, at the row's width, by the kind and the length of the header that is read at the row's header place, as
  -- far as its region goes
  abbrev pub sample_number : (number k : ℕ) → ℕ
  sample_number number k = get_or filled.samples (sample_stride * number + k) 0

  pub sample_number_lem : (number k : ℕ) → number < length (sample_rows c.found) → k < sample_stride
      → sample_number number k ≡ get_or (sample_numbers (get_or (sample_rows c.found) number no_row)) k 0
  unfolding tables_after
  sample_number_lem number k low l =
      let rows = sample_rows c.found in
      rw accepted (number_at sample_stride sample_numbers (λ row. refl) rows no_row (drop (length (joined sample_numbers rows)) lent.samples) number k low l)

  abbrev pub head_read : (number : ℕ) → List ℕ
  head_read number = head_bytes (row_head_size c number) (drop (sample_number number 0) file)

  pub filled_decodes : (number : ℕ) → number < length (sample_rows c.found)
      → decoding_by (kind_of (head_read number)) (length_of (head_read number)) (sample_number number 3)
      (stretch_of file (asking_flat file filled.samples number)) (length (values_at c number))
      ≡ gives (values_at c number)
  filled_decodes number low =
      rw (filled_asked number low, sample_number_lem number 0 low (omega arith), sample_number_lem number 3 low (omega arith))
      (decodes_at file c.found c.end found number low (length (values_at c number)) (omega arith))

  -- which is told by the numbers of its instrument's row and of that one's first sample row;
  abbrev pub instrument_number : (number k : ℕ) → ℕ
  instrument_number number k = get_or filled.instruments (instrument_stride * number + k) 0

  abbrev no_instrument : InstrumentRow
  no_instrument = record { place = 0; samples = 0; first = 0 }

  instrument_number_lem : (number k : ℕ) → number < length (instrument_rows c.found) → k < instrument_stride
      → instrument_number number k ≡ get_or (instrument_numbers (get_or (instrument_rows c.found) number no_instrument)) k 0
  unfolding tables_after
  instrument_number_lem number k low l =
      let rows = instrument_rows c.found in
      rw accepted
      (number_at instrument_stride instrument_numbers (λ row. refl) rows no_instrument (drop (length (joined instrument_numbers rows)) lent.instruments)
      number k low l)

  pub filled_head_size : (number j : ℕ) → number < length (instrument_rows c.found) → j < instrument_number number 1
      → let first = instrument_number number 2 in
      row_head_size c (first + j) ≡ (sample_number first 1 - sample_number first 0) / instrument_number number 1
  filled_head_size number j low some =
      let k = instrument_number_lem number 1 low (omega arith) in
      let f = instrument_number_lem number 2 low (omega arith) in
      let row = get_or (instrument_rows c.found) number no_instrument in
      let told = all_at (TellsHeads (of_kind sample_header (regions_of c.found)) (sample_rows c.found)) (instrument_rows c.found) number no_instrument
      found.rows_tell_heads low j (omega arith) in
      rw (f, k, sample_number_lem row.first 0 (omega (arith, told.0)) (omega arith), sample_number_lem row.first 1 (omega (arith, told.0)) (omega arith))
      (divided _ _ row.samples (row_head_size c (row.first + j)) (omega arith) told.1)

  -- and whole in a normal module;
  pub filled_whole : c.found.0.kind ≡ normal → (number : ℕ) → number < length (sample_rows c.found) → (k : ℕ) → k < least_head
      → byte_at k (head_read number) ≡ byte_at (sample_number number 0 + k) file
  filled_whole q number low k l = rw (sample_number_lem number 0 low (omega arith)) (normal-byte file c.found c.end found number low q k l)

  -- its row has its header's loop, in samples, within these values;
  pub filled_loops : (number : ℕ) → number < length (sample_rows c.found)
      → LoopReads (head_at c number) (sample_number number 3) (sample_number number 4) (sample_number number 5) (sample_number number 6)
      × (sample_number number 5 + sample_number number 6 ≤ length (values_at c number))
  filled_loops number low =
      rw (
        sample_number_lem number 3 low (omega arith),
        sample_number_lem number 4 low (omega arith),
        sample_number_lem number 5 low (omega arith),
        sample_number_lem number 6 low (omega arith),
      )
      (loop_at file c.found c.end found number low)

  -- and each pattern's data, by the numbers of its row, unpack to the content's rows and cells.
  abbrev pattern_at : (number : ℕ) → Pattern
  pattern_at number = get_or (content_of c.found).1.0 number (empty_rows c.found.0.content.channels 0)

  abbrev pub row_number : (number k : ℕ) → ℕ
  row_number number k = get_or filled.patterns (pattern_stride * number + k) 0

  abbrev none : PatternRow
  none = record { data_place = 0; size = 0; rows = 0 }

  number_in : (number k : ℕ) → number < length (pattern_rows c.found) → k < pattern_stride
      → row_number number k ≡ get_or (pattern_numbers (get_or (pattern_rows c.found) number none)) k 0
  unfolding tables_after
  number_in number k low l =
      let rows = pattern_rows c.found in
      rw accepted (number_at pattern_stride pattern_numbers (λ row. refl) rows none (drop (length (joined pattern_numbers rows)) lent.patterns) number k low l)

  pub filled_unpacks : (number room : ℕ) → number < length (pattern_rows c.found) → length (cell_bytes (pattern_at number)) ≤ room
      → unpacking (row_number number 2) c.found.0.content.channels (part (row_number number 0) (row_number number 1) file) room ≡ gives (pattern_at number)
  filled_unpacks number room low enough =
      rw (number_in number 0 low (omega arith), number_in number 1 low (omega arith), number_in number 2 low (omega arith))
      ((unpacks_at file c.found.0.content.channels (pattern_rows c.found) _ none (empty_rows c.found.0.content.channels 0) number low
      found.rows_unpack).1 room enough)
