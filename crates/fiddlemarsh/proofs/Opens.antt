-- How a loader opens a module: called by the numbers of a row that the check with tables has filled, unpacking gives the content's cells of
-- that pattern, and decoding, by the kind that stands in its header, the content's values of that sample, among which its loop lies. Assumes
-- nothing.
use Prim.Native.Nat.{ℕ, ◌+◌, ◌-◌, ◌*◌, ◌/◌, ◌≤◌, ◌<◌}
use mathlib.Core.List.{List}
use mathlib.Core.Path.{◌≡◌, ap, ◌∙◌}
use native.Mathlib.Omega.{arith}
use lib.IntN.{ℤ}
use borrow.Author.Tests.{eq-eqb, ne_eqb}
use lib.ListN.{length, get_or, drop, length-drop, length-take}
use Rattle.xm.specs.Number.{Bytes, byte_at, part}
use Rattle.xm.specs.ModuleKind.{normal}
use Rattle.xm.specs.Answer.{Answer, gives, in_front, after, loader_number}
use Rattle.xm.specs.Stored.{Pattern, empty_rows}
use Rattle.xm.specs.Packing.{cell_bytes, rows_read}
use Rattle.xm.specs.Header.{kind_at}
use Rattle.xm.specs.Module.{module_format, file_most}
use Rattle.xm.specs.Sample.{least_head, head_bytes, length_of, kind_of, adpcm}
use Rattle.xm.specs.Delta.{count_written, decoding, decoding_limited}
use Rattle.xm.specs.Adpcm.{adpcm_decoding, adpcm_limited, decoding_by}
use Rattle.xm.specs.Press.{content_of}
use Rattle.xm.specs.Table.{CheckReport, checking_into, Tables, room_of, pattern_rows, instrument_rows, sample_rows, pattern_stride, instrument_stride, sample_stride}
use Rattle.xm.specs.Demands.{LoopReads}
use Rattle.xm.proofs.Module.{whole_read}
use Rattle.xm.proofs.Adpcm.{size_half, adpcm_gave}
use Rattle.xm.proofs.Accepted.{accepted_files, decodes_at}
use Rattle.xm.proofs.Demands.{loaders_tell}
use Rattle.tables.proofs.IntoLaws.{into_accepted}
use Rattle.tables.proofs.Calls.{head_at, row_head_size, values_at, sample_number_lem, filled_head_size, filled_whole, filled_loops, filled_unpacks}
use Rattle.fiddlemarsh.specs.Promise.{LoaderUnpacks, LoaderFills, LoaderDecodes, LoaderDecodesAdpcm}

-- A number and a memory of an answer that gives something
given_number : {A B : Type 0} (value : A → ℕ) (written : A → List B) (answer : Answer A) (lent : List B) {number : ℕ} {held : List B} {a : A}
    → answer ≡ gives a
    → (number ≡ loader_number value answer) × (held ≡ after written answer lent) → (number ≡ value a) × (held ≡ in_front (written a) lent)
unfolding loader_number
given_number value written answer lent e met = (met.0 ∙ ap (loader_number value) e, met.1 ∙ ap (λ (a : Answer _). after written a lent) e)

module _ (file : List ℕ) (plain : Bytes file) (lent : Tables) (c : CheckReport) (accepted : checking_into (room_of lent) file ≡ gives c) {number : ℕ}
    {held : Tables}
    (met : LoaderFills file lent number held)
  where
    abbrev channels : ℕ
    channels = c.found.0.content.channels

    abbrev pub pattern_in : ℕ → Pattern
    pattern_in k = get_or (content_of c.found).1.0 k (empty_rows channels 0)

    -- of a pattern's row: data place, size, rows
    abbrev pub pattern_number : (k column : ℕ) → ℕ
    pattern_number k column = get_or held.patterns (pattern_stride * k + column) 0

    pub opens_pattern : (k : ℕ) (cells : List ℕ) {answer : ℕ} {then : List ℕ} → k < length (pattern_rows c.found)
        → length (cell_bytes (pattern_in k)) ≤ length cells
        → LoaderUnpacks (pattern_number k 2) channels (part (pattern_number k 0) (pattern_number k 1) file) cells answer then
        → (answer ≡ (pattern_in k).rows) × (then ≡ in_front (cell_bytes (pattern_in k)) cells)
    opens_pattern k cells low enough =
        rw met.1 (given_number rows_read cell_bytes _ cells (filled_unpacks file plain lent c accepted k (length cells) low enough))

    -- of a sample's row: header place, data place, length, width, loop kind, loop start, loop length; and of its header, as far as its region goes,
    -- the length and the kind
    abbrev pub sample_number : (k column : ℕ) → ℕ
    sample_number k column = get_or held.samples (sample_stride * k + column) 0

    -- H, of which the header for C makes a division: by an instrument's row, place, k, first sample, and the row of that sample
    abbrev pub instrument_number : (k column : ℕ) → ℕ
    instrument_number k column = get_or held.instruments (instrument_stride * k + column) 0

    pub opens_size : (k j : ℕ) → k < length (instrument_rows c.found) → j < instrument_number k 1
        → let first = instrument_number k 2 in
        row_head_size c (first + j) ≡ (sample_number first 1 - sample_number first 0) / instrument_number k 1
    opens_size k j low = rw met.1 (filled_head_size file plain lent c accepted k j low)

    abbrev pub head_in : ℕ → List ℕ
    head_in k = head_bytes (row_head_size c k) (drop (sample_number k 0) file)

    abbrev pub kind_in : ℕ → ℕ
    kind_in k = kind_of (head_in k)

    abbrev pub length_in : ℕ → ℕ
    length_in k = length_of (head_in k)

    abbrev pub data_in : ℕ → List ℕ
    data_in k = part (sample_number k 1) (sample_number k 2) file

    -- A normal module's header stands whole at its place
    pub opens_head : c.found.0.kind ≡ normal → (k : ℕ) → k < length (sample_rows c.found) → (offset : ℕ) → offset < least_head
        → byte_at offset (head_in k) ≡ byte_at (sample_number k 0 + offset) file
    opens_head q k low offset l = rw met.1 (filled_whole file plain lent c accepted q k low offset l)

    -- No sample of a file is above the loader's limits
    part_small : (place size : ℕ) → length (part place size file) ≤ file_most
    part_small place size =
        into_accepted (room_of lent) file c accepted λ q room. whole_read (module_format (kind_at file)) file c.found c.end q λ small e.
        omega (arith, length-take size (drop place file), length-drop place file)

    -- A sample's loop is that of its header, in samples, and lies within the content's values
    pub opens_loop : (k : ℕ) → k < length (sample_rows c.found)
        → LoopReads (head_at c k) (sample_number k 3) (sample_number k 4) (sample_number k 5) (sample_number k 6)
        × (sample_number k 5 + sample_number k 6 ≤ length (values_at c k))
    opens_loop k low = rw met.1 (filled_loops file plain lent c accepted k low)

    -- By the kind that stands in its header a sample's data decode to the content's values
    module _ (k : ℕ) (low : k < length (sample_rows c.found)) (values : List ℤ) (enough : length (values_at c k) ≤ length values) where
      by_kind : decoding_by (kind_in k) (length_in k) (sample_number k 3) (data_in k) (length values) ≡ gives (values_at c k)
      by_kind =
          let at : (column : ℕ) → column < sample_stride → _ = λ column l. sample_number_lem file plain lent c accepted k column low l in
          rw met.1 (rw (at 0 (omega arith), at 1 (omega arith), at 2 (omega arith), at 3 (omega arith))
          (decodes_at file c.found c.end (accepted_files file c.found c.end plain (into_accepted (room_of lent) file c accepted λ q room. q)) k low
          (length values) enough))

      -- of any kind but AD,
      pub opens_sample : {answer : ℕ} {then : List ℤ} → (kind_in k ≡ adpcm → ⊥) → LoaderDecodes (sample_number k 3) (data_in k) values answer then
          → (answer ≡ length (values_at c k)) × (then ≡ in_front (values_at c k) values)
      opens_sample other = given_number count_written (λ (v : List ℤ). v) _ values gave
        where
          own : decoding (sample_number k 3) (data_in k) (length values) ≡ gives (values_at c k)
          own = rw (ne_eqb (kind_in k) adpcm other) at by_kind

          gave : decoding_limited (sample_number k 3) (data_in k) (length values) ≡ gives (values_at c k)
          gave = (loaders_tell.decode_limited (sample_number k 3) (data_in k) (length values)).within (part_small (sample_number k 1) (sample_number k 2)) ∙ own

      -- and of kind AD.
      pub opens_adpcm : {answer : ℕ} {then : List ℤ} → kind_in k ≡ adpcm → LoaderDecodesAdpcm (length_in k) (data_in k) values answer then
          → (answer ≡ length (values_at c k)) × (then ≡ in_front (values_at c k) values)
      opens_adpcm same = given_number count_written (λ (v : List ℤ). v) _ values gave
        where
          own : adpcm_decoding (length_in k) (data_in k) (length values) ≡ gives (values_at c k)
          own = rw (eq-eqb (kind_in k) adpcm same) at by_kind

          few : length_in k ≤ 33554432
          few =
              adpcm_gave (length_in k) (data_in k) (length values) own λ fit l q.
              omega (arith, part_small (sample_number k 1) (sample_number k 2), size_half (length_in k))

          gave : adpcm_limited (length_in k) (data_in k) (length values) ≡ gives (values_at c k)
          gave = (loaders_tell.adpcm_limited (length_in k) (data_in k) (length values)).within few ∙ own
