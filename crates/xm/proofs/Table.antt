-- The tables of an accepted file: every place is the start of its region, and what stands there is the content. Assumes nothing.
use Prim.Native.Nat.{ℕ, ◌+◌}
use mathlib.Core.Bool.{true, false}
use mathlib.Core.List.{List, [], ◌∷◌, ◌++◌, map, append-nil}
use mathlib.Core.Path.{◌≡◌, refl, sym, ap, ap₂, ◌∙◌}
use lib.Dec.{eqb}
use Rattle.xm.specs.Format.{Kind, header, pattern_header, pattern_data, instrument, sample_header, sample_data, joined, All}
use Rattle.xm.specs.Sample.{StretchFound, stretch_region, SamplesFound, samples_format}
use Rattle.xm.specs.PatternInFile.{PatternFound, pattern_format}
use Rattle.xm.specs.Instrument.{InstrumentFound, instrument_format}
use Rattle.xm.specs.Module.{Found, regions_of}
use Rattle.xm.specs.Table.{PatternRow, InstrumentRow, SampleRow, pattern_row, pattern_rows, sample_count}
use Rattle.xm.specs.Table.{instrument_rows_from, instrument_rows, sample_rows_of, sample_rows_in, sample_rows}
use Rattle.xm.specs.Asking.{Stretch, row_stretch}
use Rattle.xm.specs.Structure.{kind_number}
use Rattle.xm.specs.Region.{of_kind}
use Rattle.xm.specs.Demands.{TablesStand}
use Rattle.xm.proofs.Format.{cons_path}
use Rattle.xm.proofs.Sample.{Sized, SamplesTold}
use Rattle.xm.proofs.Region.{kind_append, kind_joined}

-- Lists made of what each element gives
pub joined_same : {A B : Type 0} (P : A → Type 0) (f g : A → List B) → ((x : A) → P x → f x ≡ g x) → (xs : List A) → All P xs → joined f xs ≡ joined g xs
joined_same P f g h [] p = refl
joined_same P f g h (x ∷ xs) p = ap₂ (λ (a b : List _). a ++ b) (h x p.0) (joined_same P f g h xs p.1)

joined_none : {A B : Type 0} (f : A → List B) → ((x : A) → f x ≡ []) → (xs : List A) → joined f xs ≡ []
joined_none f h [] = refl
joined_none f h (x ∷ xs) = ap₂ (λ (a b : List _). a ++ b) (h x) (joined_none f h xs)

joined_one : {A B : Type 0} (f : A → List B) (l : A → B) → ((x : A) → f x ≡ l x ∷ []) → (xs : List A) → joined f xs ≡ map l xs
joined_one f l h [] = refl
joined_one f l h (x ∷ xs) = ap₂ (λ (a b : List _). a ++ b) (h x) (joined_one f l h xs)

pub map-append : {A B : Type 0} (f : A → B) (xs ys : List A) → map f (xs ++ ys) ≡ map f xs ++ map f ys
map-append f [] ys = refl
map-append f (x ∷ xs) ys = cons_path refl (map-append f xs ys)

pub map-joined : {A B C : Type 0} (f : B → C) (g : A → List B) (xs : List A) → map f (joined g xs) ≡ joined (λ (x : A). map f (g x)) xs
map-joined f g [] = refl
map-joined f g (x ∷ xs) = map-append f (g x) (joined g xs) ∙ ap (λ (l : List _). map f (g x) ++ l) (map-joined f g xs)

pub joined-map : {A B C : Type 0} (f : B → List C) (g : A → B) (xs : List A) → joined f (map g xs) ≡ joined (λ (x : A). f (g x)) xs
joined-map f g [] = refl
joined-map f g (x ∷ xs) = ap (λ (l : List _). f (g x) ++ l) (joined-map f g xs)

pub map-map : {A B C : Type 0} (f : B → C) (g : A → B) (xs : List A) → map f (map g xs) ≡ map (λ (x : A). f (g x)) xs
map-map f g [] = refl
map-map f g (x ∷ xs) = cons_path refl (map-map f g xs)

-- The stretches of one kind, asked for by a kind
abbrev pub found_stretch : StretchFound → Stretch
found_stretch v = record { place = v.place; size = v.size }

stretches_same : (kind other : Kind) → eqb (kind_number kind) (kind_number other) ≡ true → (vs : List StretchFound)
    → of_kind kind (joined (stretch_region other) vs) ≡ map found_stretch vs
stretches_same kind other e vs = kind_joined kind (stretch_region other) vs ∙ joined_one _ found_stretch (λ v. rw e) vs

stretches_other : (kind other : Kind) → eqb (kind_number kind) (kind_number other) ≡ false → (vs : List StretchFound)
    → of_kind kind (joined (stretch_region other) vs) ≡ []
stretches_other kind other e vs = kind_joined kind (stretch_region other) vs ∙ joined_none _ (λ v. rw e) vs

-- The regions of an instrument's samples by kind
samples_regions : (kind : Kind) (v : SamplesFound)
    → of_kind kind (samples_format.regions v)
    ≡ of_kind kind (joined (stretch_region sample_header) v.0) ++ of_kind kind (joined (stretch_region sample_data) v.1)
samples_regions kind v = kind_append kind (joined (stretch_region sample_header) v.0) (joined (stretch_region sample_data) v.1)

samples_none : (kind : Kind) → eqb (kind_number kind) (kind_number sample_header) ≡ false → eqb (kind_number kind) (kind_number sample_data) ≡ false
    → (v : SamplesFound) → of_kind kind (samples_format.regions v) ≡ []
samples_none kind p q v =
    samples_regions kind v
    ∙ ap₂ (λ (a b : List Stretch). a ++ b) (stretches_other kind sample_header p v.0) (stretches_other kind sample_data q v.1)

heads_regions : (v : SamplesFound) → of_kind sample_header (samples_format.regions v) ≡ map found_stretch v.0
heads_regions v =
    samples_regions sample_header v
    ∙ ap₂ (λ (a b : List Stretch). a ++ b) (stretches_same sample_header sample_header refl v.0) (stretches_other sample_header sample_data refl v.1)
    ∙ append-nil (map found_stretch v.0)

bytes_regions : (v : SamplesFound) → of_kind sample_data (samples_format.regions v) ≡ map found_stretch v.1
bytes_regions v =
    samples_regions sample_data v
    ∙ ap₂ (λ (a b : List Stretch). a ++ b) (stretches_other sample_data sample_header refl v.0) (stretches_same sample_data sample_data refl v.1)

-- Of a module: what the patterns and the instruments have of a kind
module_regions : (kind : Kind) → eqb (kind_number kind) (kind_number header) ≡ false → (found : Found) → of_kind kind (regions_of found)
    ≡ joined (λ (p : PatternFound). of_kind kind (pattern_format.regions p)) found.1.0
    ++ joined (λ (i : InstrumentFound). of_kind kind ((instrument_format found.0.kind).regions i)) found.1.1
module_regions kind e found =
    let p = pattern_format.regions in
    let i = (instrument_format found.0.kind).regions in
    rw e (kind_append kind (joined p found.1.0) (joined i found.1.1)
    ∙ ap₂ (λ (a b : List Stretch). a ++ b) (kind_joined kind p found.1.0) (kind_joined kind i found.1.1))

-- Patterns: a row for each data region
patterns_stand : (found : Found)
    → of_kind pattern_data (regions_of found) ≡ map (λ (row : PatternRow). record { place = row.data_place; size = row.size }) (pattern_rows found)
patterns_stand found =
    module_regions pattern_data refl found
    ∙ ap₂ (λ (a b : List Stretch). a ++ b)
    (joined_one _ (λ (p : PatternFound). record { place = p.data_place; size = p.data_size }) (λ p. refl) found.1.0)
    (joined_none _ (λ i. samples_none pattern_data refl refl i.samples) found.1.1)
    ∙ append-nil _
    ∙ sym (map-map _ pattern_row found.1.0)

-- Instruments: a row for each
instrument_places : (first : ℕ) (is : List InstrumentFound) → map InstrumentRow.place (instrument_rows_from first is) ≡ map InstrumentFound.place is
instrument_places first [] = refl
instrument_places first (i ∷ is) = cons_path refl (instrument_places (first + sample_count i) is)

no_patterns : (kind : Kind) → eqb (kind_number kind) (kind_number pattern_header) ≡ false → eqb (kind_number kind) (kind_number pattern_data) ≡ false
    → (ps : List PatternFound) → joined (λ (p : PatternFound). of_kind kind (pattern_format.regions p)) ps ≡ []
no_patterns kind e q ps = joined_none _ (λ p. rw (e, q)) ps

instruments_stand : (found : Found) → map Stretch.place (of_kind instrument (regions_of found)) ≡ map InstrumentRow.place (instrument_rows found)
instruments_stand found =
    ap (map Stretch.place)
    (module_regions instrument refl found
    ∙ ap₂ (λ (a b : List Stretch). a ++ b) (no_patterns instrument refl refl found.1.0)
    (joined_one _ (λ (i : InstrumentFound). record { place = i.place; size = i.size })
    (λ i. cons_path refl (samples_none instrument refl refl i.samples)) found.1.1))
    ∙ map-map _ _ found.1.1
    ∙ sym (instrument_places 0 found.1.1)

-- Samples: a row for each header and its data, which are as many
row_heads : (heads : List StretchFound) (bytes : List StretchFound) → Sized (map StretchFound.bytes heads) bytes
    → map SampleRow.header_place (sample_rows_of heads bytes) ≡ map Stretch.place (map found_stretch heads)
row_heads [] bytes z = refl
row_heads (h ∷ hs) [] z = absurd z
row_heads (h ∷ hs) (b ∷ bs) z = cons_path refl (row_heads hs bs z.1)

row_bytes : (heads bytes : List StretchFound) → Sized (map StretchFound.bytes heads) bytes → map row_stretch (sample_rows_of heads bytes) ≡ map found_stretch bytes
row_bytes [] [] z = refl
row_bytes [] (b ∷ bs) z = absurd z
row_bytes (h ∷ hs) [] z = absurd z
row_bytes (h ∷ hs) (b ∷ bs) z = cons_path (ap (λ (n : ℕ). record { place = b.place; size = n }) (sym z.0)) (row_bytes hs bs z.1)

module _ (file : List ℕ) (found : Found) (told : All (λ (i : InstrumentFound). SamplesTold file i.samples) found.1.1) where
  pub heads_lie : of_kind sample_header (regions_of found) ≡ joined (λ (i : InstrumentFound). map found_stretch i.samples.0) found.1.1
  heads_lie =
      module_regions sample_header refl found
      ∙ ap₂ (λ (a b : List Stretch). a ++ b) (no_patterns sample_header refl refl found.1.0) refl
      ∙ joined_same (λ (i : InstrumentFound). SamplesTold file i.samples) _ _ (λ i t. heads_regions i.samples) found.1.1 told

  heads_stand : map Stretch.place (of_kind sample_header (regions_of found)) ≡ map SampleRow.header_place (sample_rows found)
  heads_stand =
      ap (map Stretch.place) heads_lie
      ∙ map-joined Stretch.place (λ (i : InstrumentFound). map found_stretch i.samples.0) found.1.1
      ∙ joined_same (λ (i : InstrumentFound). SamplesTold file i.samples) _ _
      (λ i t. sym (row_heads i.samples.0 i.samples.1 t.sizes)) found.1.1 told
      ∙ sym (map-joined SampleRow.header_place sample_rows_in found.1.1)

  bytes_stand : of_kind sample_data (regions_of found) ≡ map row_stretch (sample_rows found)
  bytes_stand =
      module_regions sample_data refl found
      ∙ ap₂ (λ (a b : List Stretch). a ++ b) (no_patterns sample_data refl refl found.1.0) refl
      ∙ joined_same (λ (i : InstrumentFound). SamplesTold file i.samples) _ _
      (λ i t. bytes_regions i.samples ∙ sym (row_bytes i.samples.0 i.samples.1 t.sizes)) found.1.1 told
      ∙ sym (map-joined _ sample_rows_in found.1.1)

  pub tables_stand : TablesStand found
  tables_stand = record { patterns = patterns_stand found; instruments = instruments_stand found; heads = heads_stand; bytes = bytes_stand }
