-- Laws of the header that is written. Assumes nothing.
use Prim.Native.Nat.{ℕ, ◌+◌, ◌≤◌, ◌<◌}
use mathlib.Core.Bool.{Bool, true, false}
use mathlib.Core.List.{List, [], ◌∷◌, ◌++◌}
use mathlib.Core.Path.{◌≡◌, refl, ap, ap₂, ◌∙◌}
use native.Mathlib.Omega.{arith}
use lib.ListN.{length, replicate, length-append, length-replicate}
use Rattle.xm.specs.Number.{Bytes, word_at, part, byte, word, long}
use Rattle.xm.specs.ModuleKind.{ModuleKind, normal, stripped}
use Rattle.xm.specs.Header.{size_from, id_text, mark, version, least_header, padding, orders_most, channels_at, instruments_at, restart_of, write_header}
use Rattle.xm.proofs.Format.{flat_append}
use Rattle.writers.specs.Header.{tracker_by, header_with, names_of, header_numbers, orders_of}
use Rattle.writers.proofs.Kept.{part_length, part_split, word_kept}

-- What differs between the two kinds fits where it is written
pub mark_low : (kind : ModuleKind) → mark kind < 256
mark_low normal = omega arith
mark_low stripped = omega arith

pub version_low : (kind : ModuleKind) → version kind < 65536
version_low normal = omega arith
version_low stripped = omega arith

-- and has its size
pub id_size : (kind : ModuleKind) → length (id_text kind) ≡ 17
id_size normal = refl
id_size stripped = refl

pub tracker_size : (kept : Bool) (file : List ℕ) → 80 ≤ length file → length (tracker_by kept file) ≡ 20
tracker_size true file h = part_length 38 20 file (omega arith)
tracker_size false file h = refl

pub table_size_lem : (kind : ModuleKind) (song_length : ℕ) → song_length ≤ orders_most → 20 + (song_length + padding kind song_length) ≡ least_header kind song_length
table_size_lem normal song_length h = omega arith
table_size_lem stripped song_length h = omega arith

-- Instruments, flags, tempo and BPM
pub four_words : {s : List ℕ} → Bytes s → 80 ≤ length s
    → part 72 8 s ≡ word (instruments_at s) ++ (word (word_at 74 s) ++ (word (word_at 76 s) ++ word (word_at 78 s)))
four_words {s} b h =
    part_split 72 2 6 s
    ∙ ap₂ (λ (x y : List ℕ). x ++ y) (word_kept 72 b (omega arith))
    (part_split 74 2 4 s
    ∙ ap₂ (λ (x y : List ℕ). x ++ y) (word_kept 74 b (omega arith))
    (part_split 76 2 2 s ∙ ap₂ (λ (x y : List ℕ). x ++ y) (word_kept 76 b (omega arith)) (word_kept 78 b (omega arith))))

pub orders_size : (kind : ModuleKind) (orders : List ℕ) → length (orders_of kind orders) ≡ length orders + padding kind (length orders)
orders_size kind orders = simp (length-append, length-replicate) (omega arith)

-- The three parts are the whole
module _ (kind : ModuleKind) (tracker : List ℕ) where
  pub header_parts : (patterns : ℕ) (orders file : List ℕ)
      → write_header kind (header_with tracker patterns orders file)
      ≡ names_of kind tracker file ++ (header_numbers kind (length orders) patterns file ++ orders_of kind orders)
  unfolding write_header
  header_parts patterns orders file =
      let numbers : List (List ℕ) =
      long (least_header kind (length orders)) ∷ word (length orders) ∷ word (restart_of (length orders) (word_at 66 file)) ∷ word (channels_at file)
      ∷ word patterns ∷ word (instruments_at file)
      ∷ word (word_at 74 file) ∷ word (word_at 76 file) ∷ word (word_at 78 file) ∷ [] in
      let table : List (List ℕ) = orders ∷ replicate (padding kind (length orders)) 0 ∷ [] in
      flat_append (id_text kind ∷ part 17 20 file ∷ byte (mark kind) ∷ tracker ∷ word (version kind) ∷ []) (numbers ++ table)
      ∙ ap (λ (l : List ℕ). names_of kind tracker file ++ l) (flat_append numbers table)

  -- Their sizes
  pub names_size : (file : List ℕ) → length tracker ≡ 20 → 80 ≤ length file → length (names_of kind tracker file) ≡ 60
  names_size file n h = simp length-append (omega (arith, id_size kind, part_length 17 20 file (omega arith)))

  pub header_size : (patterns : ℕ) (orders file : List ℕ) → length tracker ≡ 20 → 80 ≤ length file → length orders ≤ orders_most
      → length (write_header kind (header_with tracker patterns orders file)) ≡ size_from + least_header kind (length orders)
  header_size patterns orders file n h l =
      ap length (header_parts patterns orders file) ∙ length-append (names_of kind tracker file) _
      ∙ omega (arith, names_size file n h, orders_size kind orders, table_size_lem kind (length orders) l)
