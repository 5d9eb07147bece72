-- Laws of the header. Assumes nothing.
use Prim.Native.Nat.{ℕ, ◌+◌, ◌≤◌, ◌<◌}
use mathlib.Core.Bool.{Bool, true, false, cond}
use mathlib.Core.List.{List, [], ◌∷◌, ◌++◌}
use mathlib.Core.Path.{◌≡◌, refl, sym, ap, ap₂, ◌∙◌, subst}
use native.Mathlib.Omega.{arith}
use borrow.Author.Tests.{lt-ltb, ltb-true}
use lib.ListN.{length, take, drop, replicate, length-append, length-drop, length-replicate}
use lib.Seq.{length-take-le}
use Rattle.xm.specs.Number.{Bytes, byte_at, word_at, long_at, part}
use Rattle.xm.specs.ModuleKind.{ModuleKind, normal, stripped}
use Rattle.xm.specs.Got.{got, AllHold, present, at_least, exactly, ◌at◌}
use Rattle.xm.specs.Header.{mark, version, size_from, least_header, orders_most, header_end, count_tests, header_tests}
use Rattle.xm.specs.Header.{Header, HeaderFound, GoodHeader, restart_inside, restart_of, header_of, read_header}
use Rattle.xm.specs.Header.{id_text, write_header, header_format, padding, no_tracker, tracker_at, GoodTracker}
use Rattle.xm.specs.Region.{Adjoin}
use Rattle.xm.proofs.Number.{bytes_drop, bytes_take, bytes_by, bytes_zeros, word_small, Agree}
use Rattle.xm.proofs.Got.{pass, passed, got_both, got_carry}
use Rattle.xm.proofs.Format.{Back, Keeps, Held, Adjoins, Firm}
use Rattle.xm.proofs.Field.{Field, byte_field, word_field, long_field, text_field, no_field, ◌⊗◌}

-- Restart is below the song length, and what is below is kept
inside_below : (song_length restart : ℕ) → restart_inside song_length restart ≡ true → restart < song_length
unfolding restart_inside
inside_below song_length restart e = omega (arith, ltb-true)

restart_keeps : (song_length restart : ℕ) → restart < song_length → restart_of song_length restart ≡ restart
unfolding restart_of restart_inside
restart_keeps song_length restart h = let e : restart_inside song_length restart ≡ true = omega (arith, lt-ltb) in rw e

restart_below : (song_length restart : ℕ) → 1 ≤ song_length → restart_of song_length restart < song_length
unfolding restart_of
restart_below song_length restart h = go (restart_inside song_length restart) refl
  where
    go : (t : Bool) → restart_inside song_length restart ≡ t → cond t restart 0 < song_length
    go true e = inside_below song_length restart e
    go false e = h

-- What depends on the kind
mark-byte : (kind : ModuleKind) → mark kind < 256
mark-byte normal = omega arith
mark-byte stripped = omega arith

version-word : (kind : ModuleKind) → version kind < 65536
version-word normal = omega arith
version-word stripped = omega arith

id_size : (kind : ModuleKind) → length (id_text kind) ≡ 17
id_size normal = refl
id_size stripped = refl

id_plain : (kind : ModuleKind) → Bytes (id_text kind)
id_plain normal = bytes_by (id_text normal) refl
id_plain stripped = bytes_zeros 17

pub least_low : (kind : ModuleKind) (song_length : ℕ) → song_length ≤ orders_most → 20 + song_length ≤ least_header kind song_length
least_low normal song_length h = omega arith
least_low stripped song_length h = omega arith

least_high : (kind : ModuleKind) (song_length : ℕ) → song_length ≤ orders_most → least_header kind song_length ≤ 276
least_high normal song_length h = omega arith
least_high stripped song_length h = omega arith

-- the least header is full: 20 bytes, the orders and the padding
least_full : (kind : ModuleKind) (song_length : ℕ) → song_length ≤ orders_most → 20 + song_length + padding kind song_length ≡ least_header kind song_length
least_full normal song_length h = omega arith
least_full stripped song_length h = omega arith

tracker_fits : (kind : ModuleKind) (name : List ℕ) → GoodTracker kind name → (length name ≡ 20) × Bytes name
tracker_fits normal name g = g
tracker_fits stripped name g = rw g (refl, bytes_zeros 20)

tracker_good : (kind : ModuleKind) (s : List ℕ) → Bytes s → 80 ≤ length s → GoodTracker kind (tracker_at kind s)
tracker_good normal s b h = (length-take-le 20 (drop 38 s) (omega (arith, length-drop 38 s)), bytes_take 20 (bytes_drop 38 b))
tracker_good stripped s b h = refl

-- what is content of a tracker name is read off the 20 bytes there
tracker_in : ModuleKind → (name : List ℕ) → List ℕ
tracker_in normal name = name
tracker_in stripped name = no_tracker

tracker_in_lem : (kind : ModuleKind) (s : List ℕ) → tracker_in kind (part 38 20 s) ≡ tracker_at kind s
unfolding tracker_in
tracker_in_lem normal s = refl
tracker_in_lem stripped s = refl

tracker_kept : (kind : ModuleKind) (name : List ℕ) → GoodTracker kind name → tracker_in kind name ≡ name
unfolding tracker_in
tracker_kept normal name g = refl
tracker_kept stripped name g = sym g

-- The header's fields in their order, with so many orders: those from the song length on, and all
abbrev Later : Type 0
Later = ℕ × (ℕ × (ℕ × (ℕ × (ℕ × (ℕ × (ℕ × (ℕ × (List ℕ × (List ℕ × Unit {0})))))))))

abbrev Row : Type 0
Row = List ℕ × (List ℕ × (ℕ × (List ℕ × (ℕ × (ℕ × Later)))))

abbrev later_fields : (orders padding : ℕ) → Field Later
later_fields n m =
    word_field
    ⊗ word_field
    ⊗ word_field
    ⊗ word_field
    ⊗ word_field
    ⊗ word_field
    ⊗ word_field
    ⊗ word_field
    ⊗ text_field n
    ⊗ text_field m
    ⊗ no_field

abbrev layout : (orders padding : ℕ) → Field Row
layout n m = text_field 17 ⊗ text_field 20 ⊗ byte_field ⊗ text_field 20 ⊗ word_field ⊗ long_field ⊗ later_fields n m

-- stand at the paper's offsets
abbrev later_offsets : (orders padding : ℕ) → List ℕ → Later
later_offsets n m s =
    let ends : List ℕ × (List ℕ × Unit {0}) = (part 80 n s, (part (80 + n) m s, tt)) in
    (word_at 64 s, (word_at 66 s, (word_at 68 s, (word_at 70 s, (word_at 72 s, (word_at 74 s, (word_at 76 s, (word_at 78 s, ends))))))))

abbrev offsets : (orders padding : ℕ) → List ℕ → Row
offsets n m s = (take 17 s, (part 17 20 s, (byte_at 37 s, (part 38 20 s, (word_at 58 s, (long_at 60 s, later_offsets n m s))))))

-- What the tests and the content are of such fields
abbrev size_in : Row → ℕ
size_in r = r.1.1.1.1.1.0

abbrev song_in : Row → ℕ
song_in r = r.1.1.1.1.1.1.0

abbrev content_with : (restart : ℕ) (tracker : List ℕ) → Row → Header
content_with restart tracker r = record {
  module_name = r.1.0;
  tracker_name = tracker;
  song_length = song_in r;
  restart = restart;
  channels = r.1.1.1.1.1.1.1.1.0;
  patterns = r.1.1.1.1.1.1.1.1.1.0;
  instruments = r.1.1.1.1.1.1.1.1.1.1.0;
  flags = r.1.1.1.1.1.1.1.1.1.1.1.0;
  tempo = r.1.1.1.1.1.1.1.1.1.1.1.1.0;
  bpm = r.1.1.1.1.1.1.1.1.1.1.1.1.1.0;
  orders = r.1.1.1.1.1.1.1.1.1.1.1.1.1.1.0;
}

abbrev content_in : ModuleKind → Row → Header
content_in kind r = content_with (restart_of (song_in r) r.1.1.1.1.1.1.1.0) (tracker_in kind r.1.1.1.0) r

abbrev TestsIn : ModuleKind → Row → ℕ → Type 0
TestsIn kind r n =
    let c = content_in kind r in
    AllHold (
    present 80 n (1 at 0)
    ∷ exactly (mark kind) r.1.1.0 (3 at 0)
    ∷ exactly (version kind) r.1.1.1.1.0 (3 at 0)
    ∷ at_least (least_header kind (song_in r)) (size_in r) (4 at 0)
    ∷ count_tests c.song_length c.patterns c.channels c.instruments 0
    ++ (present (size_in r + size_from) n (1 at 0) ∷ []))

abbrev written_later : ModuleKind → Header → Later
written_later kind x =
    let ends : List ℕ × (List ℕ × Unit {0}) = (x.orders, (replicate (padding kind x.song_length) 0, tt)) in
    (x.song_length, (x.restart, (x.channels, (x.patterns, (x.instruments, (x.flags, (x.tempo, (x.bpm, ends))))))))

written : ModuleKind → Header → Row
written kind x =
    let size = least_header kind x.song_length in
    (id_text kind, (x.module_name, (mark kind, (x.tracker_name, (version kind, (size, written_later kind x))))))

content_of_lem : (kind : ModuleKind) (n m : ℕ) (s : List ℕ) → n ≡ word_at 64 s → content_in kind (offsets n m s) ≡ header_of kind s
content_of_lem kind n m s e =
    ap₂ (λ (t : List ℕ) (k : ℕ). content_with (restart_of (word_at 64 s) (word_at 66 s)) t (offsets k m s)) (tracker_in_lem kind s) e

module _ (kind : ModuleKind) (x : Header) (g : GoodHeader kind x) where
  zeros_fit : (text_field (padding kind x.song_length)).Fits (replicate (padding kind x.song_length) 0)
  zeros_fit = (length-replicate (padding kind x.song_length) 0, bytes_zeros (padding kind x.song_length))

  orders_fit : (text_field x.song_length).Fits x.orders
  orders_fit = (g.orders_size, g.orders_plain)

  later_fits : (later_fields x.song_length (padding kind x.song_length)).Fits (written_later kind x)
  later_fits =
      let c = g.counts in
      let restart : x.restart < 65536 = omega (arith, g.restart_low) in
      (omega arith, (restart, (omega arith, (omega arith, (omega arith, (g.flags_high, (g.tempo_high, (g.bpm_high, (orders_fit, (zeros_fit, tt))))))))))

  written_fits : (layout x.song_length (padding kind x.song_length)).Fits (written kind x)
  unfolding written
  written_fits =
      let tracker = tracker_fits kind x.tracker_name g.tracker_good in
      let size : least_header kind x.song_length < 4294967296 = omega (arith, least_high kind x.song_length g.counts.0.1) in
      ((id_size kind, id_plain kind), ((g.name_size, g.name_plain), (mark-byte kind, (tracker, (version-word kind, (size, later_fits))))))

  written_reads : (rest : List ℕ) → offsets x.song_length (padding kind x.song_length) (write_header kind x ++ rest) ≡ written kind x
  unfolding write_header written
  written_reads rest = (layout x.song_length (padding kind x.song_length)).back [] (written kind x) rest written_fits

  pub header_size : length (write_header kind x) ≡ least_header kind x.song_length + 60
  unfolding write_header written
  header_size =
      (layout x.song_length (padding kind x.song_length)).size (written kind x) written_fits
      ∙ omega (arith, g.counts.0, least_full kind x.song_length g.counts.0.1)

  -- so the tests hold of what is written, and it reads as the content
  module _ (place : ℕ) (rest : List ℕ) where
    abbrev file : List ℕ
    file = write_header kind x ++ rest

    song : word_at 64 file ≡ x.song_length
    unfolding written
    song = ap song_in (written_reads rest)

    reads_content : header_of kind file ≡ x
    unfolding written
    reads_content =
        sym (content_of_lem kind x.song_length (padding kind x.song_length) file (sym song))
        ∙ ap (content_in kind) (written_reads rest)
        ∙ ap₂ (λ (r : ℕ) (t : List ℕ). content_with r t (written kind x))
        (restart_keeps x.song_length x.restart g.restart_low) (tracker_kept kind x.tracker_name g.tracker_good)

    reads_tests : AllHold (header_tests kind place file)
    unfolding written
    reads_tests =
        let c = g.counts in
        let l : least_header kind x.song_length + 60 ≤ length file = omega (arith, length-append (write_header kind x) rest, header_size) in
        subst (λ (r : Row). TestsIn kind r (length file)) (sym (written_reads rest))
        (omega (arith, least_low kind x.song_length c.0.1), (refl, (refl, (omega arith, (c.0, (c.1.0, (c.1.1.0, (c.1.1.1.0, (l, tt)))))))))

    reads_end : header_end file ≡ least_header kind x.song_length + 60
    unfolding written
    reads_end = ap (λ (r : Row). size_in r + 60) (written_reads rest)

    header_found : HeaderFound
    header_found = record { kind = kind; place = place; size = least_header kind x.song_length + 60; content = x }

    reads_all : read_header kind place file ≡ got header_found (length (write_header kind x))
    unfolding read_header header_found
    reads_all =
        pass (header_tests kind place file) reads_tests
        (got_both (ap₂ (λ (n : ℕ) (h : Header). record { kind = kind; place = place; size = n; content = h }) reads_end reads_content)
        (reads_end ∙ sym header_size))

header_plain : (kind : ModuleKind) (x : Header) → GoodHeader kind x → Bytes (write_header kind x)
unfolding write_header written
header_plain kind x g = (layout x.song_length (padding kind x.song_length)).plain (written kind x) (written_fits kind x g)

pub header_back : (kind : ModuleKind) → Back (header_format kind) tt
unfolding header_found
header_back kind = record {
  back = λ place x rest g. record { found = header_found kind x g place rest; reads = reads_all kind x g place rest; same = refl };
  plain = header_plain kind;
}

-- What is read is good content
good_content : (kind : ModuleKind) (s : List ℕ) → Bytes s → AllHold (header_tests kind 0 s) → GoodHeader kind (header_of kind s)
good_content kind s b h =
    let c = h.1.1.1.1 in
    record {
      name_size = length-take-le 20 (drop 17 s) (omega (arith, length-drop 17 s, h.0));
      name_plain = bytes_take 20 (bytes_drop 17 b);
      tracker_good = tracker_good kind s b h.0;
      counts = (c.0, (c.1.0, (c.1.1.0, (c.1.1.1.0, tt))));
      restart_low = restart_below (word_at 64 s) (word_at 66 s) c.0.0;
      flags_high = word_small 74 b;
      tempo_high = word_small 76 b;
      bpm_high = word_small 78 b;
      orders_size =
          length-take-le (word_at 64 s) (drop 80 s)
          (omega (arith, length-drop 80 s, least_low kind (word_at 64 s) c.0.1, h.1.1.1.0, c.1.1.1.1.0));
      orders_plain = bytes_take (word_at 64 s) (bytes_drop 80 b);
    }

pub header_keeps : (kind : ModuleKind) → Keeps (header_format kind) tt
unfolding read_header
header_keeps kind = record {
  keeps = λ place s i n b e.
      passed _ _ e λ h e.
      let g = good_content kind s b h in
      got_carry (λ (r : HeaderFound) (t : ℕ). Held (header_format kind) tt place s r t) e
      (record { inside = h.1.1.1.1.1.1.1.1.0; good = g; short = omega (arith, header_size kind (header_of kind s) g, h.1.1.1.0) });
}

same_tests : (kind : ModuleKind) (s t : List ℕ) (n : ℕ) → AllHold (header_tests kind 0 s) → header_end s ≤ n → Agree n s t
    → (offsets (word_at 64 s) 0 s ≡ offsets (word_at 64 s) 0 t) → AllHold (header_tests kind 0 t)
same_tests kind s t n h l a z =
    let c = h.1.1.1.1 in
    let there : 80 ≤ length t = omega (arith, a.long, h.1.1.1.0, least_low kind (word_at 64 s) c.0.1) in
    subst (λ (r : Row). TestsIn kind r (length t)) z
    (there, (h.1.0, (h.1.1.0, (h.1.1.1.0, (c.0, (c.1.0, (c.1.1.0, (c.1.1.1.0, (omega (arith, a.long), tt)))))))))

pub header_firm : (kind : ModuleKind) → Firm (header_format kind) tt
unfolding read_header
header_firm kind = record {
  firm = λ place s t i n e a.
      passed _ _ e λ h e.
      got_carry (λ (r : HeaderFound) (u : ℕ). u ≡ n → read_header kind place t ≡ got r u) e
      (λ q.
      let z : offsets (word_at 64 s) 0 s ≡ offsets (word_at 64 s) 0 t =
      (layout (word_at 64 s) 0).firm 0 n s t a (omega (arith, h.1.1.1.0, least_low kind (word_at 64 s) h.1.1.1.1.0.1)) in
      let same : header_of kind t ≡ header_of kind s =
      sym (content_of_lem kind (word_at 64 s) 0 t (ap song_in z)) ∙ sym (ap (content_in kind) z) ∙ content_of_lem kind (word_at 64 s) 0 s refl in
      let size : header_end t ≡ header_end s = sym (ap (λ (r : Row). size_in r + size_from) z) in
      pass (header_tests kind place t) (same_tests kind s t n h (omega arith) a z)
      (got_both (ap₂ (λ (k : ℕ) (c : Header). record { kind = kind; place = place; size = k; content = c }) size same) size)) refl;
}

pub header_adjoins : (kind : ModuleKind) → Adjoins (header_format kind) tt
unfolding read_header
header_adjoins kind = record {
  adjoins = λ place s i n e.
      passed _ _ e λ h e.
      got_carry (λ (r : HeaderFound) (t : ℕ). Adjoin place ((header_format kind).regions r) (place + t)) e (refl, refl);
}
