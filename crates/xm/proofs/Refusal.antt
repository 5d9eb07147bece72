-- Every refusal has one of the paper's numbers, and a place inside what was read or at its end. Assumes nothing.
use Prim.Native.Nat.{ℕ, ◌+◌, ◌*◌, ◌≤◌}
use mathlib.Core.List.{List, [], ◌∷◌}
use mathlib.Core.Path.{◌≡◌, ◌∙◌}
use native.Mathlib.Omega.{arith}
use lib.ListN.{length, drop, replicate, length-drop}
use lib.Seq.{length-take-le}
use Rattle.xm.specs.Number.{Bytes, word_at, long_at, part}
use Rattle.xm.specs.ModuleKind.{ModuleKind, normal, stripped}
use Rattle.xm.specs.Got.{Refusal, refused}
use Rattle.xm.specs.Format.{Format, over, then, each, each_read, All}
use Rattle.xm.specs.Cell.{cell_format, read_cell}
use Rattle.xm.specs.Stored.{read_cells, read_stored}
use Rattle.xm.specs.Header.{Header, GoodHeader, header_format, read_header}
use Rattle.xm.specs.PatternInFile.{pattern_format, read_pattern}
use Rattle.xm.specs.Sample.{read_head, data_format, read_data, samples_format, cut_head_format, cut_samples_format}
use Rattle.xm.specs.Instrument.{fields_of, instrument_format, read_instrument}
use Rattle.xm.specs.Module.{patterns_for, instruments_for, body_format, module_format, file_most, read_whole}
use Rattle.xm.specs.Demands.{Numbered}
use Rattle.xm.proofs.Number.{bytes_drop, bytes_take}
use Rattle.xm.proofs.Got.{got_never, refused_bind, refused_tests}
use Rattle.xm.proofs.Format.{Keeps, over_keeps, many_keeps, all, all_replicate}
use Rattle.xm.proofs.Cell.{cell_keeps}
use Rattle.xm.proofs.Header.{header_keeps}
use Rattle.xm.proofs.PatternInFile.{pattern_keeps}
use Rattle.xm.proofs.Sample.{cut_keeps, data_keeps, samples_alike}
use Rattle.xm.proofs.Stripped.{instrument_keeps}

-- What a refusal may be, of bytes that begin at a place
pub record RefusalWithin (place : ℕ) (s : List ℕ) (r : Refusal) : Type 0 where
  pub low : 1 ≤ r.number
  pub high : r.number ≤ 13
  pub not_nine : r.number ≡ 9 → ⊥
  pub from : place ≤ r.place
  pub to : r.place ≤ place + length s

pub refusal_numbered : {place : ℕ} {s : List ℕ} {r : Refusal} → RefusalWithin place s r → Numbered 13 r.number
refusal_numbered f = (f.low, f.high, f.not_nine)

pub record Refuses {H I A : Type 0} (F : Format H I A) (h : H) : Type 0 where
  pub refusals : (place : ℕ) (s : List ℕ) (r : Refusal) → Bytes s → F.read h place s ≡ refused r → RefusalWithin place s r

refusal_later : (place n : ℕ) (s : List ℕ) (r : Refusal) → n ≤ length s → RefusalWithin (place + n) (drop n s) r → RefusalWithin place s r
refusal_later place n s r l f = record {
  low = f.low;
  high = f.high;
  not_nine = f.not_nine;
  from = omega (arith, f.from);
  to = omega (arith, f.to, length-drop n s);
}

-- Formats put together
over_refusals : {H K I A : Type 0} (f : K → H) {F : Format H I A} (k : K) → Refuses F (f k) → Refuses (over f F) k
over_refusals f k b = record { refusals = b.refusals }

module _ {H I A K J B : Type 0} (next : H → A → K) {F : Format H I A} {G : Format K J B} where
  then_refusals : {h : H} → Keeps F h → Refuses F h → ((a : A) → F.Good h a → Refuses G (next h a)) → Refuses (then F next G) h
  then_refusals {h} w b c = record {
    refusals = λ place s r p e.
        refused_bind (F.read h place s) _ e (b.refusals place s r p) λ i n ei e₁.
        let k = w.keeps place s i n p ei in
        refused_bind (G.read (next h (F.view i)) (place + n) (drop n s)) _ e₁
        (λ ej. refusal_later place n s r k.inside ((c (F.view i) k.good).refusals (place + n) (drop n s) r (bytes_drop n p) ej))
        (λ j m ej e₂. absurd (got_never e₂));
  }

module _ {H I A : Type 0} (F : Format H I A) where
  each_refusal : (hs : List H) → All (λ (h : H). Keeps F h × Refuses F h) hs → (place : ℕ) (s : List ℕ) (r : Refusal) → Bytes s
      → each_read F hs place s ≡ refused r → RefusalWithin place s r
  each_refusal [] b place s r p e = absurd (got_never e)
  each_refusal (h ∷ hs) b place s r p e =
      refused_bind (F.read h place s) _ e (b.0.1.refusals place s r p) λ i n ei e₁.
      refused_bind (each_read F hs (place + n) (drop n s)) _ e₁
      (λ ej. refusal_later place n s r (b.0.0.keeps place s i n p ei).inside (each_refusal hs b.1 (place + n) (drop n s) r (bytes_drop n p) ej))
      (λ js m ej e₂. absurd (got_never e₂))

  each_refusals : (hs : List H) → All (λ (h : H). Keeps F h × Refuses F h) hs → Refuses (each F) hs
  each_refusals hs b = record { refusals = each_refusal hs b }

  many_refusals : (n : ℕ) {h : H} → Keeps F h → Refuses F h → Refuses (each F) (replicate n h)
  many_refusals n {h} w b = each_refusals (replicate n h) (all_replicate (λ (h : H). Keeps F h × Refuses F h) h n (w, b))

-- Each structure
cell_refusals : Refuses cell_format tt
unfolding read_cell
cell_refusals = record { refusals = λ place s r p e. refused_tests (RefusalWithin place s) _ _ e (omega arith) λ hs e₁. absurd (got_never e₁) }

pub stored_refusals : (channels rows place : ℕ) (d : List ℕ) (r : Refusal) → Bytes d → read_stored channels rows place d ≡ refused r → RefusalWithin place d r
unfolding read_stored read_cells
stored_refusals channels rows place [] r p e = absurd (got_never e)
stored_refusals channels rows place (b ∷ d) r p e =
    refused_bind _ _ e ((many_refusals cell_format (rows * channels) cell_keeps cell_refusals).refusals place (b ∷ d) r p) λ xs n ex e₁.
    let w = (many_keeps cell_format (rows * channels) cell_keeps).keeps place (b ∷ d) xs n p ex in
    refused_tests (RefusalWithin place (b ∷ d)) _ _ e₁ (omega (arith, w.inside)) λ hs e₂. absurd (got_never e₂)

header_refusals : (kind : ModuleKind) → Refuses (header_format kind) tt
unfolding read_header
header_refusals kind = record { refusals = λ place s r p e. refused_tests (RefusalWithin place s) _ _ e (omega arith) λ hs e₁. absurd (got_never e₁) }

pattern_refusals : (channels : ℕ) → Refuses pattern_format channels
unfolding read_pattern
pattern_refusals channels = record {
  refusals = λ place s r p e.
      refused_tests (RefusalWithin place s) _ _ e (omega arith) λ hs e₁.
      refused_bind _ _ e₁
      (λ ep.
      let L = long_at 0 s in
      let S = word_at 7 s in
      let f = stored_refusals channels (word_at 5 s) (place + L) (part L S s) r (bytes_take S (bytes_drop L p)) ep in
      let l = length-take-le S (drop L s) (omega (arith, length-drop L s, hs.1.1.1.0)) in
      record { low = f.low; high = f.high; not_nine = f.not_nine; from = omega (arith, f.from); to = omega (arith, f.to, l, hs.1.1.1.0) })
      (λ q m eq e₂. absurd (got_never e₂));
}

head_refusals : (size : ℕ) → Refuses (cut_head_format size) size
unfolding read_head
head_refusals size = record { refusals = λ place s r p e. refused_tests (RefusalWithin place s) _ _ e (omega arith) λ hs e₁. absurd (got_never e₁) }

data_refusals : (head : List ℕ) → Refuses data_format head
unfolding read_data
data_refusals head = record { refusals = λ place s r p e. refused_tests (RefusalWithin place s) _ _ e (omega arith) λ hs e₁. absurd (got_never e₁) }

cut_refusals : (k size : ℕ) → Refuses (cut_samples_format size) (replicate k size)
cut_refusals k size =
    then_refusals (λ sizes heads. heads) (many_keeps (cut_head_format size) k (cut_keeps size))
    (many_refusals (cut_head_format size) k (cut_keeps size) (head_refusals size))
    (λ heads g. each_refusals data_format heads (all (λ head. (data_keeps head, data_refusals head)) heads))

samples_refusals : (k size : ℕ) → Refuses samples_format (replicate k size)
samples_refusals k size = record { refusals = λ place s r p e. (cut_refusals k size).refusals place s r p (samples_alike size place (replicate k size) s ∙ e) }

instrument_refusals : (kind : ModuleKind) → Refuses (instrument_format kind) tt
unfolding read_instrument
instrument_refusals normal = record {
  refusals = λ place s r p e.
      refused_tests (RefusalWithin place s) _ _ e (omega arith) λ hs e₁.
      refused_bind _ _ e₁
      (λ ev.
      refusal_later place (long_at 0 s) s r hs.1.1.1.1.0
      ((samples_refusals (word_at 27 s) (long_at 29 s)).refusals (place + long_at 0 s) (drop (long_at 0 s) s) r (bytes_drop (long_at 0 s) p) ev))
      (λ v m ev e₂. absurd (got_never e₂));
}
instrument_refusals stripped = record {
  refusals = λ place s r p e.
      refused_tests (RefusalWithin place s) _ _ e (omega arith) λ hs e₁.
      refused_bind _ _ e₁
      (λ ev.
      let I = long_at 0 s in
      let fields = fields_of stripped s in
      refusal_later place I s r hs.1.1.0
      ((samples_refusals (word_at 27 fields) (long_at 29 fields)).refusals (place + I) (drop I s) r (bytes_drop I p) ev))
      (λ v m ev e₂. absurd (got_never e₂));
}

body_refusals : (kind : ModuleKind) (x : Header) → GoodHeader kind x → Refuses (body_format kind) x
body_refusals kind x g =
    let c = g.counts.1.1.0.0 in
    then_refusals instruments_for
    (over_keeps patterns_for x (many_keeps pattern_format x.patterns (pattern_keeps x.channels c)))
    (over_refusals patterns_for x (many_refusals pattern_format x.patterns (pattern_keeps x.channels c) (pattern_refusals x.channels)))
    (λ patterns g'. many_refusals (instrument_format kind) x.instruments (instrument_keeps kind) (instrument_refusals kind))

pub module_refusals : (kind : ModuleKind) → Refuses (module_format kind) tt
module_refusals kind = then_refusals (λ u x. x) (header_keeps kind) (header_refusals kind) (body_refusals kind)

-- Of a whole file
pub record FileRefusal (file : List ℕ) (r : Refusal) : Type 0 where
  pub numbered : Numbered 13 r.number
  pub place : r.place ≤ length file
  pub small : r.place ≤ file_most

pub whole_refusals : {I A : Type 0} (F : Format (Unit {0}) I A) → Refuses F tt → (file : List ℕ) (r : Refusal)
    → Bytes file → read_whole F file ≡ refused r → FileRefusal file r
unfolding read_whole
whole_refusals F b file r p e =
    refused_tests (FileRefusal file) _ _ e (omega arith) λ hs e₁.
    let f = b.refusals 0 file r p e₁ in record { numbered = refusal_numbered f; place = omega (arith, f.to); small = omega (arith, f.to, hs.0) }
