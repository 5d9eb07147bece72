-- Laws of a pattern in a file. Assumes nothing.
use Prim.Native.Nat.{ℕ, ◌+◌, ◌≤◌}
use mathlib.Core.List.{List, [], ◌∷◌, ◌++◌}
use mathlib.Core.Path.{◌≡◌, refl, sym, ap, ap₂, ◌∙◌, subst}
use native.Mathlib.Nat.{add_assoc}
use native.Mathlib.Omega.{arith}
use lib.ListN.{length, drop, length-append, length-drop}
use lib.Seq.{length-take-le}
use Rattle.xm.specs.Number.{word_at, long_at, part}
use Rattle.xm.specs.Got.{got, AllHold, present, at_least, within, ◌at◌}
use Rattle.xm.specs.Stored.{Pattern, read_stored, write_stored}
use Rattle.xm.specs.PatternInFile.{least_pattern, data_most, pattern_tests, PatternFound, GoodStored, read_pattern, write_pattern, pattern_format}
use Rattle.xm.specs.Region.{Adjoin}
use Rattle.xm.proofs.Number.{bytes_drop, bytes_take, word_small, part-drop, agree_word, agree_long, agree_part}
use Rattle.xm.proofs.Got.{pass, step, passed, bind_got, got_both, got_carry}
use Rattle.xm.proofs.Format.{Back, Keeps, Held, Adjoins, Firm, Tells}
use Rattle.xm.proofs.Field.{Field, byte_field, word_field, long_field, text_field, no_field, ◌⊗◌}
use Rattle.xm.proofs.Stored.{stored_back, stored_keeps, stored_plain, stored_rows}

-- L, packing type, rows, S, and the data
abbrev Row : Type 0
Row = ℕ × (ℕ × (ℕ × (ℕ × (List ℕ × Unit {0}))))

abbrev layout : ℕ → Field Row
layout n = long_field ⊗ byte_field ⊗ word_field ⊗ word_field ⊗ text_field n ⊗ no_field

abbrev written : Pattern → Row
written p = (least_pattern, (0, (p.rows, (length (write_stored p), (write_stored p, tt)))))

-- The tests are of four numbers: L, rows, S and the bytes there are
abbrev TestsOf : (L rows S n : ℕ) → Type 0
TestsOf L rows S n =
    AllHold (present least_pattern n (1 at 0) ∷ at_least least_pattern L (6 at 0) ∷ within 1 256 rows (6 at 0) ∷ present (L + S) n (1 at 0) ∷ [])

found_path : {place L L' S S' : ℕ} {p : Pattern} → L ≡ L' → S ≡ S'
    → ◌≡◌ {A = PatternFound} (record { place = place; head_size = L; data_place = place + L; data_size = S; content = p })
    (record { place = place; head_size = L'; data_place = place + L'; data_size = S'; content = p })
found_path p q = cc

module _ (channels : ℕ) (p : Pattern) (g : GoodStored channels p) where
  written_fits : (layout (length (write_stored p))).Fits (written p)
  written_fits = (omega arith, (omega arith, (omega (arith, g.pattern.high), (omega (arith, g.room), ((refl, stored_plain channels p g.pattern), tt)))))

  pub pattern_size : length (write_pattern p) ≡ least_pattern + length (write_stored p)
  unfolding write_pattern
  pattern_size = (layout (length (write_stored p))).size (written p) written_fits ∙ omega arith

  module _ (place : ℕ) (rest : List ℕ) where
    abbrev file : List ℕ
    file = write_pattern p ++ rest

    fields : (layout (length (write_stored p))).get 0 file ≡ written p
    unfolding write_pattern
    fields = (layout (length (write_stored p))).back [] (written p) rest written_fits

    reads_tests : AllHold (pattern_tests place file)
    reads_tests =
        let l = length-append (write_pattern p) rest in
        subst (λ (r : Row). TestsOf r.0 r.1.1.0 r.1.1.1.0 (length file)) (sym fields)
        (omega (arith, pattern_size), (omega arith, ((g.pattern.low, g.pattern.high), (omega (arith, pattern_size), tt))))

    pattern_found : PatternFound
    pattern_found = record { place = place; head_size = least_pattern; data_place = place + least_pattern; data_size = length (write_stored p); content = p }

    reads_all : read_pattern channels place file ≡ got pattern_found (length (write_pattern p))
    unfolding read_pattern pattern_found
    reads_all =
        let L : long_at 0 file ≡ least_pattern = ap (λ (r : Row). r.0) fields in
        let rows : word_at 5 file ≡ p.rows = ap (λ (r : Row). r.1.1.0) fields in
        let S : word_at 7 file ≡ length (write_stored p) = ap (λ (r : Row). r.1.1.1.0) fields in
        let stored : part (long_at 0 file) (word_at 7 file) file ≡ write_stored p =
        ap₂ (λ (o n : ℕ). part o n file) L S ∙ ap (λ (r : Row). r.1.1.1.1.0) fields in
        let r : read_stored channels (word_at 5 file) (place + long_at 0 file) (part (long_at 0 file) (word_at 7 file) file) ≡ got p (length (write_stored p)) =
        ap₂ (λ (n o : ℕ). read_stored channels n (place + o) (part (long_at 0 file) (word_at 7 file) file)) rows L
        ∙ ap (read_stored channels p.rows (place + least_pattern)) stored
        ∙ stored_back channels (place + least_pattern) p g.pattern in
        pass (pattern_tests place file) reads_tests (step _ r (got_both (found_path L S) (ap₂ (λ (o n : ℕ). o + n) L S ∙ sym pattern_size)))

pub pattern_back : (channels : ℕ) → Back pattern_format channels
unfolding write_pattern pattern_found
pattern_back channels = record {
  back = λ place p rest g. record { found = pattern_found channels p g place rest; reads = reads_all channels p g place rest; same = refl };
  plain = λ p g. (layout (length (write_stored p))).plain (written p) (written_fits channels p g);
}

pub pattern_keeps : (channels : ℕ) → 1 ≤ channels → Keeps pattern_format channels
unfolding read_pattern
pattern_keeps channels c = record {
  keeps = λ place s i n b e.
      passed _ _ e λ h e. bind_got _ _ e λ p m ep e.
      let d = part (long_at 0 s) (word_at 7 s) s in
      let plain = bytes_take (word_at 7 s) (bytes_drop (long_at 0 s) b) in
      let w = stored_keeps channels (word_at 5 s) (place + long_at 0 s) d p m plain c h.1.1.0.0 h.1.1.0.1 ep in
      let l : length d ≡ word_at 7 s = length-take-le (word_at 7 s) (drop (long_at 0 s) s) (omega (arith, length-drop (long_at 0 s) s, h.1.1.1.0)) in
      let g : GoodStored channels p = record { pattern = w.good; room = omega (arith, w.short, word_small 7 b) } in
      got_carry (λ (r : PatternFound) (t : ℕ). Held pattern_format channels place s r t) e
      (record {
        inside = h.1.1.1.0;
        good = g;
        short = omega (arith, pattern_size channels p g, w.short, h.1.0);
      });
}

pub pattern_adjoins : (channels : ℕ) → Adjoins pattern_format channels
unfolding read_pattern
pattern_adjoins channels = record {
  adjoins = λ place s i n e.
      passed _ _ e λ h e. bind_got _ _ e λ p m ep e.
      got_carry (λ (r : PatternFound) (t : ℕ). Adjoin place (pattern_format.regions r) (place + t)) e
      (refl, (refl, add_assoc place (long_at 0 s) (word_at 7 s)));
}

pub pattern_firm : (channels : ℕ) → Firm pattern_format channels
unfolding read_pattern
pattern_firm channels = record {
  firm = λ place s t i n e a.
      passed _ _ e λ h e. bind_got _ _ e λ p m ep e.
      got_carry (λ (r : PatternFound) (u : ℕ). u ≡ n → read_pattern channels place t ≡ got r u) e
      (λ q.
      let L : long_at 0 t ≡ long_at 0 s = sym (agree_long a 0 (omega (arith, h.1.0))) in
      let rows : word_at 5 t ≡ word_at 5 s = sym (agree_word a 5 (omega (arith, h.1.0))) in
      let S : word_at 7 t ≡ word_at 7 s = sym (agree_word a 7 (omega (arith, h.1.0))) in
      let d : part (long_at 0 t) (word_at 7 t) t ≡ part (long_at 0 s) (word_at 7 s) s =
      ap₂ (λ (o k : ℕ). part o k t) L S ∙ sym (agree_part a (long_at 0 s) (word_at 7 s) (omega arith)) in
      let r : read_stored channels (word_at 5 t) (place + long_at 0 t) (part (long_at 0 t) (word_at 7 t) t) ≡ got p m =
      ap₂ (λ (k o : ℕ). read_stored channels k (place + o) (part (long_at 0 t) (word_at 7 t) t)) rows L
      ∙ ap (read_stored channels (word_at 5 s) (place + long_at 0 s)) d
      ∙ ep in
      pass (pattern_tests place t)
      (rw (L, rows, S) (omega (arith, a.long, h.1.0), (h.1.0, (h.1.1.0, (omega (arith, a.long), tt)))))
      (step _ r (got_both (found_path L S) (ap₂ (λ (o k : ℕ). o + k) L S)))) refl;
}

-- What is found says of the file: its data, read for its rows, are the pattern
pub record PatternTold (channels : ℕ) (file : List ℕ) (i : PatternFound) : Type 0 where
  pub small : i.data_size ≤ data_most
  pub used : ℕ
  pub reads : read_stored channels i.content.rows i.data_place (part i.data_place i.data_size file) ≡ got i.content used

pub pattern_tells : (channels : ℕ) → Tells pattern_format channels (PatternTold channels)
unfolding read_pattern
pattern_tells channels = record {
  tells = λ place file i n b e.
      passed _ _ e λ h e. bind_got _ _ e λ p m ep e.
      let s = drop place file in
      got_carry (λ (r : PatternFound) (u : ℕ). PatternTold channels file r) e
      (record {
        small = omega (arith, word_small 7 (bytes_drop place b));
        used = m;
        reads =
            ap (λ (rows : ℕ). read_stored channels rows (place + long_at 0 s) (part (place + long_at 0 s) (word_at 7 s) file))
            (stored_rows channels (word_at 5 s) _ _ p m ep)
            ∙ rw (← part-drop place (long_at 0 s) (word_at 7 s) file) ep;
      });
}
