-- Laws of a pattern that was read and is written. Assumes nothing.
use Prim.Native.Nat.{ℕ, ◌+◌, ◌-◌, ◌≤◌}
use mathlib.Core.List.{List, [], ◌++◌, append-nil}
use mathlib.Core.Path.{◌≡◌, refl, sym, ap, ap₂, ◌∙◌}
use native.Mathlib.Nat.{add-sub_cancel_left}
use native.Mathlib.Omega.{arith}
use lib.ListN.{length, take, drop, length-drop}
use lib.Seq.{drop-drop, length-take-le}
use borrow.Rule.Slice.PartMut.{put_mid}
use Rattle.xm.specs.Number.{Bytes, word_at, long_at, part}
use Rattle.xm.specs.Got.{Got, got, refused, AllHold, list_in, Told}
use Rattle.xm.specs.Answer.{in_front}
use Rattle.xm.specs.Stored.{channels_most, rows_most, Pattern, read_stored, write_stored}
use Rattle.xm.specs.PatternInFile.{data_most, pattern_tests, PatternFound, read_pattern, write_pattern, pattern_format}
use Rattle.xm.proofs.Number.{bytes_drop, bytes_take, word_small, part-drop}
use Rattle.xm.proofs.Got.{passed, bind_got, got_value, got_used, got-accepted}
use Rattle.xm.proofs.Stored.{stored_keeps, stored_rows}
use Rattle.xm.proofs.Run.{stored_anywhere, stored_nothing}
use Rattle.shortest.specs.Found.{stored_pressed, Known}
use Rattle.mark.specs.declared.Mark.{Mark}
use Rattle.mark.specs.declared.Mark.TheVariants.{Copied, Nothing}
use Rattle.mark.specs.Mark.{Marked}
use Rattle.mark.proofs.MarkLaws.{marked-nothing, marked_some, marked-copied}
use Rattle.writers.specs.Found.{read_at, pressed_at}
use Rattle.writers.specs.Pattern.{written_head}
use Rattle.writers.proofs.Writing.{first_last}

module _ (file : List ℕ) (place channels : ℕ) (mark : Mark) where
  abbrev from : List ℕ
  from = drop place file

  abbrev L : ℕ
  L = long_at 0 from

  abbrev S : ℕ
  S = word_at 7 from

  abbrev d : List ℕ
  d = part L S from

  -- The bytes that it takes
  pub pattern_used : {i : PatternFound} {n : ℕ} → read_at pattern_format channels file place ≡ got i n → n ≡ L + S
  unfolding read_pattern
  pattern_used e = passed _ _ e λ h e. bind_got _ _ e λ p m ep e. sym (got_used e)

  -- A marked pattern, as it was read
  record AsRead : Type 0 where
    tests : AllHold (pattern_tests place from)
    pattern : Pattern
    used : ℕ
    reads : read_stored channels (word_at 5 from) (place + L) d ≡ got pattern used
    nothing : mark ≡ Nothing → length (write_stored pattern) ≡ 0
    some : (mark ≡ Nothing → ⊥) → length (write_stored pattern) ≡ 0 → ⊥
    already : mark ≡ Copied → d ≡ write_stored pattern
    written : pressed_at pattern_format channels file place ≡ write_pattern pattern

  as_read : Told (λ i. Marked file i mark) (read_at pattern_format channels file place) → AsRead
  unfolding read_pattern
  as_read told = go (read_pattern channels place from) refl told
    where
      go : (g : Got PatternFound) → read_pattern channels place from ≡ g → Told (λ i. Marked file i mark) g → AsRead
      go (got i n) e m =
          passed _ _ e λ h e₁. bind_got _ _ e₁ λ p u ep e₂.
          let same = got_value e₂ in
          let marked : Marked file (record { place = place; head_size = L; data_place = place + L; data_size = S; content = p }) mark = rw same m in
          record {
            tests = h;
            pattern = p;
            used = u;
            reads = ep;
            nothing = marked-nothing marked;
            some = marked_some marked;
            already = λ t. part-drop place L S file ∙ marked-copied marked t;
            written = ap (list_in (λ (i : PatternFound). write_pattern i.content)) (e ∙ sym e₂);
          }
      go (refused r) e m = absurd m

  pub pattern_inside : Told (λ i. Marked file i mark) (read_at pattern_format channels file place) → place + (L + S) ≤ length file
  pattern_inside told = let h = (as_read told).tests in omega (arith, h.0, h.1.1.1.0, length-drop place file)

  -- In the code's numbers, with the stored form as the code cuts it out
  module _ {start row size : ℕ} (p : start ≡ place + L) (q : row ≡ word_at 5 from) (r : size ≡ S) where
    abbrev cut : List ℕ
    cut = take (start + size - start) (drop start file)

    pub record PatternLies : Type 0 where
      pub there : start + size ≤ length file
      pub rows_high : row ≤ rows_most
      pub size_high : length (stored_pressed row channels cut) ≤ data_most
      pub known : Known row channels cut mark
      pub long : length (pressed_at pattern_format channels file place) ≡ 9 + length (stored_pressed row channels cut)
      pub written : {shortest : ℕ} → shortest ≡ length (stored_pressed row channels cut)
          → (lent : List ℕ) {left : List ℕ} → 9 ≤ length lent → left ≡ in_front (stored_pressed row channels cut) (take (length lent - 9) (drop 9 lent))
          → in_front (written_head row shortest) (put_mid 9 (length lent - 9) lent left) ≡ in_front (pressed_at pattern_format channels file place) lent

    module _ (told : Told (λ i. Marked file i mark) (read_at pattern_format channels file place)) where
      abbrev w : AsRead
      w = as_read told

      pub head_inside : place + 9 ≤ length file
      head_inside = omega (arith, w.tests.0, length-drop place file)

      same_cut : cut ≡ d
      same_cut = rw (p, r, add-sub_cancel_left, drop-drop)

      long : length d ≡ size
      long = length-take-le S (drop L from) (omega (arith, length-drop L from, w.tests.1.1.1.0)) ∙ sym r

      is_rows : row ≡ w.pattern.rows
      is_rows = q ∙ sym (stored_rows channels (word_at 5 from) (place + L) d w.pattern w.used w.reads)

      is_pressed : stored_pressed row channels cut ≡ write_stored w.pattern
      is_pressed =
          ap₂ (λ (n : ℕ) (s : List ℕ). stored_pressed n channels s) q same_cut
          ∙ ap (list_in write_stored) (stored_anywhere channels (word_at 5 from) (place + L) 0 d w.pattern w.used w.reads)

      is_written : pressed_at pattern_format channels file place ≡ written_head row (length (stored_pressed row channels cut)) ++ stored_pressed row channels cut
      unfolding write_pattern
      is_written =
          w.written ∙ ap₂ (λ (n : ℕ) (l : List ℕ). written_head n (length l) ++ (l ++ [])) (sym is_rows) (sym is_pressed)
          ∙ ap (λ (l : List ℕ). written_head row (length (stored_pressed row channels cut)) ++ l) (append-nil (stored_pressed row channels cut))

      pub pattern_lies : Bytes file → 1 ≤ channels → channels ≤ channels_most → PatternLies
      pattern_lies b some high =
          let h = w.tests in
          let k = stored_keeps channels (word_at 5 from) (place + L) d w.pattern w.used (bytes_take S (bytes_drop L (bytes_drop place b))) some
          h.1.1.0.0 h.1.1.0.1 w.reads in
          record {
            there = omega (arith, h.0, h.1.1.1.0, length-drop place file);
            rows_high = omega (arith, h.1.1.0.1);
            size_high = omega (arith, ap length is_pressed, k.short, long, word_small 7 (bytes_drop place b));
            known = record {
              rows_most = omega (arith, h.1.1.0.1);
              channels_most = high;
              fine = rw (q, same_cut) (got-accepted (stored_anywhere channels (word_at 5 from) (place + L) 0 d w.pattern w.used w.reads));
              nothing = λ t. is_pressed ∙ stored_nothing w.pattern (w.nothing t);
              some = λ t. let some = w.some t in omega (arith, ap length is_pressed);
              already = λ t. is_pressed ∙ sym (w.already t) ∙ sym same_cut;
            };
            long = ap length is_written ∙ omega arith;
            written = λ {shortest} e lent h l.
                first_last lent (written_head row shortest) (stored_pressed row channels cut) 9 refl h l
                ∙ ap (λ (shortest : ℕ). in_front (written_head row shortest ++ stored_pressed row channels cut) lent) e
                ∙ ap (λ (whole : List ℕ). in_front whole lent) (sym is_written);
          }
