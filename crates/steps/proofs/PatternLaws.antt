-- Laws of the pattern step. Assumes nothing.
use Prim.Native.Nat.{ℕ, ◌+◌, ◌-◌, ◌≤◌, ◌<◌}
use mathlib.Core.List.{List}
use mathlib.Core.Path.{◌≡◌, refl, sym, ap, ◌∙◌}
use native.Mathlib.Nat.{add-sub_cancel_left}
use native.Mathlib.Omega.{arith}
use lib.ListN.{take, drop, length-take}
use lib.Seq.{drop-drop}
use Rattle.xm.specs.Number.{Bytes, part}
use Rattle.std.specs.Prelude.{Result, Ok, Err}
use Rattle.xm.specs.Got.{Got, got, refused, Test, AllHold, ◌at◌}
use Rattle.xm.specs.Stored.{Pattern, read_stored}
use Rattle.xm.specs.PatternInFile.{pattern_head_size_at, rows_at, data_size_at, pattern_tests, PatternFound, read_pattern}
use Rattle.xm.proofs.Number.{bytes_drop, bytes_take, word_small, long-small}
use Rattle.xm.proofs.Got.{no_true, pass, step, step_refused}
use Rattle.xm.proofs.Refusal.{stored_refusals}
use Rattle.xm.proofs.Run.{shifted, stored_shifted}
use Rattle.refusal.specs.Refusal.{paper_refusal, step_by, place_step}
use Rattle.refusal.specs.Test.{number_of, tested}
use Rattle.refusal.specs.declared.Cause.{Cause}
use Rattle.refusal.specs.declared.Refusal.{Refusal}
use Rattle.refusal.specs.declared.Step.TheVariants.{Given}
use Rattle.refusal.proofs.TestLaws.{tested_holds, tested_refuses}
use Rattle.measure.specs.Measure.{stored_of}
use Rattle.measure.specs.declared.StoredSize.{StoredSize}
use Rattle.steps.specs.Step.{value_for, tested_for, pattern_head, pattern_given, refusal_from}
use Rattle.steps.specs.declared.pattern.PatternHead.{PatternHead}

-- L and S are small
pub end_small : (place : ℕ) (file : List ℕ) {head : PatternHead} → Bytes file → head ≡ pattern_head place (drop place file)
    → head.place + head.size < place + 4295032832
end_small place file b e =
    let t = bytes_drop place b in
    omega (arith, ap PatternHead.place e, ap PatternHead.size e, long-small 0 t, word_small 7 t)

-- A value behind tests: they pass, and it is the answer; or the cause of the first that does not
pub value_given : {A : Type 0} (ts : List Test) (x : A) {y : A} → tested_for ts x ≡ Ok y → AllHold ts × (y ≡ x)
value_given {A} ts x {y} e = go (tested ts) refl e
  where
    go : (r : Result (Unit {0}) Cause) → tested ts ≡ r → value_for x r ≡ Ok y → AllHold ts × (y ≡ x)
    go (Ok passed) q e = (tested_holds ts q, cc)
    go (Err cause) q e = absurd (no_true (cc))

pub value_refused : {A : Type 0} (ts : List Test) (x : A) {cause : Cause} → tested_for ts x ≡ Err cause → tested ts ≡ Err cause
value_refused {A} ts x {cause} e = go (tested ts) refl e
  where
    go : (r : Result (Unit {0}) Cause) → tested ts ≡ r → value_for x r ≡ Err cause → tested ts ≡ Err cause
    go (Ok passed) q e = absurd (no_true (cc))
    go (Err other) q e = q ∙ cc

module _ (file : List ℕ) (place channels : ℕ) where
  abbrev from : List ℕ
  from = drop place file

  abbrev tried : Result PatternHead Cause
  tried = tested_for (pattern_tests place from) (pattern_head place from)

  -- The tests of its header
  pub pattern_fails : {cause : Cause} → Err cause ≡ tried → read_pattern channels place from ≡ refused (number_of cause at place)
  unfolding read_pattern
  pattern_fails e = tested_refuses place (pattern_tests place from) _ (omega arith) (value_refused (pattern_tests place from) (pattern_head place from) (sym e))

  -- and then its stored cells decide, as the code cuts them out
  module _ {head : PatternHead} (e : Ok head ≡ tried) where
    h : AllHold (pattern_tests place from)
    h = (value_given (pattern_tests place from) (pattern_head place from) (sym e)).0

    eh : head ≡ pattern_head place from
    eh = (value_given (pattern_tests place from) (pattern_head place from) (sym e)).1

    abbrev cut : List ℕ
    cut = take (head.place + head.size - head.place) (drop head.place file)

    abbrev pub cells : Got Pattern
    cells = read_stored channels head.rows 0 cut

    abbrev d : List ℕ
    d = part (pattern_head_size_at from) (data_size_at from) from

    same_cut : cut ≡ part (place + pattern_head_size_at from) (data_size_at from) file
    same_cut = rw (eh, add-sub_cancel_left)

    same_cells : read_stored channels (rows_at from) (place + pattern_head_size_at from) d ≡ shifted head.place cells
    same_cells = stored_shifted _ channels (rows_at from) d ∙ cc (eh, same_cut, ap (take (data_size_at from)) (drop-drop (pattern_head_size_at from) place file))

    -- A refusal lies in the cells, or at their end
    pub refusal_place : Bytes file → {r : Refusal} → cells ≡ refused (paper_refusal r) → r.place ≤ head.size
    refusal_place b q =
        omega (
          arith,
          length-take (head.place + head.size - head.place) (drop head.place file),
          (stored_refusals channels head.rows 0 cut _ (bytes_take (head.place + head.size - head.place) (bytes_drop head.place b)) q).to,
        )

    pub pattern_out : {r : Refusal} → cells ≡ refused (paper_refusal r) → read_pattern channels place from ≡ refused (paper_refusal (refusal_from head.place r))
    unfolding read_pattern shifted
    pattern_out q = pass (pattern_tests place from) h (step_refused _ (same_cells ∙ ap (shifted head.place) q))

    abbrev found : Pattern → PatternFound
    found p = record { place = place; head_size = pattern_head_size_at from; data_place = place + pattern_head_size_at from; data_size = data_size_at from; content = p }

    pub pattern_in_lem : {p : Pattern} {n : ℕ} → cells ≡ got p n → read_pattern channels place from ≡ got (found p) (pattern_head_size_at from + data_size_at from)
    unfolding read_pattern shifted
    pattern_in_lem q = pass (pattern_tests place from) h (step _ (same_cells ∙ ap (shifted head.place) q) refl)

    next_place : head.place + head.size ≡ place + (pattern_head_size_at from + data_size_at from)
    next_place = omega (arith, ap PatternHead.place eh, ap PatternHead.size eh)

    pub read_in : (g : Got Pattern) {size : StoredSize} → cells ≡ g → Given size ≡ stored_of cut g
        → Given (record { shortest = size.shortest; same = size.same; next = head.place + head.size })
        ≡ step_by (pattern_given file place) (read_pattern channels place from)
    read_in (got p n) q e = cc (pattern_in_lem q, same_cut, next_place)
    read_in (refused r) q e = cc

    pub scan_in : (g : Got Pattern) {n : ℕ} → cells ≡ g → Given n ≡ place_step 0 g
        → Given (head.place + head.size) ≡ place_step place (read_pattern channels place from)
    scan_in (got p n) q e = cc (pattern_in_lem q, next_place)
    scan_in (refused r) q e = cc
