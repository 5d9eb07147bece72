-- A sample asked for by number: what the answer says. Assumes nothing.
use Prim.Native.Nat.{ℕ, zero, suc, ◌+◌, ◌*◌, ◌/◌, ◌≤◌, ◌<◌}
use mathlib.Core.List.{List, []}
use mathlib.Core.Path.{◌≡◌, refl, sym, ap, ap₂, ◌∙◌, subst}
use native.Mathlib.Omega.{arith}
use lib.ListN.{length, get_or, drop}
use Rattle.std.specs.Simd.{first_chunks}
use Rattle.std.proofs.lemmas.Grind.{common_steps}
use Rattle.std.specs.Prelude.{Result, Ok, Err}
use Rattle.xm.specs.Got.{◌at◌}
use Rattle.xm.specs.Answer.{Answer, gives, refuses, number_of}
use Rattle.xm.specs.Table.{sample_stride}
use Rattle.xm.specs.Asking.{asking, asking_flat, stretch_of}
use Rattle.xm.specs.Asking as paper
use Rattle.xm.proofs.Answer.{gives_passed, gives_same}
use Rattle.xm.proofs.Accepted.{asks_exactly}
use Rattle.refusal.specs.declared.Refusal.{Refusal}
use Rattle.refusal.specs.Refusal.{code_refusal, outcome}
use Rattle.asking.specs.Ask.{code_stretch, paper_stretch, AskedInside, stretch_asked, refusal_asked}
use Rattle.asking.specs.declared.Stretch.{Stretch}

-- The answer, by the tests that were made
pub ask_given : (file : List ℕ) (rows number : ℕ) (row : Stretch) → number < rows → row.place + row.length ≤ length file
    → outcome code_stretch (asking file rows number (paper_stretch row)) ≡ Ok row
ask_given file rows number row l there = ap (outcome code_stretch) ((asks_exactly file rows number (paper_stretch row)).0 (l, there))

pub ask_unlent : (file : List ℕ) (rows number : ℕ) (row : Stretch) → rows ≤ number
    → outcome code_stretch (asking file rows number (paper_stretch row)) ≡ Err (code_refusal (16 at 0))
ask_unlent file rows number row l = ap (outcome code_stretch) ((asks_exactly file rows number (paper_stretch row)).1 (λ h. omega (arith, h.0)))

pub ask_outside : (file : List ℕ) (rows number : ℕ) (row : Stretch) → length file < row.place + row.length
    → outcome code_stretch (asking file rows number (paper_stretch row)) ≡ Err (code_refusal (16 at 0))
ask_outside file rows number row l = ap (outcome code_stretch) ((asks_exactly file rows number (paper_stretch row)).1 (λ h. omega (arith, h.1)))

pub ruleset asks = (ask_given, ask_unlent, ask_outside)

-- A number at or above the rows: whatever the row says
pub ask_beyond : (file : List ℕ) (rows number : ℕ) (row other : paper.Stretch) → rows ≤ number → asking file rows number row ≡ asking file rows number other
ask_beyond file rows number row other h =
    (asks_exactly file rows number row).1 (λ l. omega (arith, l.0)) ∙ sym ((asks_exactly file rows number other).1 (λ l. omega (arith, l.0)))

-- What is answered lies inside the file
pub asked_inside : (file : List ℕ) (rows number : ℕ) (row : paper.Stretch) {a : Result Stretch Refusal} → a ≡ outcome code_stretch (asking file rows number row)
    → AskedInside file a
unfolding asking
asked_inside file rows number row {a} e = go (asking file rows number row) refl e
  where
    go : (answer : Answer paper.Stretch) → asking file rows number row ≡ answer → a ≡ outcome code_stretch answer → AskedInside file a
    go (gives lies) q e =
        subst (AskedInside file) (sym e)
        (gives_passed _ _ _ q λ h d. subst (λ (l : paper.Stretch). l.place + l.size ≤ length file) (gives_same d) (omega (arith, h.1.0, h.1.1.0)))
    go (refuses r) q e = subst (AskedInside file) (sym e) tt

-- as the very stretch, and as 0 or 16
pub stretch_asked_lem : (file : List ℕ) (answer : Answer paper.Stretch) {a : Result Stretch Refusal} → a ≡ outcome code_stretch answer
    → stretch_asked file a ≡ stretch_of file answer
stretch_asked_lem file (gives lies) e = ap (stretch_asked file) e
stretch_asked_lem file (refuses r) e = ap (stretch_asked file) e

pub refusal_asked_lem : (answer : Answer paper.Stretch) {a : Result Stretch Refusal} → a ≡ outcome code_stretch answer → refusal_asked a ≡ number_of answer
refusal_asked_lem (gives lies) e = ap refusal_asked e
refusal_asked_lem (refuses r) e = ap refusal_asked e

-- A table's row, of so many numbers each
pub get_or-first_chunks : (n count : ℕ) (xs : List ℕ) (i j : ℕ) → i < count → j < n → get_or (get_or (first_chunks n count xs) i []) j 0 ≡ get_or xs (n * i + j) 0
get_or-first_chunks n zero xs i j l m = absurd (omega arith)
get_or-first_chunks n (suc count) xs zero j l m = grind (arith, common_steps)
get_or-first_chunks n (suc count) xs (suc i) j l m =
    get_or-first_chunks n count (drop n xs) i j (omega arith) m ∙ grind (arith, common_steps)

-- and what is asked with one, or beyond them
module _ (file table : List ℕ) (number : ℕ) {rows : List (List ℕ)} (are : rows ≡ first_chunks sample_stride (length table / sample_stride) table)
    (many : length rows ≡ length table / sample_stride) where
  pub row_asked : {row : List ℕ} → number < length rows → row ≡ get_or rows number [] → {answer : Result Stretch Refusal}
      → answer ≡ outcome code_stretch (asking file (length rows) number (record { place = get_or row 1 0; size = get_or row 2 0 }))
      → answer ≡ outcome code_stretch (asking_flat file table number)
  row_asked {row} l e told =
      let read : (j : ℕ) → j < sample_stride → get_or row j 0 ≡ get_or table (sample_stride * number + j) 0 = λ j m.
      ap (λ (row : List ℕ). get_or row j 0) (e ∙ ap (λ (rows : List (List ℕ)). get_or rows number []) are)
      ∙ get_or-first_chunks sample_stride (length table / sample_stride) table number j (omega arith) m in
      told
      ∙ ap₂ (λ (place size : ℕ). outcome code_stretch (asking file (length rows) number (record { place = place; size = size })))
      (read 1 (omega arith)) (read 2 (omega arith))
      ∙ ap (λ (n : ℕ). outcome code_stretch (asking file n number (record {
        place = get_or table (sample_stride * number + 1) 0;
        size = get_or table (sample_stride * number + 2) 0;
      }))) many

  pub none_asked : length rows ≤ number → Err (code_refusal (16 at 0)) ≡ outcome code_stretch (asking_flat file table number)
  none_asked l = sym (ask_unlent file (length table / sample_stride) number _ (omega arith))
