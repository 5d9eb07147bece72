-- What is listed, by the check and by the small reader; and the line of it. Assumes nothing.
use Prim.Native.Nat.{ℕ, ◌≤◌, ◌<◌}
use mathlib.Core.List.{List, [], ◌∷◌, ◌++◌}
use mathlib.Core.Path.{◌≡◌, refl, ap, ◌∙◌}
use borrow.Author.Tests.{le-leb, lt-leb}
use lib.ListN.{length, drop}
use Rattle.std.specs.Prelude.{Result, Ok, Err}
use Rattle.xm.specs.Number.{Bytes}
use Rattle.xm.specs.Got.{Got, got, refused, ◌at◌}
use Rattle.xm.specs.Answer.{Answer, gives, refuses, answered, numbers}
use Rattle.xm.specs.Module.{Found, read_file}
use Rattle.xm.specs.Table.{CheckReport, checked_as, checking}
use Rattle.xm.specs.Structure.{structures}
use Rattle.xm.proofs.Got.{no_true}
use Rattle.xm.proofs.Format.{cons_path}
use Rattle.refusal.specs.Refusal.{code_refusal, outcome}
use Rattle.refusal.specs.declared.Refusal.{Refusal}
use Rattle.walk.specs.declared.Module.{Module}
use Rattle.walk.specs.File.{code_module}
use Rattle.reader.specs.declared.count.Counts.{Counts}
use Rattle.reader.specs.Count.{structure_counts, counting, counted_numbers, count_results}
use Rattle.reader.proofs.Calls.{counted_numbers_lem}
use Rattle.line.specs.Line.{ok_word, refused_word, numbered, results_of, line_of, listed_most, listing}

-- The line of what is listed
pub line_told : (answer : Answer CheckReport) {ns : List ℕ} → Ok ns ≡ outcome results_of answer → ok_word ++ numbered ns ≡ line_of answer
line_told (gives c) {ns} e = let same : ns ≡ results_of c = cc in ap (λ (ns : List ℕ). ok_word ++ numbered ns) same
line_told (refuses r) e = absurd (no_true (cc))

pub line_refused : (answer : Answer CheckReport) {f : Refusal} → Err f ≡ outcome results_of answer
    → refused_word ++ numbered (f.number ∷ f.place ∷ []) ≡ line_of answer
line_refused (gives c) e = absurd (no_true (cc))
line_refused (refuses r) {f} e = let same : f ≡ code_refusal r = cc in ap (λ (f : Refusal). refused_word ++ numbered (f.number ∷ f.place ∷ [])) same

-- The small reader's counts are the check's
same_module : {one other : Module} → ◌≡◌ {A = Result Module Refusal} (Ok one) (Ok other) → one ≡ other
same_module e = cc

all_same : (g : Got Found) {found : Module} {counts : Counts} → Ok found ≡ outcome code_module (answered checked_as g)
    → counted_numbers (Ok counts) ≡ numbers count_results (answered checked_as g)
    → Ok (found.end ∷ found.channels ∷ counts.patterns ∷ counts.instruments ∷ counts.samples ∷ []) ≡ outcome results_of (answered checked_as g)
all_same (got f end) e n =
    let same = same_module e in
    ap Ok (cons_path (ap Module.end same) (cons_path (ap Module.channels same) (ap (drop 2) n)))
all_same (refused r) e n = absurd (no_true (cc))

refused_same : (g : Got Found) {f : Refusal} → Err f ≡ outcome (λ (c : Counts). c) (answered (λ found end. structure_counts (structures found)) g)
    → Err f ≡ outcome results_of (answered checked_as g)
refused_same (got found end) e = absurd (no_true (cc))
refused_same (refused r) e = cc

check_same : (answer : Answer CheckReport) {f : Refusal} → Err f ≡ outcome code_module answer → Err f ≡ outcome results_of answer
check_same (gives c) e = absurd (no_true (cc))
check_same (refuses r) e = cc

module _ (input : List ℕ) where
  pub over_line : listed_most < length input → Err (code_refusal (2 at 0)) ≡ outcome results_of (listing input)
  unfolding listing
  over_line h = rw (lt-leb (length input) listed_most h) refl

  module _ (h : length input ≤ listed_most) where
    listed : outcome results_of (checking input) ≡ outcome results_of (listing input)
    unfolding listing
    listed = rw (le-leb (length input) listed_most h) refl

    pub check_refused : {f : Refusal} → Err f ≡ outcome code_module (checking input) → Err f ≡ outcome results_of (listing input)
    check_refused e = check_same (checking input) e ∙ listed

    pub count_refused : {f : Refusal} → Err f ≡ outcome (λ (c : Counts). c) (counting input) → Err f ≡ outcome results_of (listing input)
    unfolding checking counting
    count_refused e = refused_same (read_file input) e ∙ listed

    pub all_counted : Bytes input → {found : Module} → Ok found ≡ outcome code_module (checking input)
        → {counts : Counts} → Ok counts ≡ outcome (λ (c : Counts). c) (counting input)
        → Ok (found.end ∷ found.channels ∷ counts.patterns ∷ counts.instruments ∷ counts.samples ∷ []) ≡ outcome results_of (listing input)
    unfolding checking counting
    all_counted plain e c = all_same (read_file input) e (counted_numbers_lem input plain c) ∙ listed

    -- The line of a refused file; of an accepted one, by the small reader's counts; and if the small reader is refused
    pub refused_line_lem : {refusal : Refusal} → Err refusal ≡ outcome code_module (checking input)
        → refused_word ++ numbered (refusal.number ∷ refusal.place ∷ []) ≡ line_of (listing input)
    refused_line_lem e = line_refused (listing input) (check_refused e)

    pub counted_line_lem : Bytes input → {found : Module} → Ok found ≡ outcome code_module (checking input)
        → {counts : Counts} → Ok counts ≡ outcome (λ (c : Counts). c) (counting input)
        → ok_word ++ numbered (found.end ∷ found.channels ∷ counts.patterns ∷ counts.instruments ∷ counts.samples ∷ []) ≡ line_of (listing input)
    counted_line_lem plain e c = line_told (listing input) (all_counted plain e c)

    pub refused_count_lem : {refusal : Refusal} → Err refusal ≡ outcome (λ (c : Counts). c) (counting input)
        → refused_word ++ numbered (refusal.number ∷ refusal.place ∷ []) ≡ line_of (listing input)
    refused_count_lem e = line_refused (listing input) (count_refused e)
