-- Pressing within any format that has the laws: the file written reads as the same content, none of that content is shorter, and the
-- same bytes are written of the same content only. Assumes nothing.
use Prim.Native.Nat.{ℕ, ◌≤◌, ◌<◌}
use mathlib.Core.List.{List, [], append-nil}
use mathlib.Core.Path.{◌≡◌, refl, sym, ap, ◌∙◌}
use native.Mathlib.Decide.{dec_le}
use native.Mathlib.Omega.{arith}
use lib.ListN.{length}
use Rattle.xm.specs.Got.{got, ◌at◌}
use Rattle.xm.specs.Format.{Format}
use Rattle.xm.specs.Answer.{Answer, gives, refuses, answered, number_of}
use Rattle.xm.specs.Module.{file_most}
use Rattle.xm.specs.Press.{pressing_as, pressed_length, press_numbers_as}
use Rattle.xm.specs.Demands.{FileOf, Accepts, pressed_into, PressReadsBack, PressesShortest, SameBytes}
use Rattle.xm.proofs.Got.{pass, step, test_fails, got_value}
use Rattle.xm.proofs.Answer.{gives-refuses, reported_written}
use Rattle.xm.proofs.Format.{Back, Keeps, Held}
use Rattle.xm.proofs.Module.{whole_reads, whole_read}

-- A file has one content
pub content_one : {I A : Type 0} (F : Format (Unit {0}) I A) {x y : A} {file : List ℕ} → FileOf F x file → FileOf F y file → x ≡ y
content_one F f g = sym f.same ∙ ap F.view (got_value (sym f.reads ∙ g.reads)) ∙ g.same

module _ {I A : Type 0} (F : Format (Unit {0}) I A) (back : Back F tt) (keeps : Keeps F tt) where
  -- Good content within the size limit is pressed to a file of that content
  pub pressed_file : (x : A) → F.Good tt x → length (F.write x) ≤ file_most → FileOf F x (F.write x)
  pressed_file x g h =
      let f = back.back 0 x [] g in
      record {
        plain = back.plain x g;
        found = f.found;
        end = length (F.write x);
        reads = whole_reads F (F.write x) f.found (length (F.write x)) h (rw (append-nil (F.write x)) at f.reads);
        same = f.same;
      }

  module _ {x : A} {file : List ℕ} (f : FileOf F x file) where
    pub file_held : Held F tt 0 file f.found f.end
    file_held = whole_read F file f.found f.end f.reads λ h e. keeps.keeps 0 file f.found f.end f.plain e

    pub file_size : length file ≤ file_most
    file_size = whole_read F file f.found f.end f.reads λ h e. h

    pub file_good : F.Good tt x
    file_good = rw f.same at file_held.good

    -- no file of a content is shorter than the pressed one
    pub pressed_shortest : length (F.write x) ≤ length file
    pressed_shortest = let w = file_held in omega (arith, w.inside, w.short, ap (λ (y : A). length (F.write y)) f.same)

    pub pressed-reads : FileOf F x (F.write x)
    pressed-reads = pressed_file x file_good (omega (arith, pressed_shortest, file_size))

    -- the two answers
    pub press_gives : (room : ℕ) → length (F.write x) ≤ room → pressing_as F file room ≡ gives (F.write x)
    unfolding pressing_as
    press_gives room h =
        let size = ap (λ (y : A). length (F.write y)) f.same in
        ap (answered (λ bytes used. bytes))
        (step _ f.reads (pass _ {r = got (F.write (F.view f.found)) f.end} (omega (arith, size), tt) refl))
        ∙ ap {B = Answer (List ℕ)} (λ (y : A). gives (F.write y)) f.same

    pub press_narrow : (room : ℕ) → room < length (F.write x) → pressing_as F file room ≡ refuses (14 at 0)
    unfolding pressing_as
    press_narrow room h =
        ap (answered (λ bytes used. bytes)) (step _ f.reads (test_fails _ _ _ (λ l. omega (arith, l, ap (λ (y : A). length (F.write y)) f.same))))

  -- demand 3
  pub pressed-exactly : PressesShortest F
  pressed-exactly x file room f = record {
    refused_exactly = ((λ q other o. go (dec_le (length (F.write x)) room) q o), (λ q. press_narrow f room (q (F.write x) (pressed-reads f))));
    given_else = λ q. press_gives f room (fits (dec_le (length (F.write x)) room) q);
    written = pressed-reads f;
    shortest = λ other o. pressed_shortest o;
  }
    where
      go : {other : List ℕ} → Dec (length (F.write x) ≤ room) → pressing_as F file room ≡ refuses (14 at 0) → FileOf F x other → room < length other
      go (yes h) q o = absurd (gives-refuses (press_gives f room h) q)
      go (no h) q o = omega (arith, h, pressed_shortest o)

      fits : Dec (length (F.write x) ≤ room) → (pressing_as F file room ≡ refuses (14 at 0) → ⊥) → length (F.write x) ≤ room
      fits (yes h) q = h
      fits (no h) q = absurd (q (press_narrow f room (omega (arith, h))))

  -- and is used to its last byte
  pub pressed_ends : {x : A} {file : List ℕ} (f : FileOf F x file) → (pressed-reads f).end ≡ length (F.write x)
  unfolding pressed-reads pressed_file
  pressed_ends f = refl

  -- demand 2: what stands in the output is the file written
  pub pressed_into_lem : {x : A} {file : List ℕ} → FileOf F x file → (out : List ℕ) → Accepts (press_numbers_as F file (length out))
      → pressed_into F file out ≡ F.write x
  pressed_into_lem {x} {file} f out n = go (dec_le (length (F.write x)) (length out))
    where
      go : Dec (length (F.write x) ≤ length out) → pressed_into F file out ≡ F.write x
      go (yes h) =
          let n = length out in
          reported_written pressed_length (λ bytes. bytes) (pressing_as F file n) out (F.write x) (press_gives f n h) (omega arith)
      go (no h) = absurd (let z : ◌≡◌ {A = ℕ} 14 0 = ap number_of (sym (press_narrow f (length out) (omega (arith, h)))) ∙ n in omega arith)

  pub pressed_back : PressReadsBack F
  pressed_back x file out f n = rw (pressed_into_lem f out n) (pressed-reads f)

  -- the same bytes exactly of the same content; and a pressed file presses to itself
  pub same_bytes_lem : SameBytes F
  same_bytes_lem = record {
    same_exactly = λ x y file other out lent f g n m.
        let p = pressed_into_lem f out n in
        let q = pressed_into_lem g lent m in
        (λ e. content_one F (pressed-reads f) (rw (sym p ∙ e ∙ q) (pressed-reads g)), λ e. p ∙ ap F.write e ∙ sym q);
    again = λ x file out lent f n h.
        let p = pressed_into_lem f out n in
        let r : FileOf F x (pressed_into F file out) = rw p (pressed-reads f) in
        let g = press_gives r (length lent) (omega (arith, ap length p)) in
        (ap number_of g, pressed_into_lem r lent (ap number_of g) ∙ sym p);
  }
