-- The exits of the passes that press and convert: the answer, and what the memory that was lent holds afterwards. Assumes nothing.
use Prim.Native.Nat.{ℕ, ◌+◌, ◌≤◌, ◌<◌}
use mathlib.Core.Bool.{Bool, true, false, cond}
use mathlib.Core.List.{List}
use mathlib.Core.Path.{◌≡◌, refl, sym, ap, ◌∙◌}
use native.Mathlib.Omega.{arith}
use lib.ListN.{length, get_or, length-append}
use Rattle.std.specs.Prelude.{Result, Ok, Err}
use Rattle.std.proofs.Common.{Fits, w8}
use Rattle.xm.specs.Number.{Bytes}
use Rattle.xm.specs.ModuleKind.{ModuleKind}
use Rattle.xm.specs.Got.{Got, got, refused, ◌at◌, list_in, Told}
use Rattle.xm.specs.Answer.{in_front, answered}
use Rattle.xm.specs.Header.{kind_at, write_header}
use Rattle.xm.specs.Module.{Found, file_most, module_format, body_format, read_file}
use Rattle.xm.specs.Press.{content_of, pressed, pressing, press_after}
use Rattle.xm.specs.Convert.{converted, converting, convert_after}
use Rattle.xm.specs.Demands.{FileOf}
use Rattle.xm.proofs.Got.{got_told}
use Rattle.xm.proofs.Module.{module_back, module_keeps}
use Rattle.xm.proofs.Press.{press_gives, press_narrow, pressed_shortest, file_size, file_good}
use Rattle.xm.proofs.Convert.{converted_good, own_refusals_first, convert_gives, convert_large, convert_narrow}
use Rattle.refusal.specs.Refusal.{code_refusal, paper_refusal, outcome}
use Rattle.refusal.specs.declared.Refusal.{Refusal}
use Rattle.mark.specs.Mark.{Marks}
use Rattle.walk.specs.File.{pressed_as}
use Rattle.walk.proofs.FileLaws.{header-length}
use Rattle.module.specs.Module.{content_kept, written_file}

-- A slice's own bytes
pub plain : {file : List ℕ} → ((i : ℕ) → Fits w8 (get_or file i 0)) → Bytes file
plain fits = record { below = λ i. omega (arith, fits i) }

-- What the walk's answer says of the reading
accepted-got : {R : Type 0} (to : ModuleKind) (g : Got Found) {size : ℕ} → Ok size ≡ outcome length (answered (pressed_as to) g)
    → ((found : Found) (end : ℕ) → g ≡ got found end → size ≡ length (pressed to (content_of found)) → R) → R
accepted-got to (got found end) e k = k found end refl (cc)
accepted-got to (refused r) e k = absurd (cc)

walk_refused : (to : ModuleKind) (g : Got Found) {r : Refusal} → Err r ≡ outcome length (answered (pressed_as to) g) → g ≡ refused (paper_refusal r)
walk_refused to (got found end) e = absurd (cc)
walk_refused to (refused q) e = cc

module _ (to : ModuleKind) (file lent : List ℕ) where
  abbrev kind : ModuleKind
  kind = kind_at file

  -- Pressed, if its name is kept, or converted
  abbrev pub Writes : (kept : Bool) (answer : Result ℕ Refusal) (held : List ℕ) → Type 0
  Writes kept answer held =
      (answer ≡ outcome length (cond kept (pressing file (length lent)) (converting to file (length lent))))
      × (held ≡ cond kept (press_after file lent) (convert_after to file lent))

  -- Refused by the walk
  pub refused_so : (kept : Bool) {answer : Result ℕ Refusal} {r : Refusal} → answer ≡ Err r → Err r ≡ outcome length (answered (pressed_as to) (read_file file)) → Writes kept answer lent
  refused_so true {r = r} p e = rw (p, (own_refusals_first file (paper_refusal r)).press (length lent) (walk_refused to (read_file file) e)) (refl, refl)
  refused_so false {r = r} p e = rw (p, (own_refusals_first file (paper_refusal r)).convert to (length lent) (walk_refused to (read_file file) e)) (refl, refl)

  module _ {size : ℕ} (e : Ok size ≡ outcome length (answered (pressed_as to) (read_file file))) where
    pub accepted_told : (marks : List ℕ) → ((found : Found) (end : ℕ) → read_file file ≡ got found end → Marks file 0 found.1.0 marks)
        → Told (λ (found : Found). Marks file 0 found.1.0 marks) (read_file file)
    accepted_told marks m = accepted-got to (read_file file) e λ found end q z. got_told (λ (found : Found). Marks file 0 found.1.0 marks) q (m found end q)

    -- what is written, by what was found
    found_written : (kept : Bool) {found : Found} {end : ℕ} → read_file file ≡ got found end
        → written_file to kept file ≡ pressed to (content_kept kept (content_of found))
    found_written kept q = ap (list_in (λ (found : Found). pressed to (content_kept kept (content_of found)))) q

    module _ (b : Bytes file) where
      file_of : (found : Found) (end : ℕ) → read_file file ≡ got found end → FileOf (module_format kind) (content_of found) file
      file_of found end q = record { plain = b; found = found; end = end; reads = q; same = refl }

      -- Without its tracker name it is as long
      as_long : (found : Found) (end : ℕ) → read_file file ≡ got found end
          → length (pressed to (converted (content_of found))) ≡ length (pressed to (content_of found))
      as_long found end q =
          let x = content_of found in
          let good = file_good (module_format kind) (module_back kind) (module_keeps kind) (file_of found end q) in
          let body = (body_format to).write x.1 in
          length-append (write_header to (converted x).0) body
          ∙ ap (λ (n : ℕ). n + length body)
          (header-length to to (converted x).0 (converted_good kind to x good).0 ∙ sym (header-length kind to x.0 good.0))
          ∙ sym (length-append (write_header to x.0) body)

      pub accepted_size : (kept : Bool) → size ≡ length (written_file to kept file)
      accepted_size true = accepted-got to (read_file file) e λ found end q z. z ∙ sym (ap length (found_written true q))
      accepted_size false = accepted-got to (read_file file) e λ found end q z. z ∙ sym (ap length (found_written false q) ∙ as_long found end q)

      -- Too long, which no pressed file is; no room; or written
      pub too_long : (kept : Bool) → (kept ≡ true → to ≡ kind) → file_most < size → {r : Refusal} → r ≡ code_refusal (2 at 0) → Writes kept (Err r) lent
      too_long true own h t = accepted-got to (read_file file) e λ found end q z.
          let f = file_of found end q in
          let same = ap (λ (k : ModuleKind). length (pressed k (content_of found))) (own refl) in
          absurd (omega (
            arith,
            pressed_shortest (module_format kind) (module_back kind) (module_keeps kind) f,
            file_size (module_format kind) (module_back kind) (module_keeps kind) f,
          ))
      too_long false own h t = accepted-got to (read_file file) e λ found end q z.
          rw (t, convert_large kind to (file_of found end q) (length lent) (omega (arith, as_long found end q))) (refl, refl)

      pub no_room : (kept : Bool) → (kept ≡ true → to ≡ kind) → size ≤ file_most → length lent < size → {r : Refusal} → r ≡ code_refusal (14 at 0)
          → Writes kept (Err r) lent
      no_room true own h l t = accepted-got to (read_file file) e λ found end q z.
          rw (
            t,
            press_narrow (module_format kind) (module_back kind) (module_keeps kind) (file_of found end q) (length lent)
                (omega (arith, ap (λ (k : ModuleKind). length (pressed k (content_of found))) (own refl))),
          ) (refl, refl)
      no_room false own h l t = accepted-got to (read_file file) e λ found end q z.
          rw (t, convert_narrow kind to (file_of found end q) (length lent) (omega (arith, as_long found end q)) (omega (arith, as_long found end q)))
          (refl, refl)

      pub written_so : (kept : Bool) → (kept ≡ true → to ≡ kind) → size ≤ file_most → size ≤ length lent → {held : List ℕ}
          → held ≡ in_front (written_file to kept file) lent → Writes kept (Ok size) held
      written_so true own h l m = accepted-got to (read_file file) e λ found end q z.
          let same = ap (λ (k : ModuleKind). pressed k (content_of found)) (own refl) in
          rw (press_gives (module_format kind) (module_back kind) (module_keeps kind) (file_of found end q) (length lent) (omega (arith, ap length same)))
          (ap Ok (z ∙ ap length same), m ∙ ap (λ (bytes : List ℕ). in_front bytes lent) (found_written true q ∙ same))
      written_so false own h l m = accepted-got to (read_file file) e λ found end q z.
          rw (convert_gives kind to (file_of found end q) (length lent) (omega (arith, as_long found end q)) (omega (arith, as_long found end q)))
          (ap Ok (z ∙ sym (as_long found end q)), m ∙ ap (λ (bytes : List ℕ). in_front bytes lent) (found_written false q))
