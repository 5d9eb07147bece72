-- What holds of every answer and memory that meet the contracts of `press` and of the conversions, by the numbers of the enum. Assumes nothing.
use Prim.Native.Nat.{ℕ, ◌+◌, ◌≤◌, ◌<◌, min}
use mathlib.Core.List.{List, [], ◌∷◌}
use mathlib.Core.Logic.{◌↔◌}
use mathlib.Core.Path.{◌≡◌, refl, sym, ap, ap₂, ◌∙◌, subst, subst₂}
use native.Mathlib.Omega.{arith}
use lib.ListN.{length, take, get_or}
use lib.Seq.{take-append_seam, drop-append_seam}
use Rattle.xm.specs.ModuleKind.{ModuleKind}
use Rattle.xm.specs.Got.{Refusal, refused, ◌at◌}
use Rattle.xm.specs.Answer.{Answer, gives, refuses, in_front, after, numbers}
use Rattle.xm.specs.Module.{Content, module_format, file_most, read_file}
use Rattle.xm.specs.Press.{pressed, pressing, pressed_length, press_numbers, pressing_as}
use Rattle.xm.specs.Convert.{converted, converting, convert_numbers}
use Rattle.xm.specs.Demands.{FileOf, KeptElse, Accepts, result_in, pressed_into, ConvertedShortest, added_most}
use Rattle.xm.proofs.Module.{module_back, module_keeps}
use Rattle.xm.proofs.Kind.{kinds_told}
use Rattle.xm.proofs.Press.{content_one, press_gives}
use Rattle.xm.proofs.Convert.{kept_else, own_refusals_first}
use Rattle.xm.proofs.Growth.{converts_within, converts_back}
use Rattle.xm.proofs.Answer.{refused-exactly, refused_unchanged}
use Rattle.xm.proofs.Demands.{demand₃, presses_whole, module_bytes}
use Rattle.std.specs.Prelude.{Result}
use Rattle.refusal.specs.declared.Refusal as code
use Rattle.refusal.specs.Refusal.{outcome}
use Rattle.press.specs.Pressed.{pressed_numbers}
use Rattle.press.specs.Promise.{Presses, Converts, PressesAgain, Written, WrittenAs}

paper_numbers : (x : Answer (List ℕ)) → pressed_numbers (outcome length x) ≡ numbers (pressed_length ∷ []) x
paper_numbers (gives bytes) = refl
paper_numbers (refuses r) = refl

-- Of any answer that a call's contract fixes, with its memory
module _ (fixed : Answer (List ℕ)) (lent : List ℕ) {answer : Result ℕ code.Refusal} {held : List ℕ}
    (p : (answer ≡ outcome length fixed) × (held ≡ after (λ (bytes : List ℕ). bytes) fixed lent)) where
  -- the numbers are the paper's
  fixed_numbers : pressed_numbers answer ≡ numbers (pressed_length ∷ []) fixed
  fixed_numbers = ap pressed_numbers p.0 ∙ paper_numbers fixed

  -- a refusal leaves the memory as it was
  fixed_unchanged : (Accepts (pressed_numbers answer) → ⊥) → held ≡ lent
  fixed_unchanged never = p.1 ∙ refused_unchanged (λ (bytes : List ℕ). bytes) fixed lent (λ a. never (subst Accepts (sym fixed_numbers) a))

  -- and is told by its number
  fixed_refused : (r : Refusal) → 0 < r.number → (pressed_numbers answer ≡ r.number ∷ r.place ∷ 0 ∷ []) ↔ (fixed ≡ refuses r)
  fixed_refused r some =
      let w = refused-exactly (pressed_length ∷ []) fixed r some in
      (λ e. w.0 (sym fixed_numbers ∙ e), λ e. fixed_numbers ∙ w.1 e)

  -- what is given is reported and held
  fixed_given : (P : List ℕ → List ℕ → Type 0) (bytes : List ℕ) → fixed ≡ gives bytes
      → P (0 ∷ 0 ∷ length bytes ∷ []) (in_front bytes lent) → P (pressed_numbers answer) held
  fixed_given P bytes e =
      subst₂ P (sym (fixed_numbers ∙ ap (numbers (pressed_length ∷ [])) e)) (sym (p.1 ∙ ap (λ (x : Answer (List ℕ)). after (λ (b : List ℕ). b) x lent) e))

-- One answer, one memory
pub press_once : (file lent : List ℕ) {answer other : Result ℕ code.Refusal} {held kept : List ℕ} → Presses file lent answer held → Presses file lent other kept
    → (answer ≡ other) × (held ≡ kept)
press_once file lent p q = (p.0 ∙ sym q.0, p.1 ∙ sym q.1)

pub convert_once : (to : ModuleKind) (file lent : List ℕ) {answer other : Result ℕ code.Refusal} {held kept : List ℕ}
    → Converts to file lent answer held → Converts to file lent other kept
    → (answer ≡ other) × (held ≡ kept)
convert_once to file lent p q = (p.0 ∙ sym q.0, p.1 ∙ sym q.1)

-- The numbers are the paper's
pub press_numbers_lem : (file lent : List ℕ) {answer : Result ℕ code.Refusal} {held : List ℕ} → Presses file lent answer held
    → pressed_numbers answer ≡ press_numbers file (length lent)
press_numbers_lem file lent p = fixed_numbers (pressing file (length lent)) lent p

pub convert_numbers_lem : (to : ModuleKind) (file lent : List ℕ) {answer : Result ℕ code.Refusal} {held : List ℕ}
    → Converts to file lent answer held → pressed_numbers answer ≡ convert_numbers to file (length lent)
convert_numbers_lem to file lent p = fixed_numbers (converting to file (length lent)) lent p

-- A refusal leaves the memory as it was
pub press_unchanged : (file lent : List ℕ) {answer : Result ℕ code.Refusal} {held : List ℕ} → Presses file lent answer held → (Accepts (pressed_numbers answer) → ⊥)
    → held ≡ lent
press_unchanged file lent p = fixed_unchanged (pressing file (length lent)) lent p

pub convert_unchanged : (to : ModuleKind) (file lent : List ℕ) {answer : Result ℕ code.Refusal} {held : List ℕ}
    → Converts to file lent answer held → (Accepts (pressed_numbers answer) → ⊥) → held ≡ lent
convert_unchanged to file lent p = fixed_unchanged (converting to file (length lent)) lent p

-- A file in its shortest form, where it was written, is pressed to itself
again_so : (kind : ModuleKind) (x : Content) (lent : List ℕ) → FileOf (module_format kind) x (pressed kind x)
    → PressesAgain (0 ∷ 0 ∷ length (pressed kind x) ∷ []) (in_front (pressed kind x) lent)
again_so kind x lent f room answer held h q =
    let bytes = pressed kind x in
    let stands : take (length bytes) (in_front bytes lent) ≡ bytes = take-append_seam bytes _ in
    let given =
    ap (λ (s : List ℕ). pressing s (length room)) stands ∙ ((kinds_told bytes).by_kind kind x f).presses (length room)
    ∙ press_gives (module_format kind) (module_back kind) (module_keeps kind) f (length room) h in (
      fixed_numbers (pressing (take (length bytes) (in_front bytes lent)) (length room)) room q ∙ ap (numbers (pressed_length ∷ [])) given,
      ap (take (length bytes)) (q.1 ∙ ap (λ (x : Answer (List ℕ)). after (λ (b : List ℕ). b) x room) given)
          ∙ take-append_seam bytes _ ∙ sym stands,
    )

-- Of an acceptable file of a kind
module _ (kind : ModuleKind) (content : Content) (file : List ℕ) (f : FileOf (module_format kind) content file) (lent : List ℕ) where
  abbrev bytes : List ℕ
  bytes = pressed kind content

  -- it is pressed as one of that kind
  own : (room : ℕ) → pressing file room ≡ pressing_as (module_format kind) file room
  own = ((kinds_told file).by_kind kind content f).presses

  -- what is left where the file was written
  written_so : Written kind content file lent (0 ∷ 0 ∷ length bytes ∷ []) (in_front bytes lent)
  written_so =
      let d = demand₃.modules kind content file (length lent) f in
      let stands : take (length bytes) (in_front bytes lent) ≡ bytes = take-append_seam bytes _ in
      record {
        accepted = refl;
        reads = rw stands d.written;
        shortest = d.shortest;
        no_longer = (presses_whole kind content file f).no_longer;
        beyond = drop-append_seam bytes _;
        again = again_so kind content lent d.written;
      }

  module _ {answer : Result ℕ code.Refusal} {held : List ℕ} (p : Presses file lent answer held) where
    -- 14 exactly when no acceptable file of the same kind and content fits the room
    pub press_no_room : (pressed_numbers answer ≡ 14 ∷ 0 ∷ 0 ∷ []) ↔ ((other : List ℕ) → FileOf (module_format kind) content other → length lent < length other)
    press_no_room =
        let told = fixed_refused (pressing file (length lent)) lent p (14 at 0) (omega arith) in
        let d = (demand₃.modules kind content file (length lent) f).refused_exactly in
        (λ e. d.0 (sym (own (length lent)) ∙ told.0 e), λ none. told.1 (own (length lent) ∙ d.1 none))

    -- otherwise a file was written, of that content, and none is shorter
    pub press_written : (pressed_numbers answer ≡ 14 ∷ 0 ∷ 0 ∷ [] → ⊥) → Written kind content file lent (pressed_numbers answer) held
    press_written room =
        let told = fixed_refused (pressing file (length lent)) lent p (14 at 0) (omega arith) in
        let given = own (length lent) ∙ (demand₃.modules kind content file (length lent) f).given_else (λ e. room (told.1 (own (length lent) ∙ e))) in
        fixed_given (pressing file (length lent)) lent p (Written kind content file lent) bytes given written_so

  -- Converted, to either kind
  module _ (to : ModuleKind) {answer : Result ℕ code.Refusal} {held : List ℕ} (p : Converts to file lent answer held) where
    abbrev fixed : Answer (List ℕ)
    fixed = converting to file (length lent)

    d : ConvertedShortest to content file (length lent)
    d = demand₃.conversions kind to content file (length lent) f

    large : (pressed_numbers answer ≡ 2 ∷ 0 ∷ 0 ∷ []) ↔ (fixed ≡ refuses (2 at 0))
    large = fixed_refused fixed lent p (2 at 0) (omega arith)

    narrow : (pressed_numbers answer ≡ 14 ∷ 0 ∷ 0 ∷ []) ↔ (fixed ≡ refuses (14 at 0))
    narrow = fixed_refused fixed lent p (14 at 0) (omega arith)

    -- 2 exactly when no acceptable file of the target's kind has the converted content
    pub convert_too_large : (pressed_numbers answer ≡ 2 ∷ 0 ∷ 0 ∷ []) ↔ ((other : List ℕ) → FileOf (module_format to) (converted content) other → ⊥)
    convert_too_large = (λ e. d.too_large_exactly.0 (large.0 e), λ none. large.1 (d.too_large_exactly.1 none))

    -- in room for what it may add, or for the longest file there may be, never 14
    pub convert_room : min (length file + added_most kind to) file_most ≤ length lent → pressed_numbers answer ≡ 14 ∷ 0 ∷ 0 ∷ [] → ⊥
    convert_room enough e = converts_within.room_enough kind to content file (length lent) f enough (narrow.0 e)

    -- and never 2 where that is within the limit
    pub convert_small : length file + added_most kind to ≤ file_most → pressed_numbers answer ≡ 2 ∷ 0 ∷ 0 ∷ [] → ⊥
    convert_small within e = converts_within.never_over kind to content file (length lent) f within (large.0 e)

    -- What was written, converted back, is the file pressed, but for the tracker name
    pub convert_back : Accepts (pressed_numbers answer) → (lent' : List ℕ) {answer' : Result ℕ code.Refusal} {held' : List ℕ}
        → Converts kind (take (result_in (pressed_numbers answer) 0) held) lent' answer' held' → length (pressed kind (converted content)) ≤ length lent'
        → Accepts (pressed_numbers answer') × (take (result_in (pressed_numbers answer') 0) held' ≡ pressed kind (converted content))
    convert_back a lent' p' l =
        let new = pressed to (converted content) in
        let old = pressed kind (converted content) in
        let none : (n : ℕ) → 0 < n → pressed_numbers answer ≡ n ∷ 0 ∷ 0 ∷ [] → ⊥ =
        λ n some e. let z : ◌≡◌ {A = ℕ} n 0 = ap (λ (ns : List ℕ). get_or ns 0 0) (sym e) ∙ a in omega arith in
        let given = d.given_else (λ e. none 2 (omega arith) (large.1 e)) (λ e. none 14 (omega arith) (narrow.1 e)) in
        let stands = fixed_given fixed lent p (λ reported held. take (result_in reported 0) held ≡ new) new given (take-append_seam new _) in
        let back = converts_back.comes_back kind to content file f (length lent) (length lent') new given l in
        fixed_given (converting kind (take (result_in (pressed_numbers answer) 0) held) (length lent')) lent' p'
        (λ reported held. Accepts reported × (take (result_in reported 0) held ≡ old)) old
        (ap (λ (s : List ℕ). converting kind s (length lent')) stands ∙ back) (refl, take-append_seam old _)

    module _ (small : pressed_numbers answer ≡ 2 ∷ 0 ∷ 0 ∷ [] → ⊥) where
      -- else 14 exactly when none fits the room
      pub convert_no_room : (pressed_numbers answer ≡ 14 ∷ 0 ∷ 0 ∷ []) ↔
          ((other : List ℕ) → FileOf (module_format to) (converted content) other → length lent < length other)
      convert_no_room =
          let exactly = d.no_room_exactly (λ e. small (large.1 e)) in
          (λ e. exactly.0 (narrow.0 e), λ none. narrow.1 (exactly.1 none))

      -- otherwise one was written, and none is shorter
      pub convert_written : (pressed_numbers answer ≡ 14 ∷ 0 ∷ 0 ∷ [] → ⊥) → WrittenAs kind to content file lent (pressed_numbers answer) held
      convert_written wide =
          let new = pressed to (converted content) in
          let written = d.written (λ e. small (large.1 e)) in
          let stands : take (length new) (in_front new lent) ≡ new = take-append_seam new _ in
          fixed_given fixed lent p (WrittenAs kind to content file lent) new (d.given_else (λ e. small (large.1 e)) (λ e. wide (narrow.1 e)))
          (record {
            accepted = refl;
            reads = rw stands written;
            kept = λ other o.
                subst (KeptElse content) (content_one (module_format to) (rw stands (d.written (λ e. small (large.1 e)))) o) (kept_else content);
            shortest = d.shortest;
            within = converts_within.no_longer kind to content file f;
            beyond = drop-append_seam new _;
            again = again_so to (converted content) lent written;
          })

-- A file that is refused gets its own refusal, from the press and from a conversion
pub press_refuses : (file lent : List ℕ) {answer : Result ℕ code.Refusal} {held : List ℕ} → Presses file lent answer held → (r : Refusal) → 0 < r.number
    → read_file file ≡ refused r → pressed_numbers answer ≡ r.number ∷ r.place ∷ 0 ∷ []
press_refuses file lent p r some e = (fixed_refused (pressing file (length lent)) lent p r some).1 ((own_refusals_first file r).press (length lent) e)

pub convert_refuses : (to : ModuleKind) (file lent : List ℕ) {answer : Result ℕ code.Refusal} {held : List ℕ}
    → Converts to file lent answer held → (r : Refusal) → 0 < r.number → read_file file ≡ refused r
    → pressed_numbers answer ≡ r.number ∷ r.place ∷ 0 ∷ []
convert_refuses to file lent p r some e =
    (fixed_refused (converting to file (length lent)) lent p r some).1 ((own_refusals_first file r).convert to (length lent) e)

-- What stands in the output, by the length reported, is what the definition says
pressed_left : (kind : ModuleKind) (content : Content) (file : List ℕ) → FileOf (module_format kind) content file
    → (lent : List ℕ) {answer : Result ℕ code.Refusal} {held : List ℕ} → Presses file lent answer held
    → (take (result_in (pressed_numbers answer) 0) held ≡ pressed_into (module_format kind) file lent)
pressed_left kind content file f lent p =
    let is = ((kinds_told file).by_kind kind content f).is in
    ap₂ (λ (ns held : List ℕ). take (result_in ns 0) held) (press_numbers_lem file lent p) p.1
    ∙ ap (λ (k : ModuleKind). pressed_into (module_format k) file lent) is

-- Two files of one kind are one song exactly if they press to the same bytes, each in a room that does
pub press_same : (kind : ModuleKind) (content content' : Content) (file file' lent lent' : List ℕ) {answer answer' : Result ℕ code.Refusal} {held held' : List ℕ}
    → FileOf (module_format kind) content file
    → FileOf (module_format kind) content' file' → Presses file lent answer held → Presses file' lent' answer' held' → Accepts (pressed_numbers answer)
    → Accepts (pressed_numbers answer')
    → (take (result_in (pressed_numbers answer) 0) held ≡ take (result_in (pressed_numbers answer') 0) held') ↔ (content ≡ content')
press_same kind content content' file file' lent lent' f f' p p' a a' =
    let left = pressed_left kind content file f lent p in
    let left' = pressed_left kind content' file' f' lent' p' in
    let numbered = press_numbers_lem file lent p ∙ ap (numbers (pressed_length ∷ [])) (((kinds_told file).by_kind kind content f).presses (length lent)) in
    let numbered' = press_numbers_lem file' lent' p' ∙ ap (numbers (pressed_length ∷ [])) (((kinds_told file').by_kind kind content' f').presses (length lent')) in
    let same = (module_bytes kind).same_exactly content content' file file' lent lent' f f' (subst Accepts numbered a) (subst Accepts numbered' a') in
    (λ e. same.0 (sym left ∙ e ∙ left'), λ e. left ∙ same.1 e ∙ sym left')
