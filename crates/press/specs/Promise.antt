-- What a caller may build on: of an answer and the memory afterwards that meet the call's contract.
use Rattle.std.specs.Prelude.{ℕ, ◌+◌, ◌≤◌, List, ◌≡◌, length, take, drop, Result}
use Rattle.xm.specs.ModuleKind.{ModuleKind}
use Rattle.xm.specs.Module.{Content, module_format}
use Rattle.xm.specs.Press.{pressing, press_after}
use Rattle.xm.specs.Convert.{converted, converting, convert_after}
use Rattle.xm.specs.Demands.{FileOf, KeptElse, added_most, Accepts, result_in}
use Rattle.refusal.specs.declared.Refusal.{Refusal}
use Rattle.refusal.specs.Refusal.{outcome}
use Rattle.press.specs.Pressed.{pressed_numbers}

abbrev pub Presses : (file lent : List ℕ) (answer : Result ℕ Refusal) (held : List ℕ) → Type 0
Presses file lent answer held = (answer ≡ outcome length (pressing file (length lent))) × (held ≡ press_after file lent)

abbrev pub Converts : (to : ModuleKind) (file lent : List ℕ) (answer : Result ℕ Refusal) (held : List ℕ) → Type 0
Converts to file lent answer held = (answer ≡ outcome length (converting to file (length lent))) × (held ≡ convert_after to file lent)

-- Pressing what was written, by the length reported, gives the same numbers and the same bytes.
abbrev pub PressesAgain : (reported held : List ℕ) → Type 0
PressesAgain reported held =
    let bytes = take (result_in reported 0) held in
    (room : List ℕ) (answer : Result ℕ Refusal) (after : List ℕ) → result_in reported 0 ≤ length room → Presses bytes room answer after
    → (pressed_numbers answer ≡ reported) × (take (result_in reported 0) after ≡ bytes)

-- Of a file of a kind that was pressed, by the numbers reported: what was written is an acceptable file of that kind and of the content, none
-- is shorter, it is never longer than the input, what lies beyond stays, and pressing it again changes nothing.
pub record Written (kind : ModuleKind) (content : Content) (file lent reported held : List ℕ) : Type 0 where
  pub accepted : Accepts reported
  pub reads : FileOf (module_format kind) content (take (result_in reported 0) held)
  pub shortest : (other : List ℕ) → FileOf (module_format kind) content other → result_in reported 0 ≤ length other
  pub no_longer : result_in reported 0 ≤ length file
  pub beyond : drop (result_in reported 0) held ≡ drop (result_in reported 0) lent
  pub again : PressesAgain reported held

-- Of a file of a kind that was converted: what was written is an acceptable file of the target's kind, of the same content but for the tracker name,
-- none is shorter, it is longer than the input by no more than is said, what lies beyond stays, and pressing it changes nothing.
pub record WrittenAs (kind to : ModuleKind) (content : Content) (file lent reported held : List ℕ) : Type 0 where
  pub accepted : Accepts reported
  pub reads : FileOf (module_format to) (converted content) (take (result_in reported 0) held)
  pub kept : (other : Content) → FileOf (module_format to) other (take (result_in reported 0) held) → KeptElse content other
  pub shortest : (other : List ℕ) → FileOf (module_format to) (converted content) other → result_in reported 0 ≤ length other
  pub within : result_in reported 0 ≤ length file + added_most kind to
  pub beyond : drop (result_in reported 0) held ≡ drop (result_in reported 0) lent
  pub again : PressesAgain reported held
