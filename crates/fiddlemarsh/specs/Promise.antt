-- What a loader may build on: of a number, and of the memory afterwards, that meet a call's contract.
use Rattle.std.specs.Prelude.{ℕ, ◌^◌, ◌≤◌, List, ◌↔◌, ◌≡◌, ℤ, length}
use Rattle.xm.specs.Got.{Refusal}
use Rattle.xm.specs.Answer.{Answer, refuses}
use Rattle.xm.specs.Table.{check_loader, check_into_loader, Tables, room_of}
use Rattle.xm.specs.Packing.{unpack_loader, unpack_after, pack_loader, pack_after}
use Rattle.xm.specs.ModuleKind.{ModuleKind}
use Rattle.xm.specs.Press.{press_loader, press_after}
use Rattle.xm.specs.Convert.{convert_loader, convert_after}
use Rattle.xm.specs.Delta.{decode_loader, decode_limited_after, code_loader, code_limited_after}
use Rattle.xm.specs.Adpcm.{adpcm_loader, adpcm_limited_after}
use Rattle.xm.specs.Demands.{LoaderTells}
use Rattle.periods.specs.Period.{period_loader}
use Rattle.tables.specs.Into.{tables_then}

-- The contracts.
abbrev pub LoaderChecks : (file : List ℕ) (number : ℕ) → Type 0
LoaderChecks file number = number ≡ check_loader file

abbrev pub LoaderUnpacks : (rows channels : ℕ) (stored lent : List ℕ) (number : ℕ) (held : List ℕ) → Type 0
LoaderUnpacks rows channels stored lent number held =
    (number ≡ unpack_loader rows channels stored (length lent)) × (held ≡ unpack_after rows channels stored lent)

abbrev pub LoaderPacks : (rows channels : ℕ) (cells lent : List ℕ) (number : ℕ) (held : List ℕ) → Type 0
LoaderPacks rows channels cells lent number held = (number ≡ pack_loader rows channels cells (length lent)) × (held ≡ pack_after rows channels cells lent)

abbrev pub LoaderPresses : (file lent : List ℕ) (number : ℕ) (held : List ℕ) → Type 0
LoaderPresses file lent number held = (number ≡ press_loader file (length lent)) × (held ≡ press_after file lent)

abbrev pub LoaderConverts : (to : ModuleKind) (file lent : List ℕ) (number : ℕ) (held : List ℕ) → Type 0
LoaderConverts to file lent number held = (number ≡ convert_loader to file (length lent)) × (held ≡ convert_after to file lent)

abbrev pub LoaderFills : (file : List ℕ) (lent : Tables) (number : ℕ) (held : Tables) → Type 0
LoaderFills file lent number held = (number ≡ check_into_loader (room_of lent) file) × (held ≡ tables_then file lent)

abbrev pub LoaderDecodes : (width : ℕ) (bytes : List ℕ) (lent : List ℤ) (number : ℕ) (held : List ℤ) → Type 0
LoaderDecodes width bytes lent number held = (number ≡ decode_loader width bytes (length lent)) × (held ≡ decode_limited_after width bytes lent)

abbrev pub LoaderCodes : (width : ℕ) (values : List ℤ) (lent : List ℕ) (number : ℕ) (held : List ℕ) → Type 0
LoaderCodes width values lent number held = (number ≡ code_loader width values (length lent)) × (held ≡ code_limited_after width values lent)

abbrev pub LoaderDecodesAdpcm : (count : ℕ) (bytes : List ℕ) (lent : List ℤ) (number : ℕ) (held : List ℤ) → Type 0
LoaderDecodesAdpcm count bytes lent number held = (number ≡ adpcm_loader count bytes (length lent)) × (held ≡ adpcm_limited_after count bytes lent)

abbrev pub LoaderTunes : (note : ℕ) (finetune : ℤ) (number : ℕ) → Type 0
LoaderTunes note finetune number = number ≡ period_loader note finetune

-- The number tells the answer: the value, below 2^32, or number and place; and which of the two it is, it shows by itself.
pub record NumberTells {A : Type 0} (value : A → ℕ) (answer : Answer A) (number : ℕ) : Type 0 where
  pub loaded : LoaderTells value answer number
  pub refused_exactly : (2 ^ 32 ≤ number) ↔ ((r : Refusal) × (answer ≡ refuses r))

-- The same of a call that is lent memory: "All lent memory holds what it held" if the number says refused.
pub record NumberTellsKept {A M : Type 0} (value : A → ℕ) (answer : Answer A) (number : ℕ) (lent held : M) : Type 0 where
  pub tells : NumberTells value answer number
  pub unchanged : 2 ^ 32 ≤ number → held ≡ lent
