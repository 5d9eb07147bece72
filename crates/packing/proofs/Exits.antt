-- The exits of `pack`, from what its first pass found; and that its contract leaves one answer. Assumes nothing.
use Prim.Native.Nat.{ℕ, ◌*◌, ◌≤◌, ◌<◌}
use mathlib.Core.Path.{◌≡◌, refl, sym, ap, ap₂, ◌∙◌}
use mathlib.Core.Bool.{Bool, true, false, cond}
use mathlib.Core.List.{List}
use native.Mathlib.Nat.{mul-le-mul}
use native.Mathlib.Omega.{arith}
use borrow.Author.Tests.{ne_eqb}
use lib.Dec.{eqb}
use lib.ListN.{length}
use Rattle.std.specs.Prelude.{Result, Ok}
use Rattle.xm.specs.Got.{Refusal, ◌at◌}
use Rattle.xm.specs.Format.{joined}
use Rattle.xm.specs.Answer.{refuses, in_front}
use Rattle.xm.specs.Cell.{write_cell}
use Rattle.xm.specs.Stored.{write_stored, cells_of}
use Rattle.xm.specs.PatternInFile.{data_most}
use Rattle.xm.specs.Run.{size_by}
use Rattle.xm.specs.Packing.{pattern_of, packing, pack_after}
use Rattle.xm.proofs.Stored.{cells_length, cells_fives}
use Rattle.xm.proofs.Run.{stored_nothing, stored_cells, size_by_lem}
use Rattle.xm.proofs.Packing.{PackRange, pack_argument, pack_size, pack_room, pack_gives}
use Rattle.refusal.specs.Refusal.{outcome}
use Rattle.refusal.specs.declared.Refusal as code
use Rattle.packing.specs.declared.Form.{Form}
use Rattle.packing.specs.Packed.{form_of}

pub form_path : {size size' rows rows' : ℕ} → size ≡ size' → rows ≡ rows'
    → ◌≡◌ {A = Result Form code.Refusal} (Ok (record { length = size; rows = rows })) (Ok (record { length = size'; rows = rows' }))
form_path p q = cc

-- The tests for 16 and for 15 hold, and the length is known
pub record CellsSized (rows channels : ℕ) (cells : List ℕ) (size : ℕ) : Type 0 where
  pub range : PackRange rows channels cells
  pub small : size ≤ data_most
  pub long : size ≡ length (write_stored (pattern_of rows channels cells))

size_most : (count shortest : ℕ) → size_by count shortest ≤ shortest
unfolding size_by
size_most count shortest = go (eqb shortest count)
  where
    go : (t : Bool) → cond t 0 shortest ≤ shortest
    go true = omega arith
    go false = omega arith

pub sized : (rows channels : ℕ) (cells : List ℕ) → PackRange rows channels cells → {shortest size : ℕ} → shortest ≤ data_most
    → shortest ≡ length (joined write_cell (cells_of (rows * channels) cells)) → size ≡ size_by (rows * channels) shortest → CellsSized rows channels cells size
sized rows channels cells range {shortest} h k l = record {
  range = range;
  small = omega (arith, size_most (rows * channels) shortest);
  long = l ∙ ap₂ size_by (sym (cells_length (rows * channels) cells)) k ∙ size_by_lem (pattern_of rows channels cells) (cells_fives (rows * channels) cells);
}

pub sized_cells : {rows channels : ℕ} {cells : List ℕ} {size : ℕ} → CellsSized rows channels cells size → 0 < size
    → size ≡ length (joined write_cell (cells_of (rows * channels) cells))
sized_cells {rows} {channels} {cells} s h = s.long ∙ ap length (stored_cells (pattern_of rows channels cells) (omega (arith, s.long)))

-- Cells that take more than data can be: so does the stored form, for no pattern has so many that are empty
large : (rows channels : ℕ) (cells : List ℕ) → PackRange rows channels cells → data_most < length (joined write_cell (cells_of (rows * channels) cells))
    → data_most < length (write_stored (pattern_of rows channels cells))
unfolding size_by
large rows channels cells range h =
    let count = rows * channels in
    let long = length (joined write_cell (cells_of count cells)) in
    let few : count ≤ 256 * 64 = mul-le-mul range.0.1 range.1.0.1 in
    let by = ap (λ (n : ℕ). size_by n long) (sym (cells_length count cells)) ∙ size_by_lem (pattern_of rows channels cells) (cells_fives count cells) in
    omega (arith, h, sym (ap (λ (t : Bool). cond t 0 long) (ne_eqb long count (λ e. omega arith))) ∙ by)

module _ (rows channels : ℕ) (cells lent : List ℕ) where
  -- What `pack` says of its answer and of the lent output afterwards
  abbrev pub Packs : (answer : Result Form code.Refusal) (out : List ℕ) → Type 0
  Packs answer out = (answer ≡ outcome form_of (packing rows channels cells (length lent))) × (out ≡ pack_after rows channels cells lent)

  packs_refused : {r : Refusal} {answer : Result Form code.Refusal} → packing rows channels cells (length lent) ≡ refuses r → answer ≡ outcome form_of (refuses r) → Packs answer lent
  packs_refused e a = rw e (a, refl)

  pub packs_argument : {answer : Result Form code.Refusal} → answer ≡ outcome form_of (refuses (16 at 0)) → (PackRange rows channels cells → ⊥) → Packs answer lent
  packs_argument a h = packs_refused (pack_argument rows channels cells (length lent) h) a

  pub packs_large : {answer : Result Form code.Refusal} → PackRange rows channels cells → answer ≡ outcome form_of (refuses (15 at 0))
      → data_most < length (joined write_cell (cells_of (rows * channels) cells)) → Packs answer lent
  packs_large range a h = packs_refused (pack_size rows channels cells (length lent) range (large rows channels cells range h)) a

  module _ {size : ℕ} (s : CellsSized rows channels cells size) where
    pub packs_narrow : {answer : Result Form code.Refusal} → answer ≡ outcome form_of (refuses (14 at 0)) → length lent < size → Packs answer lent
    packs_narrow a h = packs_refused (pack_room rows channels cells (length lent) s.range (omega (arith, s.small, s.long)) (omega (arith, s.long))) a

    packs_stored : size ≤ length lent → {answer : Result Form code.Refusal} (out : List ℕ) → answer ≡ Ok (record { length = size; rows = rows })
        → out ≡ in_front (write_stored (pattern_of rows channels cells)) lent
        → Packs answer out
    packs_stored h out a o =
        rw (pack_gives rows channels cells (length lent) s.range (omega (arith, s.small, s.long)) (omega (arith, s.long)))
        (a ∙ ap (λ (n : ℕ). Ok (record { length = n; rows = rows })) s.long, o)

    pub packs-nothing : {answer : Result Form code.Refusal} → answer ≡ Ok (record { length = size; rows = rows }) → size ≡ 0 → Packs answer lent
    packs-nothing a z =
        packs_stored (omega arith) lent a (sym (ap (λ (w : List ℕ). in_front w lent) (stored_nothing (pattern_of rows channels cells) (omega (arith, s.long)))))

    pub packs_cells : {answer : Result Form code.Refusal} → answer ≡ Ok (record { length = size; rows = rows }) → 0 < size → size ≤ length lent → (out : List ℕ)
        → out ≡ in_front (joined write_cell (cells_of (rows * channels) cells)) lent → Packs answer out
    packs_cells a h room out o =
        packs_stored room out a (o ∙ sym (ap (λ (w : List ℕ). in_front w lent) (stored_cells (pattern_of rows channels cells) (omega (arith, s.long)))))

  -- Whatever meets the contract is the same
  pub pack_once : {a b : Result Form code.Refusal} {x y : List ℕ} → Packs a x → Packs b y → (a ≡ b) × (x ≡ y)
  pack_once g h = (g.0 ∙ sym h.0, g.1 ∙ sym h.1)
