-- Laws of a stored pattern that is measured: each exit, from what measuring its cells came to. Assumes nothing.
use Prim.Native.Nat.{ℕ, ◌+◌, ◌*◌, ◌≤◌, ◌<◌}
use mathlib.Core.Bool.{Bool, true, false}
use mathlib.Core.List.{List, [], ◌∷◌}
use mathlib.Core.Path.{◌≡◌, refl, sym, ap, ap₂, ◌∙◌}
use native.Mathlib.Omega.{arith}
use lib.ListN.{length, take}
use lib.Seq.{take_all}
use Rattle.xm.specs.Got.{Got, got, refused}
use Rattle.xm.specs.Format.{joined}
use Rattle.xm.specs.Cell.{write_cell}
use Rattle.xm.specs.Stored.{Pattern, empty_rows, read_run, read_stored, write_stored}
use Rattle.xm.specs.Run.{size_by}
use Rattle.xm.proofs.Got.{no_true}
use Rattle.xm.proofs.Stored.{Fives, rows_none, write_none, stored_none}
use Rattle.xm.proofs.Run.{run_read, in_length, in_fives, stored_nothing, stored_cells, size_by_lem}
use Rattle.refusal.specs.declared.Refusal.{Refusal}
use Rattle.refusal.specs.declared.Step.{Step}
use Rattle.refusal.specs.declared.Step.TheVariants.{Given, Refused}
use Rattle.cell.proofs.ReadRuns.{stored_refused, stored_left, stored_whole}
use Rattle.measure.specs.declared.StoredSize.{StoredSize}
use Rattle.measure.specs.Measure.{same_bytes, no_cells, measured_on, stored_of}

-- No data: empty cells, which are written as no bytes
pub measured_none : (channels rows : ℕ) (d : List ℕ) → length d ≡ 0
    → Given (record { used = 0; shortest = 0; same = true }) ≡ stored_of d (read_stored channels rows 0 d)
unfolding same_bytes
measured_none channels rows [] h =
    sym (ap (stored_of []) (stored_none channels rows 0 [] refl)
    ∙ ap (λ (w : List ℕ). Given (record { used = 0; shortest = length w; same = same_bytes [] w }))
    (write_none (empty_rows channels rows) (rows_none channels rows)))
measured_none channels rows (x ∷ d) h = absurd (omega arith)

same_nothing : (d : List ℕ) → 1 ≤ length d → false ≡ same_bytes d []
unfolding same_bytes
same_nothing [] h = absurd (omega arith)
same_nothing (x ∷ d) h = refl

-- Some data
module _ (channels rows : ℕ) (d : List ℕ) (some : 1 ≤ length d) {step : Step StoredSize} (e : step ≡ measured_on no_cells d (read_run (rows * channels) 0 d)) where
  pub measured_refused : {f : Refusal} → step ≡ Refused f → step ≡ stored_of d (read_stored channels rows 0 d)
  measured_refused {f} told = go (read_run (rows * channels) 0 d) refl (sym told ∙ e)
    where
      go : (g : Got (List (List ℕ))) → read_run (rows * channels) 0 d ≡ g → Refused f ≡ measured_on no_cells d g
          → step ≡ stored_of d (read_stored channels rows 0 d)
      go (got cells used) q t = absurd (no_true (cc))
      go (refused r) q t = told ∙ t ∙ sym (ap (stored_of d) (stored_refused channels rows d some q))

  module _ {size : StoredSize} (told : step ≡ Given size) where
    found : {R : Type 0} → ((cells : List (List ℕ)) → read_run (rows * channels) 0 d ≡ got cells size.used → size.shortest ≡ length (joined write_cell cells)
        → size.same ≡ same_bytes (take size.used d) (joined write_cell cells) → R) → R
    found {R} k = go (read_run (rows * channels) 0 d) refl (sym told ∙ e)
      where
        go : (g : Got (List (List ℕ))) → read_run (rows * channels) 0 d ≡ g → Given size ≡ measured_on no_cells d g → R
        go (got cells n) q t =
            let z : 0 + n ≡ size.used = cc in
            let u : n ≡ size.used = omega arith in
            let l : size.shortest ≡ 0 + length (joined write_cell cells) = cc in
            let b : size.same ≡ same_bytes (take n d) (joined write_cell cells) = cc in
            k cells (q ∙ ap (got cells) u) (omega arith) (rw u at b)
        go (refused r) q t = absurd (no_true (cc))

    pub measured_left : size.used < length d → Refused (record { number = 8; place = size.used }) ≡ stored_of d (read_stored channels rows 0 d)
    measured_left h = found λ cells reads l b. sym (ap (stored_of d) (stored_left channels rows d some reads h))

    module _ (all : length d ≤ size.used) {shortest : ℕ} (long : shortest ≡ size_by (rows * channels) size.shortest) where
      whole : {R : Type 0}
          → ((p : Pattern) → read_stored channels rows 0 d ≡ got p size.used → shortest ≡ length (write_stored p)
          → size.shortest ≡ length (joined write_cell p.cells)
          → size.same ≡ same_bytes d (joined write_cell p.cells) → R) → R
      whole k = found λ cells reads l b.
          let p : Pattern = record { rows = rows; cells = cells } in
          let same = (run_read (rows * channels) 0 d cells size.used reads).same in
          let fives : Fives cells = rw same (in_fives (rows * channels) d) in
          let count : rows * channels ≡ length cells = sym (ap length same ∙ in_length (rows * channels) d) in
          k p (stored_whole channels rows d some reads all) (long ∙ ap₂ size_by count l ∙ size_by_lem p fives) l
          (b ∙ ap (λ (x : List ℕ). same_bytes x (joined write_cell cells)) (take_all size.used d all))

      pub measured_nothing : shortest ≡ 0 → Given (record { used = size.used; shortest = 0; same = false }) ≡ stored_of d (read_stored channels rows 0 d)
      unfolding same_bytes
      measured_nothing z = whole λ p reads w l b.
          ap (λ (x : Bool). Given (record { used = size.used; shortest = 0; same = x })) (same_nothing d some)
          ∙ sym (ap (stored_of d) reads
          ∙ ap (λ (x : List ℕ). Given (record { used = size.used; shortest = length x; same = same_bytes d x })) (stored_nothing p (sym w ∙ z)))

      pub measured_whole : (shortest ≡ 0 → ⊥) → Given size ≡ stored_of d (read_stored channels rows 0 d)
      measured_whole z = whole λ p reads w l b.
          ap₂ (λ (n : ℕ) (x : Bool). Given (record { used = size.used; shortest = n; same = x })) l b
          ∙ sym (ap (stored_of d) reads
          ∙ ap (λ (x : List ℕ). Given (record { used = size.used; shortest = length x; same = same_bytes d x })) (stored_cells p (omega (arith, w))))
