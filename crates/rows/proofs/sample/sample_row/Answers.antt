-- `rows::sample::sample_row` meets its contract. Assumes nothing.
use Prim.Native.Nat.{ℕ, ◌%◌}
use mathlib.Core.Bool.{Bool, cond}
use mathlib.Core.Path.{◌≡◌, refl, ap, ap₂, ◌∙◌}
use native.Mathlib.Omega.{arith}
use mir.Syntax.{w8}
use mir.Facts.{to_z-of_z}
use Rattle.xm.specs.Sample.{wide_by, loops_by, in_samples, loop_kind, loop_from, loop_count}
use Rattle.heads.specs.declared.SampleHead.{SampleHead}
use Rattle.heads.proofs.SampleLaws.{head_size}
use Rattle.rows.proofs.SampleLaws.{row_path}
use Rattle.rows.proofs.sample.sample_row.Goals as goal

-- A signed field is its own number again: it fits, which the step before gives
pub returns : goal.returns
unfolding loop_kind loop_from loop_count
returns c =
    let at = c.sample_head-sample.ensures in
    let head = at.value in
    let looping = c.loops-looping.ensures in
    let fits = c.struct_told-1.given in
    row_path refl refl (omega (arith, c.data_size.ensures, head_size at))
    (c.width_of.ensures ∙ ap (λ (b : Bool). cond b 16 8) c.is_wide-wide.ensures ∙ ap (λ (h : SampleHead). cond (wide_by h.form) 16 8) head)
    (c.loop_number.ensures ∙ looped looping c.loop_bits.ensures
    ∙ ap (λ (h : SampleHead). cond (loops_by h.form h.loop_length) (h.form % 4) 0) head)
    (c.loop_number-2.ensures ∙ looped looping (c.in_samples.ensures ∙ counted _ c.is_wide-wide.ensures)
    ∙ ap (λ (h : SampleHead). cond (loops_by h.form h.loop_length) (in_samples (cond (wide_by h.form) 16 8) h.loop_start) 0) head)
    (c.loop_number-3.ensures ∙ looped looping (c.in_samples-2.ensures ∙ counted _ c.is_wide-wide.ensures)
    ∙ ap (λ (h : SampleHead). cond (loops_by h.form h.loop_length) (in_samples (cond (wide_by h.form) 16 8) h.loop_length) 0) head)
    (to_z-of_z {w = w8} (record { sfits = fits.1.1.1.0.1 }) ∙ ap SampleHead.finetune head)
    (to_z-of_z {w = w8} (record { sfits = fits.1.1.1.1.1.0.1 }) ∙ ap SampleHead.relative_note head)
  where
    looped : {loops loops' : Bool} {n m : ℕ} → loops ≡ loops' → n ≡ m → cond loops n 0 ≡ cond loops' m 0
    looped p q = ap₂ (λ (b : Bool) (k : ℕ). cond b k 0) p q

    counted : {wide wide' : Bool} (n : ℕ) → wide ≡ wide' → in_samples (cond wide 16 8) n ≡ in_samples (cond wide' 16 8) n
    counted n e = ap (λ (b : Bool). in_samples (cond b 16 8) n) e
