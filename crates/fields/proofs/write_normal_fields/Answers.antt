-- `fields::write_normal_fields` meets its contract: I ends behind k, or behind the reserved bytes. Assumes nothing.
use Prim.Native.Nat.{ℕ, ◌+◌, ◌-◌}
use mathlib.Core.List.{List, ◌++◌}
use mathlib.Core.Path.{◌≡◌, refl, ap, ◌∙◌}
use native.Mathlib.Omega.{arith}
use lib.ListN.{take, drop}
use Rattle.xm.specs.Number.{long}
use Rattle.xm.specs.ModuleKind.{padded}
use Rattle.xm.specs.Answer.{in_front}
use Rattle.xm.specs.Instrument.{least_instrument}
use Rattle.xm.proofs.Cut.{padded-length}
use Rattle.xm.proofs.Lay.{Laid, laid_first, laid_part, laid_last}
use Rattle.forms.proofs.FormLaws.{least_some, least_low}
use Rattle.fields.specs.Fields.{voice_in, fields_in}
use Rattle.fields.proofs.CutLaws.{named, own_bytes}
use Rattle.fields.proofs.PieceLaws.{fields_short, fields_behind, fields_size}
use Rattle.fields.proofs.write_normal_fields.Goals as goal
use Rattle.fields.proofs.write_normal_fields.Goals.{Start}

-- I is written, and the fields are still to be laid
module _ (s : Start) where
  abbrev own : List ℕ
  own = take (s.args.at + s.args.size - s.args.at) (drop s.args.at s.args.file.now)

  abbrev I : ℕ
  I = least_instrument s.args.samples

  begun : (size : ℕ) {out : List ℕ} → size ≡ I → out ≡ in_front (long size) s.args.out.now
      → Laid s.args.out.now (fields_in I 40 own) out 4 (padded (I - 4) (padded 25 (drop 4 own) ++ voice_in 40 own))
  begun size e w =
      laid_first s.args.out.now (fields_in I 40 own) (long I) _ refl
      (omega (arith, fields_size I 40 own (omega (arith, least_low s.args.samples)), s.requires.samples_in_bounds)) refl (named s.args.out.now w (ap long e))

pub returns-else-samples-ne0 : goal.returns-else-samples-ne0
returns-else-samples-ne0 c =
    let n : least_instrument c.args.samples ≡ 29 = ap least_instrument c.if-samples-ne0.false in
    let few : I (goal.at.returns-else-samples-ne0 c).Start - 4 ≡ 25 = omega arith in
    named c.args.out.now (laid_last (begun (goal.at.returns-else-samples-ne0 c).Start _ c.least_size.ensures c.put.ensures)
    (fields_short (I (goal.at.returns-else-samples-ne0 c).Start) (drop 4 (own (goal.at.returns-else-samples-ne0 c).Start)) (voice_in 40 (own (goal.at.returns-else-samples-ne0 c).Start)) (omega arith) ∙ ap (λ (k : ℕ). padded k (drop 4 (own (goal.at.returns-else-samples-ne0 c).Start))) few)
    c.write_front.ensures) (ap (fields_in (I (goal.at.returns-else-samples-ne0 c).Start) 40) (own_bytes c.args.at c.args.size c.args.file.now))

pub returns-then-samples-ne0 : goal.returns-then-samples-ne0
returns-then-samples-ne0 c =
    let n = least_some c.args.samples c.if-samples-ne0.true in
    let many : I (goal.at.returns-then-samples-ne0 c).Start - 29 ≡ 234 = omega arith in
    let front =
    laid_part (begun (goal.at.returns-then-samples-ne0 c).Start _ c.least_size.ensures c.put.ensures) (padded 25 (drop 4 (own (goal.at.returns-then-samples-ne0 c).Start))) _ {next = 29}
    (fields_behind (I (goal.at.returns-then-samples-ne0 c).Start) (drop 4 (own (goal.at.returns-then-samples-ne0 c).Start)) (voice_in 40 (own (goal.at.returns-then-samples-ne0 c).Start)) (omega arith)) refl (omega (arith, padded-length 25 (drop 4 (own (goal.at.returns-then-samples-ne0 c).Start))))
    c.write_front.ensures in
    named c.args.out.now (laid_last front (ap (λ (k : ℕ). padded k (voice_in 40 (own (goal.at.returns-then-samples-ne0 c).Start))) many) c.write_normal_voice.ensures)
    (ap (fields_in (I (goal.at.returns-then-samples-ne0 c).Start) 40) (own_bytes c.args.at c.args.size c.args.file.now))
