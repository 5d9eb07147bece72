-- The law of each exit. Assumes nothing.
use Rattle.std.proofs.Common.{arith, sym, ◌∙◌}
use Rattle.periods.proofs.Tuning.{refused, note_refused, exit_finetune, exit_below, exit_given, q_most}
use Rattle.periods.proofs.period.Goals.{then-note-gt-NOTE_MOST-via-then-note-gt-NOTE_MOST, then-note-gt-NOTE_MOST-via-else-note-gt-NOTE_MOST+then-not-finetune_fits}
use Rattle.periods.proofs.period.Goals as goal

pub returns-then-note-gt-NOTE_MOST : goal.returns-then-note-gt-NOTE_MOST
returns-then-note-gt-NOTE_MOST c =
    let a = c.args in
    refused a.note a.finetune c.at.ensures
    (elim c.then-note-gt-NOTE_MOST.branch [
      | then-note-gt-NOTE_MOST-via-then-note-gt-NOTE_MOST w ↦ note_refused a.note a.finetune (omega arith)
      | then-note-gt-NOTE_MOST-via-else-note-gt-NOTE_MOST+then-not-finetune_fits w ↦ exit_finetune a.note a.finetune c.ranges.finetune (omega arith) (sym w.finetune_fits.ensures ∙ w.if-not-finetune_fits.true)
    ])

pub returns-then-q-lt0 : goal.returns-then-q-lt0
returns-then-q-lt0 c =
    exit_below c.args.note c.args.finetune c.ranges.finetune (omega arith) (sym c.finetune_fits.ensures ∙ c.if-not-finetune_fits.false) c.position-q.ensures
    c.at-then-q-lt0.ensures c.if-q-lt0.true

pub period_at-requires-clause-q_small : goal.period_at-requires-clause-q_small
period_at-requires-clause-q_small c =
    q_most c.args.note c.args.finetune c.ranges.finetune (omega arith) (sym c.finetune_fits.ensures ∙ c.if-not-finetune_fits.false) c.position-q.ensures c.if-q-lt0.false

pub returns : goal.returns
returns c =
    exit_given c.args.note c.args.finetune c.ranges.finetune (omega arith) (sym c.finetune_fits.ensures ∙ c.if-not-finetune_fits.false) c.position-q.ensures c.if-q-lt0.false
    c.what_remains.ensures.value c.period_at.ensures
