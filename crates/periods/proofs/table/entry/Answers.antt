-- Its numbers are the rule's, all of them: computed. Assumes nothing.
use Rattle.std.proofs.Common.{ap, ◌∙◌, zero-add}
use Rattle.periods.specs.Period.{period_tab, doubled, sum_at, entry_e}
use Rattle.periods.proofs.Tabulate.{tabulated}
use Rattle.periods.proofs.table.entry.Goals as goal

pub returns : goal.returns
unfolding entry_e sum_at doubled period_tab
returns c = tabulated entry_e 0 1536 c.args.place c.requires ∙ ap entry_e (zero-add c.args.place)
