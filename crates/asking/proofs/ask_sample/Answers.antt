-- `asking::ask_sample` meets its contract. Assumes nothing.
use Rattle.std.proofs.Common.{rules, ◌≡◌, ◌≤◌, ◌∙◌, length}
use Rattle.std.specs.Prelude.{Err}
use Rattle.xm.specs.Got.{◌at◌}
use Rattle.refusal.specs.Refusal.{code_refusal}
use Rattle.asking.proofs.AskLaws.{row_asked, none_asked}
use Rattle.asking.proofs.ask_sample.Goals as goal

pub returns-in_err-row : goal.returns-in_err-row
returns-in_err-row c =
    let rows = c.as_chunks.ensures in
    let beyond = rw c.in_err-row.ensures.ok_part at c.get.ensures.lookup in
    let passed : c.from_residual.result ≡ Err (code_refusal (16 at 0)) = search rules in
    passed ∙ none_asked c.args.file.now c.args.samples.now c.args.number rows.front rows.front_len (search rules)

pub returns : goal.returns
returns c =
    let rows = c.as_chunks.ensures in
    let given = rw c.in_ok-row.ensures.ok_part at c.get.ensures.lookup in
    row_asked c.args.file.now c.args.samples.now c.args.number rows.front rows.front_len {row = c.in_ok-row.row.now} (search rules) (search rules) c.ask_row.ensures
