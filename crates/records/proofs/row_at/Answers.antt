-- `records::row_at` meets its contract: it is a look-up. Assumes nothing.
use Rattle.std.proofs.Common.{rules, ◌≡◌, ◌∙◌}
use Rattle.std.specs.Option.{ok_or, option_copied}
use Rattle.xm.specs.Got.{◌at◌}
use Rattle.refusal.specs.Refusal.{code_refusal}
use Rattle.records.proofs.RecordsLaws.{row_asked}
use Rattle.records.proofs.row_at.Goals as goal

pub returns : goal.returns
returns c =
    let given : c.ok_or.result ≡ ok_or (option_copied c.get.result) (code_refusal (16 at 0)) = search rules in
    given ∙ row_asked c.args.samples.now c.args.number c.get.result c.get.ensures.lookup
