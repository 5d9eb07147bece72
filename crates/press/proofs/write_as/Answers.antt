-- `press::write_as` meets its contract: the law of each exit. Assumes nothing.
use mathlib.Core.Path.{◌≡◌}
use native.Mathlib.Omega.{arith}
use Rattle.std.proofs.Common.{rules, Err}
use Rattle.press.proofs.Exits.{plain, refused_so, accepted_size, too_long, no_room, written_so}
use Rattle.press.proofs.write_as.Goals as goal

pub returns-in_err-size : goal.returns-in_err-size
returns-in_err-size c =
    let passed : c.from_residual.result ≡ Err c.in_err-size.field-0.0 = search rules in
    let both = refused_so _ _ c.args.out.now c.args.kept passed c.in_err-size.ensures.answer in
    record { answer = both.0; memory = both.1 }

pub returns-then-size-gt-FILE_MOST : goal.returns-then-size-gt-FILE_MOST
returns-then-size-gt-FILE_MOST c =
    let both = too_long _ _ c.args.out.now c.in_ok-size.ensures.answer (plain c.type_inv.file) _ c.requires (omega arith) c.at.ensures in
    record { answer = both.0; memory = both.1 }

pub returns-then-out-size : goal.returns-then-out-size
returns-then-out-size c =
    let both = no_room _ _ c.args.out.now c.in_ok-size.ensures.answer (plain c.type_inv.file) _ c.requires (omega arith) (omega arith) c.at-then-out-size.ensures in
    record { answer = both.0; memory = both.1 }

pub write_module-requires-clause-file_in_bounds : goal.write_module-requires-clause-file_in_bounds
write_module-requires-clause-file_in_bounds c =
    omega (arith, accepted_size _ _ c.args.out.now c.in_ok-size.ensures.answer (plain c.type_inv.file) c.args.kept)

pub returns : goal.returns
returns c =
    let both = written_so _ _ c.args.out.now c.in_ok-size.ensures.answer (plain c.type_inv.file) _ c.requires (omega arith) (omega arith) c.write_module.ensures in
    record { answer = both.0; memory = both.1 }
