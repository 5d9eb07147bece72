-- `line::put_decimal` meets its contract: a number below 10 is one digit, and another its tenth's digits and one more. Assumes nothing.
use mathlib.Core.Path.{ap}
use native.Mathlib.Omega.{arith}
use lib.ListN.{length}
use Rattle.line.proofs.DecimalLaws.{decimal_short, decimal_longer}
use Rattle.line.proofs.Put.{put_short, put_long}
use Rattle.line.proofs.+put_decimal.Goals as goal

pub bounds-line-at : goal.bounds-line-at
bounds-line-at t c = omega (arith, ap length (decimal_short c.args.number c.if-number-lt10.true), c.requires)

pub returns-then-number-lt10 : goal.returns-then-number-lt10
returns-then-number-lt10 t c =
    let s = put_short c.args.line.now c.args.at c.args.number c.last_digit.result c.last_digit.ensures c.if-number-lt10.true c.requires in
    record { place = s.0; memory = s.1 }

pub put_decimal-last-requires : goal.put_decimal-last-requires
put_decimal-last-requires t c = (
  omega (arith, c.if-number-lt10.false, c.decreases),
  omega (arith, decimal_longer c.args.number c.if-number-lt10.false, c.requires),
)

pub bounds-line-last : goal.bounds-line-last
bounds-line-last t c =
    omega (
      arith,
      decimal_longer c.args.number c.if-number-lt10.false,
      c.requires,
      c.put_decimal-last.ensures.place,
      c.put_decimal-last.auto.line,
    )

pub overflow_add-result-2 : goal.overflow_add-result-2
overflow_add-result-2 t c =
    omega (arith, decimal_longer c.args.number c.if-number-lt10.false, c.requires, c.put_decimal-last.ensures.place)

pub returns : goal.returns
returns t c =
    let e = c.put_decimal-last.ensures in
    let s = put_long c.args.line.now c.args.at c.args.number c.last_digit-2.result c.last_digit-2.ensures c.if-number-lt10.false c.requires (e.place, e.memory) in
    record { place = s.0; memory = s.1 }
