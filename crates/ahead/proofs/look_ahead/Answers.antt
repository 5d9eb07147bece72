-- `ahead::look_ahead` meets its contract. Assumes nothing.
use mathlib.Core.Path.{refl, ap}
use Prim.Native.Nat.{ℕ, ◌*◌}
use native.Mathlib.Omega.{arith}
use Rattle.ahead.proofs.AheadLaws.{ahead_run, ahead_one}
use Rattle.ahead.proofs.look_ahead.Goals as goal

pub returns-then-eight-eq128 : goal.returns-then-eight-eq128
returns-then-eight-eq128 c =
    let a = c.args in
    rw c.ahead_by.ensures
    (ahead_run a.stored.now a.place a.eight (λ i. omega (arith, c.type_inv.stored i)) c.requires.eight_value _ _
    c.if-eight-eq128.true c.empty_run-empty.ensures refl)

pub returns : goal.returns
returns c =
    let a = c.args in
    rw c.ahead_by-2.ensures
    (ahead_one a.stored.now a.place a.eight (λ i. omega (arith, c.type_inv.stored i)) c.requires.eight_value _
    c.if-eight-eq128.false
    (ap (λ (n : ℕ). 8 * n) c.first_length.ensures.value))
