-- The values of what is left, from the sum so far, are still to be laid. Assumes nothing.
use Rattle.std.proofs.Common.{◌≡◌, ℕ, ◌+◌, ◌-◌, ◌*◌, ◌%◌, ◌^◌, ◌<◌, ◌≤◌, length, get_or, refl, ap, ◌∙◌, arith, rules}
use Rattle.xm.specs.Delta.{decoded, stored_numbers}
use Rattle.xm.proofs.Delta.{values_end}
use Rattle.xm.proofs.Lay.{laid_none, laid_done}
use Rattle.samples.proofs.Loops.{decode_turn, decode_pair, length-decoded}
use Rattle.samples.proofs.Exits.{decode_short, decode_done}
use Rattle.samples.proofs.decode_stored.Goals as goal

pub returns-then-values-count : goal.returns-then-values-count
returns-then-values-count g c =
    let a = c.args in
    let both = decode_short g.S.Stored.width g.met.S.Stored.known a.bytes.now c.requires a.values.now c.at.ensures (omega (arith, c.count-count.ensures)) in
    record { answer = both.0; memory = both.1 }

pub loop-i-init : goal.loop-i-init
unfolding decoded
loop-i-init g c =
    rw c.zero-sum.ensures (laid_none _ _ (omega (arith, c.count-count.ensures, length-decoded g.S.Stored.width c.args.bytes.now)))

pub loop-i-preserved : goal.loop-i-preserved
loop-i-preserved g c =
    let s = g.S.Stored in
    let stored = stored_numbers s.width c.args.bytes.now in
    let sum = s.number c.loop-i.sum in
    let first = s.number c.plus-first.result in
    decode_pair s.width sum (2 * c.loop-i.i) stored c.loop-i.invariant (omega (arith, c.loop-i-test.true, c.count-count.ensures)) first _ _ _ _
    (c.plus-first.ensures ∙ ap (λ (d : ℕ). (sum + d) % 2 ^ s.width) c.at-in-loop-i.ensures)
    (c.plus-sum.ensures ∙ ap (λ (d : ℕ). (first + d) % 2 ^ s.width) c.at-in-loop-i-2.ensures)
    (omega arith)
    (search rules)
    (search rules)

pub returns-then-count-eq0 : goal.returns-then-count-eq0
returns-then-count-eq0 g c =
    let s = g.S.Stored in
    let a = c.args in
    let stored = stored_numbers s.width a.bytes.now in
    let laid = laid_done c.loop-i.invariant (values_end s.width (s.number c.loop-i.sum) (2 * c.loop-i.i) stored (omega (arith, c.count-count.ensures))) in
    let both = decode_done s.width g.met.S.Stored.known a.bytes.now c.requires a.values.now c.count-count.ensures (omega arith) laid in
    record { answer = both.0; memory = both.1 }

pub returns : goal.returns
returns g c =
    let s = g.S.Stored in
    let a = c.args in
    let stored = stored_numbers s.width a.bytes.now in
    let sum = s.number c.loop-i.sum in
    let last : c.count-count.result - 1 ≡ 2 * c.loop-i.i = omega arith in
    let past : length stored ≤ 2 * c.loop-i.i + 1 = omega (arith, c.count-count.ensures) in
    let inside : 2 * c.loop-i.i < length stored = omega (arith, c.count-count.ensures) in
    let enough : c.count-count.result ≤ length a.values.now = omega arith in
    let added = c.plus-sum-2.ensures ∙ ap (λ (d : ℕ). (sum + d) % 2 ^ s.width) (c.at-2.ensures ∙ ap (λ (k : ℕ). get_or stored k 0) last) in
    let turn = decode_turn s.width sum (2 * c.loop-i.i) stored c.loop-i.invariant inside _ _ _ added refl (search rules) in
    let both = decode_done s.width g.met.S.Stored.known a.bytes.now c.requires a.values.now c.count-count.ensures enough
    (laid_done turn (values_end s.width _ (2 * c.loop-i.i + 1) stored past)) in
    rw last (record { answer = both.0; memory = both.1 })
