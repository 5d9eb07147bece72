-- The bytes of the differences of what is left, from the residue before, are still to be laid. Assumes nothing.
use Rattle.std.proofs.Common.{ℕ, ◌*◌, length, ap, ◌∙◌, arith, rules}
use Rattle.xm.specs.Delta.{residue}
use Rattle.xm.proofs.Lay.{laid_done}
use Rattle.samples.proofs.Loops.{code_start, turn_room, code_turn, coded_end}
use Rattle.samples.proofs.Exits.{code_short, code_done}
use Rattle.samples.proofs.code_stored.Goals as goal

pub returns-then-count-values : goal.returns-then-count-values
returns-then-count-values g c =
    let a = c.args in
    let both = code_short g.S.Stored.width g.met.S.Stored.known a.values.now c.requires a.bytes.now c.at.ensures (omega (arith, c.count.ensures)) in
    record { answer = both.0; memory = both.1 }

pub loop-i-init : goal.loop-i-init
loop-i-init g c =
    code_start g.S.Stored.width g.met.S.Stored.known c.args.values.now g.S.Stored.BYTES _ c.args.bytes.now c.zero-before.ensures
    (omega (arith, c.count.ensures))

pub put-requires : goal.put-requires
put-requires g c =
    turn_room g.S.Stored.width g.met.S.Stored.known c.args.values.now _ c.loop-i.i g.S.Stored.BYTES _ g.met.S.Stored.whole c.loop-i.invariant c.loop-i-test.true

pub loop-i-preserved : goal.loop-i-preserved
loop-i-preserved g c =
    let s = g.S.Stored in
    code_turn s.width g.met.S.Stored.known c.args.values.now _ c.loop-i.i s.BYTES _ g.met.S.Stored.whole c.loop-i.invariant c.loop-i-test.true _ _ _
    (c.of-next.ensures ∙ ap (residue s.width) (search rules)) c.behind.ensures c.put.ensures (omega arith)

pub returns : goal.returns
returns g c =
    let s = g.S.Stored in
    let a = c.args in
    let laid = laid_done c.loop-i.invariant (coded_end s.width (s.number c.loop-i.before) c.loop-i.i a.values.now (omega arith)) in
    let both = code_done s.width g.met.S.Stored.known a.values.now c.requires a.bytes.now
    (ap (λ (n : ℕ). n * length a.values.now) (omega (arith, c.BYTES.ensures, g.met.S.Stored.whole)))
    (omega (arith, c.count.ensures))
    laid in
    record { answer = both.0; memory = both.1 }
