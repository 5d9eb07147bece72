-- The law of each exit, at the width that was found. Assumes nothing.
use Rattle.std.proofs.Common.{arith, refl}
use Rattle.xm.proofs.Delta.{decoding_width, decoding_odd}
use Rattle.samples.proofs.Exits.{decode_refused}
use Rattle.samples.proofs.decode.Goals as goal

pub returns-in_default : goal.returns-in_default
returns-in_default c =
    let a = c.args in
    let both = decode_refused a.width a.bytes.now a.values.now c.at-in_default.ensures (decoding_width _ _ _ (λ e. absurd (omega arith)) (λ e. absurd (omega arith))) in
    record { answer = both.0; memory = both.1 }

pub returns-then-bytes-ne0 : goal.returns-then-bytes-ne0
returns-then-bytes-ne0 c =
    let a = c.args in
    rw c.in-16.is
    (let both = decode_refused 16 a.bytes.now a.values.now c.at.ensures (decoding_odd 16 _ _ refl (λ paired. c.if-bytes-ne0.true (paired refl))) in
    record { answer = both.0; memory = both.1 })
