-- `adpcm::decode_adpcm` meets its contract: the law of each exit. Assumes nothing.
use native.Mathlib.Omega.{arith}
use Rattle.xm.proofs.Adpcm.{adpcm_unfit, adpcm_room}
use Rattle.adpcm.proofs.Exits.{decode_refused, decode_done}
use Rattle.adpcm.proofs.decode_adpcm.Goals as goal

pub returns-then-bytes-adpcm_size : goal.returns-then-bytes-adpcm_size
returns-then-bytes-adpcm_size c =
    let a = c.args in
    let both = decode_refused a.count a.bytes.now a.values.now c.at.ensures
    (adpcm_unfit _ _ _ (λ fit. omega (arith, fit, c.if-bytes-adpcm_size.true, c.adpcm_size.ensures))) in
    record { answer = both.0; memory = both.1 }

pub returns-then-values-count : goal.returns-then-values-count
returns-then-values-count c =
    let a = c.args in
    let both = decode_refused a.count a.bytes.now a.values.now c.at-then-values-count.ensures
    (adpcm_room _ _ _ (omega (arith, c.if-bytes-adpcm_size.false, c.adpcm_size.ensures)) (omega arith)) in
    record { answer = both.0; memory = both.1 }

pub returns : goal.returns
returns c =
    let a = c.args in
    let both = decode_done a.count a.bytes.now a.values.now (omega (arith, c.if-bytes-adpcm_size.false, c.adpcm_size.ensures)) (omega arith)
    c.write_values.ensures in
    record { answer = both.0; memory = both.1 }
