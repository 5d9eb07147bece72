-- `heads::sample_head` meets its contract: what is read of the header is as its bytes have it. Assumes nothing.
use native.Mathlib.Omega.{arith}
use lib.ListN.{drop, length-drop}
use Rattle.heads.proofs.SampleLaws.{head_alike, whole_alike, cut_alike}
use Rattle.heads.proofs.sample_head.Goals as goal

pub returns-then-size-ge18 : goal.returns-then-size-ge18
returns-then-size-ge18 c =
    let a = c.args in
    head_alike (whole_alike a.size (drop a.at a.file.now) (omega arith) (omega (arith, length-drop a.at a.file.now))) c.fields_at.ensures

pub returns : goal.returns
returns c =
    let a = c.args in
    head_alike (cut_alike a.size (drop a.at a.file.now)) c.cut_fields.ensures
