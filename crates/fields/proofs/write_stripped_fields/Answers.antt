-- `fields::write_stripped_fields` meets its contract: I ends among name, type and k, or behind them. Assumes nothing.
use Prim.Native.Nat.{◌+◌, ◌-◌}
use mathlib.Core.Path.{refl, ap}
use native.Mathlib.Omega.{arith}
use lib.ListN.{take, drop}
use Rattle.xm.specs.Number.{long}
use Rattle.xm.specs.ModuleKind.{padded}
use Rattle.xm.proofs.Cut.{padded-length}
use Rattle.xm.proofs.Lay.{laid_first, laid_part, laid_last}
use Rattle.fields.specs.Fields.{voice_in, fields_in}
use Rattle.fields.proofs.CutLaws.{named, own_bytes}
use Rattle.fields.proofs.PieceLaws.{fields_short, fields_behind, fields_size}
use Rattle.fields.proofs.write_stripped_fields.Goals as goal

pub returns-then-end-le29 : goal.returns-then-end-le29
returns-then-end-le29 c =
    let a = c.args in
    let form = a.form in
    let s = take (a.at + a.size - a.at) (drop a.at a.file.now) in
    let first = laid_first a.out.now (fields_in form.size form.head_size s) (long form.size) _ refl
    (omega (arith, fields_size form.size form.head_size s (omega arith))) refl c.put.ensures in
    named a.out.now (laid_last first (fields_short form.size (drop 4 s) (voice_in form.head_size s) (omega arith)) c.write_cut.ensures)
    (ap (fields_in form.size form.head_size) (own_bytes a.at a.size a.file.now))

pub returns : goal.returns
returns c =
    let a = c.args in
    let form = a.form in
    let s = take (a.at + a.size - a.at) (drop a.at a.file.now) in
    let first = laid_first a.out.now (fields_in form.size form.head_size s) (long form.size) _ refl
    (omega (arith, fields_size form.size form.head_size s (omega arith))) refl c.put.ensures in
    let second = laid_part first (padded 25 (drop 4 s)) _ {next = 29}
    (fields_behind form.size (drop 4 s) (voice_in form.head_size s) (omega arith)) refl (omega (arith, padded-length 25 (drop 4 s)))
    c.write_cut-2.ensures in
    named a.out.now (laid_last second refl c.write_stripped_voice.ensures) (ap (fields_in form.size form.head_size) (own_bytes a.at a.size a.file.now))
