-- `forms::smallest_size` meets its contract, by the last field that is not 0: the type or the name, the voice, H, or k. Assumes nothing.
use Prim.Native.Nat.{ℕ}
use mathlib.Core.List.{List}
use native.Mathlib.Omega.{arith}
use lib.ListN.{take, drop}
use Rattle.forms.proofs.FieldLaws.{fields_none, fields_voice, fields_head, fields_count}
use Rattle.forms.proofs.smallest_size.Goals as goal
use Rattle.forms.proofs.smallest_size.Goals.{Start}

-- The instrument's own bytes
abbrev own : Start → List ℕ
own s = take s.args.size (drop s.args.at s.args.file.now)

pub returns-then-samples-eq0-clause-value : goal.returns-then-samples-eq0-clause-value
returns-then-samples-eq0-clause-value c =
    let none = c.if-samples-eq0.true in
    let e = fields_none (own (goal.at.returns-then-samples-eq0-clause-value c).Start) c.args.samples c.args.head_size none (c.requires.head_size_value none) c.kept_in.ensures.value in
    omega arith

pub returns-then-voice-gt0-clause-value : goal.returns-then-voice-gt0-clause-value
returns-then-voice-gt0-clause-value c =
    let e = fields_voice (own (goal.at.returns-then-voice-gt0-clause-value c).Start) c.args.samples c.args.head_size (omega arith) (omega arith) (omega arith) c.kept_in-voice.ensures.value
    c.if-voice-gt0.true in
    omega arith

pub returns-then-head_size-gt0-clause-value : goal.returns-then-head_size-gt0-clause-value
returns-then-head_size-gt0-clause-value c =
    let e = fields_head (own (goal.at.returns-then-head_size-gt0-clause-value c).Start) c.args.samples c.args.head_size (omega arith) (omega arith) (omega arith) (omega arith) (omega arith) in
    omega arith

pub returns-clause-value : goal.returns-clause-value
returns-clause-value c =
    let e = fields_count (own (goal.at.returns-clause-value c).Start) c.args.samples c.args.head_size (omega arith) (omega arith) (omega arith) (omega arith) (omega arith) in
    omega arith
