-- The causes' numbers; and what tests that are tried in order come to: the cause of the first that does not pass.
use Rattle.std.specs.Prelude.{ℕ, Bool, true, false, cond, eqb, List, [], ◌∷◌, Result, Ok, Err}
use Rattle.xm.specs.Got.{Test, passes, refusal_of}
use Rattle.refusal.specs.declared.Cause.{Cause}
use Rattle.refusal.specs.declared.Cause.TheVariants as cause

abbrev pub number_of : Cause → ℕ
number_of cause.PastEnd = 1
number_of cause.FileTooLong = 2
number_of cause.NoKind = 3
number_of cause.HeaderSize = 4
number_of cause.Count = 5
number_of cause.PatternHeader = 6
number_of cause.CellCut = 7
number_of cause.BytesLeft = 8
number_of cause.Note = 9
number_of cause.InstrumentHeader = 10
number_of cause.SampleHeaderSize = 11
number_of cause.WideAdpcm = 12
number_of cause.SampleHeader = 13
number_of cause.NoRoom = 14
number_of cause.PackedSize = 15
number_of cause.Argument = 16

-- The cause of a number; of one that no test has, some cause.
abbrev pub cause_of : ℕ → Cause
cause_of n =
    cond (eqb n 1) cause.PastEnd (
    cond (eqb n 2) cause.FileTooLong (
    cond (eqb n 3) cause.NoKind (
    cond (eqb n 4) cause.HeaderSize (
    cond (eqb n 5) cause.Count (
    cond (eqb n 6) cause.PatternHeader (
    cond (eqb n 7) cause.CellCut (
    cond (eqb n 8) cause.BytesLeft (
    cond (eqb n 9) cause.Note (
    cond (eqb n 10) cause.InstrumentHeader (
    cond (eqb n 11) cause.SampleHeaderSize (
    cond (eqb n 12) cause.WideAdpcm (
    cond (eqb n 13) cause.SampleHeader (
    cond (eqb n 14) cause.NoRoom (
    cond (eqb n 15) cause.PackedSize cause.Argument))))))))))))))

abbrev pub ensured : Bool → Cause → Result (Unit {0}) Cause
ensured true cause = Ok tt
ensured false cause = Err cause

-- All pass, or the cause of the first that does not.
abbrev pub tested : List Test → Result (Unit {0}) Cause
tested [] = Ok tt
tested (t ∷ ts) = cond (passes t) (tested ts) (Err (cause_of (refusal_of t).number))
