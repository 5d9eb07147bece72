-- `forms::kept_in` meets its contract: none, or up to the offset or the structure's end. Assumes nothing.
use Prim.Native.Nat.{min}
use mathlib.Core.Path.{◌≡◌}
use native.Mathlib.Omega.{arith}
use borrow.Author.Rules.{rules}
use Rattle.forms.proofs.KeptLaws.{kept_past, kept_least}
use Rattle.forms.proofs.kept_in.Goals as goal

pub returns-then-size-from-clause-value : goal.returns-then-size-from-clause-value
returns-then-size-from-clause-value c = let a = c.args in (kept_past a.file.now a.at a.size a.from a.to (omega arith)).0

pub returns : goal.returns
returns c =
    let a = c.args in
    let least : c.min.result ≡ min a.size a.to = search rules in
    let both = kept_least a.file.now a.at a.size a.from a.to (omega arith) (omega arith) (omega (arith, least)) c.kept.ensures in
    record { value = both.0; upper_bound = both.1 }
