-- `reading::read_full` meets its contract: a read adds the bytes that it gave behind those that stand there. Assumes nothing.
use Rattle.std.proofs.Common.{◌≡◌, ℕ, ◌+◌, ◌-◌, ◌≤◌, List, ◌++◌, rules, length, take, drop, sym, ap, ◌∙◌, subst, le_refl, drop_at, length-take-le}
use Rattle.std.proofs.lemmas.Slice.{take-put_mid_below}
use Rattle.std.specs.Io.KnownBytes.{Consumes}
use Rattle.std.proofs.KnownBytes.{Consumes-trans}
use borrow.Rule.Slice.PartMut.{put_mid, post_of}
use lib.Seq.{take-add, take-append-le}
use Rattle.reading.proofs.read_full.Goals as goal

-- What stands in front of the part that was lent, and then what the part begins with
taken : (from room count : ℕ) (memory part : List ℕ) → from ≤ length memory → count ≤ length part
    → take from memory ++ take count part ≡ take (from + count) (put_mid from room memory part)
taken from room count memory part within fits =
    let filled : List ℕ = put_mid from room memory part in
    let front : take from filled ≡ take from memory = take-put_mid_below from room memory part from (le_refl from) within in
    let behind : drop from filled ≡ part ++ post_of from room memory = drop_at (take from memory) (part ++ post_of from room memory) from (length-take-le from memory within) in
    sym
    (take-add from count filled ∙ ap (λ bytes. bytes ++ take count (drop from filled)) front
    ∙ ap (λ bytes. take from memory ++ bytes) (ap (take count) behind ∙ take-append-le count part (post_of from room memory) fits))

pub loop-done-preserved : goal.loop-done-preserved
loop-done-preserved g c =
    let from = c.loop-done.done in
    let memory = c.loop-done.memory in (
      search rules,
      subst (Consumes _ _) (taken from (length memory - from) c.in-Ok.count memory c.read.new.buf c.loop-done.invariant.0 c.in-Ok.ensures.bound.0)
          (Consumes-trans _ _ _ _ _ c.loop-done.invariant.1 c.in-Ok.ensures.bytes.0),
    )
